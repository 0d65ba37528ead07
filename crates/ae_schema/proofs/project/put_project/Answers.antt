use Rattle.ae_schema.proofs.Put.{more_lines}
use Rattle.ae_schema.proofs.project.put_project.Goals as goal

pub returns-clause-put : goal.returns-clause-put
returns-clause-put c =
    let out = c.args.out.now.items in
    let two = more_lines out _ _ _ _ c.in_ok-put_identity.ensures.put c.in_ok-put_permissions.ensures in
    let three = more_lines out _ _ _ _ two c.in_ok-put_defaults.ensures in
    more_lines out _ _ _ _ (more_lines out _ _ _ _ three c.in_ok-put_roles.ensures.put) c.in_ok-put_counted.ensures.put
