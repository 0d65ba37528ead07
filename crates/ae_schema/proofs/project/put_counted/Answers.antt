use Rattle.ae_schema.proofs.Put.{more_lines}
use Rattle.ae_schema.proofs.project.put_counted.Goals as goal

pub returns-clause-put : goal.returns-clause-put
returns-clause-put c =
    let out = c.args.out.now.items in
    more_lines out _ _ _ _ (more_lines out _ _ _ _ c.in_ok-put_line.ensures.put c.in_ok-put_list_line.ensures.put) c.in_ok-put_line-2.ensures.put
