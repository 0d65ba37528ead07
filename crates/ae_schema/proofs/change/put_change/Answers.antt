use Rattle.ae_schema.proofs.Put.{more_lines}
use Rattle.ae_schema.proofs.change.put_change.Goals as goal

pub returns-clause-put : goal.returns-clause-put
returns-clause-put c =
    let out = c.args.out.now.items in
    let two = more_lines out _ _ _ _ c.in_ok-put_subject.ensures.put c.in_ok-put_exemptions.ensures in
    more_lines out _ _ _ _ (more_lines out _ _ _ _ two c.in_ok-put_people.ensures.put) c.in_ok-put_rows.ensures.put
