use Rattle.ae_schema.proofs.Put.{more_lines}
use Rattle.ae_schema.proofs.change.put_people.Goals as goal

pub returns-clause-put : goal.returns-clause-put
returns-clause-put c =
    let out = c.args.out.now.items in
    more_lines out _ _ _ _ (more_lines out _ _ _ _ c.in_ok-put_lines.ensures.put c.in_ok-put_lines-2.ensures.put) c.in_ok-put_line.ensures.put
