use Rattle.ae_schema.proofs.Put.{more_lines}
use Rattle.ae_schema.proofs.change.put_rows.Goals as goal

pub returns-clause-put : goal.returns-clause-put
returns-clause-put c = more_lines c.args.out.now.items _ _ _ _ c.in_ok-put_lines.ensures.put c.in_ok-put_line.ensures.put
