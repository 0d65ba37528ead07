use Rattle.ae_schema.proofs.Put.{more_lines}
use Rattle.ae_schema.proofs.value.put_lines.Goals as goal

pub returns-clause-put : goal.returns-clause-put
returns-clause-put g c = more_lines c.args.out.now.items _ _ _ _ c.in_ok-put_line.ensures.put c.in_ok-put_line-2.ensures.put
