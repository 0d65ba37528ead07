-- What is read is given, and a bad line refused.
use Rattle.std.proofs.Common.{sym, ap}
use Rattle.ae_machine.specs.Attributes.{or_bad_line}
use Rattle.ae_machine.proofs.Asked.{line-refused}
use Rattle.ae_machine.proofs.attributes.project_bytes.Goals as goal

pub returns-in-Ok : goal.returns-in-Ok
returns-in-Ok c = rw (← c.bytes.ensures.value) (ap or_bad_line (sym c.in-Ok.ensures))

pub returns-in-Err-Line : goal.returns-in-Err-Line
returns-in-Err-Line c = rw (← c.bytes.ensures.value) (line-refused _ c.in-Err-Line.field-0 _ c.in-Err-Line.ensures c.in-Err-Line.field-0-is)
