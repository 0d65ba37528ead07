use Rattle.std.proofs.Common.{◌∙◌, sym, ap, Ok, Err}
use Rattle.ae_exec.specs.Endings.{memory, refused}
use Rattle.ae_reporting.specs.Reports.{bad, out_of_range, printed}
use Rattle.ae_reporting.proofs.printing.print.Goals as goal

pub returns-in-Err-Bad-clause-fails : goal.returns-in-Err-Bad-clause-fails
returns-in-Err-Bad-clause-fails c = rw c.in-Err-Bad.line-is (refused _ (bad _ (c.in-Err-Bad.ensures.refused _ (ap Err c.in-Err-Bad.field-0-is))))

pub returns-in-Err-Memory-clause-fails : goal.returns-in-Err-Memory-clause-fails
returns-in-Err-Memory-clause-fails c = memory

pub returns-in-Ok-run_counted-clause-printed : goal.returns-in-Ok-run_counted-clause-printed
returns-in-Ok-run_counted-clause-printed c = printed _ _ c.in-Ok.ensures.found (c.in-Ok-run_counted.ensures ∙ ap Ok (sym c.of.ensures))

pub returns-in-Err-Number-clause-fails : goal.returns-in-Err-Number-clause-fails
returns-in-Err-Number-clause-fails c = refused _ (out_of_range _ _ c.in-Ok.ensures.found (rw c.in-Err-Number.field-0-is at c.in-Err-Number.ensures))

pub returns-clause-fails : goal.returns-clause-fails
returns-clause-fails c = memory
