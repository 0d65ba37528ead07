use Rattle.ae_base.proofs.Results.{on_ok_of_err}
use Rattle.ae_log.proofs.changes.alter_numbers.Goals as goal

-- ---- where memory runs out

pub returns-in_err-put_number-in-New : goal.returns-in_err-put_number-in-New
returns-in_err-put_number-in-New c = on_ok_of_err c.from_residual.result _ _ c.from_residual.ensures.1
