use Rattle.ae_base.proofs.Results.{if_ok_of_err}
use Rattle.ae_log.proofs.runs.row_of_run.Goals as goal

-- ---- where memory runs out

pub returns-in_err-copy_path : goal.returns-in_err-copy_path
returns-in_err-copy_path c = if_ok_of_err c.from_residual.result _ _ c.from_residual.ensures.1

pub returns-in_err-copy : goal.returns-in_err-copy
returns-in_err-copy c = if_ok_of_err c.from_residual-in_err-copy.result _ _ c.from_residual-in_err-copy.ensures.1
