use Rattle.ae_base.proofs.Results.{if_ok_of_err}
use Rattle.ae_log.proofs.runs.copy_path.Goals as goal

-- ---- where memory runs out

pub returns-in_err-copy-in-Some : goal.returns-in_err-copy-in-Some
returns-in_err-copy-in-Some c = if_ok_of_err c.from_residual.result _ _ c.from_residual.ensures.1
