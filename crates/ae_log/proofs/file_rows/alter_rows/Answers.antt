use Rattle.ae_base.proofs.Results.{on_ok_of_err}
use Rattle.ae_log.proofs.file_rows.alter_rows.Goals as goal

-- ---- where memory runs out

pub returns-in_err-enter_files : goal.returns-in_err-enter_files
returns-in_err-enter_files c = on_ok_of_err c.from_residual.result _ _ c.from_residual.ensures.1
