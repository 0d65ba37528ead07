use Rattle.ae_base.proofs.Results.{on_ok_of_err}
use Rattle.ae_log.proofs.files.add_file.Goals as goal

-- ---- where memory runs out

pub returns-in_err-copy : goal.returns-in_err-copy
returns-in_err-copy c = on_ok_of_err c.from_residual.result _ _ c.from_residual.ensures.1

pub returns-in_err-put_file : goal.returns-in_err-put_file
returns-in_err-put_file c = on_ok_of_err c.from_residual-in_err-put_file.result _ _ c.from_residual-in_err-put_file.ensures.1
