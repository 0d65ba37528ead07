use Rattle.ae_base.proofs.Results.{on_ok_of_err}
use Rattle.ae_log.proofs.altering.alter.Goals as goal

-- ---- where memory runs out

pub returns-in_err-change_parts : goal.returns-in_err-change_parts
returns-in_err-change_parts c = on_ok_of_err c.from_residual.result _ _ c.from_residual.ensures.1
