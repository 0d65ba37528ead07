use Rattle.ae_base.proofs.Results.{on_ok_of_err}
use Rattle.ae_list.proofs.columns.put_blank.Goals as goal

-- ---- where memory runs out

pub returns-in_err-push : goal.returns-in_err-push
returns-in_err-push c = on_ok_of_err c.from_residual.result _ _ c.from_residual.ensures.1
