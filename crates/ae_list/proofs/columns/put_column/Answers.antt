use Rattle.ae_base.proofs.Results.{on_ok_of_err}
use Rattle.ae_list.proofs.columns.put_column.Goals as goal

-- ---- where memory runs out

pub returns-in_err-extend_from_slice : goal.returns-in_err-extend_from_slice
returns-in_err-extend_from_slice c = on_ok_of_err c.from_residual.result _ _ c.from_residual.ensures.1

pub returns-in_err-push : goal.returns-in_err-push
returns-in_err-push c = on_ok_of_err c.from_residual-in_err-push.result _ _ c.from_residual-in_err-push.ensures.1
