use Rattle.ae_base.proofs.Results.{on_ok_of_err}
use Rattle.ae_list.proofs.columns.put_number_column.Goals as goal

-- ---- where memory runs out

pub returns-in_err-put_number_right : goal.returns-in_err-put_number_right
returns-in_err-put_number_right c = on_ok_of_err c.from_residual.result _ _ c.from_residual.ensures.1
