use Rattle.ae_base.proofs.Results.{on_ok_of_err}
use Rattle.ae_list.proofs.details.put_count.Goals as goal

-- ---- where memory runs out

pub returns-in_err-put_name : goal.returns-in_err-put_name
returns-in_err-put_name c = on_ok_of_err c.from_residual.result _ _ c.from_residual.ensures.1

pub returns-in_err-put_number : goal.returns-in_err-put_number
returns-in_err-put_number c = on_ok_of_err c.from_residual-in_err-put_number.result _ _ c.from_residual-in_err-put_number.ensures.1
