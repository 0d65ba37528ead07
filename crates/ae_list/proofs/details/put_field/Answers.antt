use Rattle.ae_base.proofs.Results.{on_ok_of_err}
use Rattle.ae_list.proofs.details.put_field.Goals as goal

-- ---- where memory runs out

pub returns-in_err-put_name : goal.returns-in_err-put_name
returns-in_err-put_name c = on_ok_of_err c.from_residual.result _ _ c.from_residual.ensures.1
