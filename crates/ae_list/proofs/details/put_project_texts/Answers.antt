use Rattle.ae_base.proofs.Results.{on_ok_of_err}
use Rattle.ae_list.proofs.details.put_project_texts.Goals as goal

-- ---- where memory runs out

pub returns-in_err-put_field : goal.returns-in_err-put_field
returns-in_err-put_field c = on_ok_of_err c.from_residual.result _ _ c.from_residual.ensures.1
