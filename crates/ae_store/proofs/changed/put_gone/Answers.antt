use Rattle.ae_base.proofs.Results.{on_ok_of_err}
use Rattle.ae_store.proofs.changed.put_gone.Goals as goal

-- ---- where memory runs out

pub returns-in_err-put_change-clause-right : goal.returns-in_err-put_change-clause-right
returns-in_err-put_change-clause-right c = on_ok_of_err c.from_residual.result _ _ c.from_residual.ensures.1

pub returns-in_err-put_change-clause-done : goal.returns-in_err-put_change-clause-done
returns-in_err-put_change-clause-done c = on_ok_of_err c.from_residual.result _ _ c.from_residual.ensures.1

pub returns-in_err-put_change-clause-kept : goal.returns-in_err-put_change-clause-kept
returns-in_err-put_change-clause-kept c = on_ok_of_err c.from_residual.result _ _ c.from_residual.ensures.1
