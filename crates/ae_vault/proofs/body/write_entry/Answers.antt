use Rattle.ae_base.proofs.Results.{on_ok_of_err}
use Rattle.ae_vault.proofs.body.write_entry.Goals as goal

-- ---- where memory runs out

pub returns-in_err-push-clause-written : goal.returns-in_err-push-clause-written
returns-in_err-push-clause-written c = on_ok_of_err c.from_residual.result _ _ c.from_residual.ensures.1

pub returns-in_err-push-clause-fits : goal.returns-in_err-push-clause-fits
returns-in_err-push-clause-fits c = on_ok_of_err c.from_residual.result _ _ c.from_residual.ensures.1

pub returns-in_err-extend_from_slice-clause-written : goal.returns-in_err-extend_from_slice-clause-written
returns-in_err-extend_from_slice-clause-written c = on_ok_of_err c.from_residual-in_err-extend_from_slice.result _ _ c.from_residual-in_err-extend_from_slice.ensures.1

pub returns-in_err-extend_from_slice-clause-fits : goal.returns-in_err-extend_from_slice-clause-fits
returns-in_err-extend_from_slice-clause-fits c = on_ok_of_err c.from_residual-in_err-extend_from_slice.result _ _ c.from_residual-in_err-extend_from_slice.ensures.1

pub returns-in_err-push-in-None-clause-written : goal.returns-in_err-push-in-None-clause-written
returns-in_err-push-in-None-clause-written c = on_ok_of_err c.from_residual-in_err-push-in-None.result _ _ c.from_residual-in_err-push-in-None.ensures.1

pub returns-in_err-push-in-None-clause-fits : goal.returns-in_err-push-in-None-clause-fits
returns-in_err-push-in-None-clause-fits c = on_ok_of_err c.from_residual-in_err-push-in-None.result _ _ c.from_residual-in_err-push-in-None.ensures.1

pub returns-in_err-push-in-Some-clause-written : goal.returns-in_err-push-in-Some-clause-written
returns-in_err-push-in-Some-clause-written c = on_ok_of_err c.from_residual-in_err-push-in-Some.result _ _ c.from_residual-in_err-push-in-Some.ensures.1

pub returns-in_err-push-in-Some-clause-fits : goal.returns-in_err-push-in-Some-clause-fits
returns-in_err-push-in-Some-clause-fits c = on_ok_of_err c.from_residual-in_err-push-in-Some.result _ _ c.from_residual-in_err-push-in-Some.ensures.1

pub returns-in_err-extend_from_slice-in-Some-clause-written : goal.returns-in_err-extend_from_slice-in-Some-clause-written
returns-in_err-extend_from_slice-in-Some-clause-written c = on_ok_of_err c.from_residual-in_err-extend_from_slice-in-Some.result _ _ c.from_residual-in_err-extend_from_slice-in-Some.ensures.1

pub returns-in_err-extend_from_slice-in-Some-clause-fits : goal.returns-in_err-extend_from_slice-in-Some-clause-fits
returns-in_err-extend_from_slice-in-Some-clause-fits c = on_ok_of_err c.from_residual-in_err-extend_from_slice-in-Some.result _ _ c.from_residual-in_err-extend_from_slice-in-Some.ensures.1

pub returns-in_err-extend_from_slice-in-Some-2-clause-written : goal.returns-in_err-extend_from_slice-in-Some-2-clause-written
returns-in_err-extend_from_slice-in-Some-2-clause-written c = on_ok_of_err c.from_residual-in_err-extend_from_slice-in-Some-2.result _ _ c.from_residual-in_err-extend_from_slice-in-Some-2.ensures.1

pub returns-in_err-extend_from_slice-in-Some-2-clause-fits : goal.returns-in_err-extend_from_slice-in-Some-2-clause-fits
returns-in_err-extend_from_slice-in-Some-2-clause-fits c = on_ok_of_err c.from_residual-in_err-extend_from_slice-in-Some-2.result _ _ c.from_residual-in_err-extend_from_slice-in-Some-2.ensures.1
