use Rattle.std.proofs.Common.{subst}
use Rattle.ae_base.proofs.Results.{if_ok_of_err, ok_is_no_err}
use Rattle.ae_history.specs.Packed.{AreOf}
use Rattle.ae_history.proofs.reading.get_version.Goals as goal

pub returns-then-not-are_of-clause-kept : goal.returns-then-not-are_of-clause-kept
returns-then-not-are_of-clause-kept g c = tt

pub returns-then-not-are_of-clause-bytes : goal.returns-then-not-are_of-clause-bytes
returns-then-not-are_of-clause-bytes g c = tt

pub returns-clause-kept : goal.returns-clause-kept
returns-clause-kept g c = subst (AreOf c.args.version.now) c.deref.ensures.value (c.are_of.ensures.0 c.if-not-are_of.false)

-- ---- what follows from the calls alone

pub returns-in_err-bytes-clause-bytes : goal.returns-in_err-bytes-clause-bytes
returns-in_err-bytes-clause-bytes g c = if_ok_of_err c.from_residual.result _ _ c.from_residual.ensures.1

pub returns-in_err-bytes-clause-kept : goal.returns-in_err-bytes-clause-kept
returns-in_err-bytes-clause-kept g c = if_ok_of_err c.from_residual.result _ _ c.from_residual.ensures.1

pub returns-in_err-bytes-clause-change : goal.returns-in_err-bytes-clause-change
returns-in_err-bytes-clause-change g c = c.get_range.ensures.change

pub returns-then-not-are_of-clause-change : goal.returns-then-not-are_of-clause-change
returns-then-not-are_of-clause-change g c = c.get_range.ensures.change

pub returns-clause-change : goal.returns-clause-change
returns-clause-change g c = c.get_range.ensures.change

pub returns-clause-damaged : goal.returns-clause-damaged
returns-clause-damaged g c = λ number is. absurd (ok_is_no_err _ _ is)

pub returns-clause-its_number : goal.returns-clause-its_number
returns-clause-its_number g c = λ number is. absurd (ok_is_no_err _ _ is)

pub returns-clause-never_full : goal.returns-clause-never_full
returns-clause-never_full g c = λ is. ok_is_no_err _ _ is

pub returns-clause-cause : goal.returns-clause-cause
returns-clause-cause g c = record { later = c.get_range.ensures.cause.later; rose = λ is. absurd (ok_is_no_err _ _ is) }
