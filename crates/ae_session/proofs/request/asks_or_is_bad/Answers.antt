use Rattle.ae_session.proofs.Asking.{never_both_asked, one_bad_place}
use Rattle.ae_session.proofs.request.asks_or_is_bad.Goals as goal

pub returns-clause-never : goal.returns-clause-never
returns-clause-never c = never_both_asked

pub returns-clause-place : goal.returns-clause-place
returns-clause-place c = one_bad_place
