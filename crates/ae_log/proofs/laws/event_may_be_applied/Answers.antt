use Rattle.ae_log.proofs.Keeping.{may-be-applied}
use Rattle.ae_log.proofs.laws.event_may_be_applied.Goals as goal

pub returns : goal.returns
returns c = may-be-applied
