use Rattle.ae_session.proofs.Repeating.{stops-repeat}
use Rattle.ae_session.proofs.stopped.stops_may_repeat.Goals as goal

pub returns : goal.returns
returns g c = stops-repeat _ _ _ _ _
