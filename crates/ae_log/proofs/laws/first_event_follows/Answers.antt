use Rattle.ae_log.proofs.ProjectSteps.{begins}
use Rattle.ae_log.proofs.laws.first_event_follows.Goals as goal

pub returns : goal.returns
returns c = begins
