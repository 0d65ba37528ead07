use Rattle.ae_log.proofs.Following.{follows}
use Rattle.ae_log.proofs.laws.observation_follows.Goals as goal

pub returns : goal.returns
returns c = follows
