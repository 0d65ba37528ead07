use Rattle.ae_log.proofs.Keeping.{keeps}
use Rattle.ae_log.proofs.laws.rules_kept.Goals as goal

pub returns : goal.returns
returns c = keeps
