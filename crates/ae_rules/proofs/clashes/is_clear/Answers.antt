use Rattle.ae_rules.proofs.ClearPaths.{folders-front}
use Rattle.ae_rules.proofs.clashes.is_clear.Goals as goal

pub loop-at-init : goal.loop-at-init
loop-at-init c = folders-front c.args.path.now _
