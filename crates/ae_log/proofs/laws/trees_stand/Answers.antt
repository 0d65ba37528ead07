use Rattle.ae_log.proofs.TreesStand.{trees-stand}
use Rattle.ae_log.proofs.laws.trees_stand.Goals as goal

pub returns : goal.returns
returns c = trees-stand
