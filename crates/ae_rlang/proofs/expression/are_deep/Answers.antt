use Rattle.ae_rlang.proofs.Levels.{level_seen}
use Rattle.ae_rlang.proofs.expression.are_deep.Goals as goal

pub returns : goal.returns
returns c = rw (level_seen c.args.groups.now c.args.level) c.is_deep.ensures
