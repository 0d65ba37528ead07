use Rattle.ae_types.proofs.RulesAre.{blamed-sound}
use Rattle.ae_rules.proofs.check.state_of.Goals as goal

pub of-requires : goal.of-requires
of-requires c = blamed-sound c.args.parts c.in-Ok.ensures.ok
