use Rattle.std.proofs.Common.{arith}
use Rattle.std.proofs.lemmas.Grind.{common_steps}
use Rattle.ae_rules.proofs.ClearPaths.{row-stands}
use Rattle.ae_rules.proofs.clashes.stands.Goals as goal

pub returns : goal.returns
returns c = grind (arith, common_steps, row-stands c.args.deltas c.args.row.now)
