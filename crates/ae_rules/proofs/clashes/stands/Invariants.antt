use Rattle.std.proofs.Common.{◌≡◌, drop, false}
use Rattle.ae_rules.proofs.ClearPaths.{stands_after}
use Rattle.ae_rules.proofs.clashes.stands.Given as goal

abbrev pub invariant-loop-entry : goal.invariant-loop-entry
invariant-loop-entry l = stands_after l.deltas false l.row.past ≡ stands_after l.deltas l.there (drop l.entry-index l.row.past)
