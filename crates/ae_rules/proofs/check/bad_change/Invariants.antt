use Rattle.std.proofs.Common.{◌≡◌, drop}
use Rattle.ae_types.specs.Rules.{bad_change}
use Rattle.ae_rules.proofs.check.bad_change.Given as goal

abbrev pub invariant-loop-change : goal.invariant-loop-change
invariant-loop-change l = bad_change l.numbers l.changes ≡ bad_change l.numbers (drop l.change-index l.changes)
