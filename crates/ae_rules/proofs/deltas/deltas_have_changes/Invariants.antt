use Rattle.std.proofs.Common.{◌≡◌, take, true}
use Rattle.std.specs.List.{list_all}
use Rattle.ae_types.specs.Rules.{delta_has_change}
use Rattle.ae_rules.proofs.deltas.deltas_have_changes.Given as goal

abbrev pub invariant-loop-delta : goal.invariant-loop-delta
invariant-loop-delta l = list_all (delta_has_change l.numbers l.changes) (take l.delta-index l.deltas) ≡ true
