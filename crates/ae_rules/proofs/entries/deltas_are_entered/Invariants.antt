use Rattle.std.proofs.Common.{◌≡◌, take, true}
use Rattle.std.specs.List.{list_all}
use Rattle.ae_types.specs.Rules.{delta_is_entered}
use Rattle.ae_rules.proofs.entries.deltas_are_entered.Given as goal

abbrev pub invariant-loop-delta : goal.invariant-loop-delta
invariant-loop-delta l = list_all (delta_is_entered l.rows l.changes) (take l.delta-index l.deltas) ≡ true
