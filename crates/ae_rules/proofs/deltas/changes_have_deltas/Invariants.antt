use Rattle.std.proofs.Common.{◌≡◌, take, true}
use Rattle.std.specs.List.{list_all}
use Rattle.ae_types.specs.Rules.{change_has_delta}
use Rattle.ae_rules.proofs.deltas.changes_have_deltas.Given as goal

abbrev pub invariant-loop-change : goal.invariant-loop-change
invariant-loop-change l = list_all (change_has_delta l.deltas) (take l.change-index l.changes) ≡ true
