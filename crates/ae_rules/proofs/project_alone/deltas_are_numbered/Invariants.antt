use Rattle.std.proofs.Common.{◌≡◌, ◌+◌, drop, map}
use Rattle.ae_types.specs.Found.{number_of_delta}
use Rattle.ae_types.specs.Rules.{counts_up, deltas_are_numbered}
use Rattle.ae_rules.proofs.project_alone.deltas_are_numbered.Given as goal

abbrev pub invariant-loop-row : goal.invariant-loop-row
invariant-loop-row l = record {
  next : l.next ≡ l.row-index + 1;
  rest : deltas_are_numbered l.deltas ≡ counts_up l.next (map number_of_delta (drop l.row-index l.deltas));
}
