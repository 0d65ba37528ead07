use Rattle.std.proofs.Common.{◌≡◌, ◌+◌, ◌≤◌, drop, length}
use Rattle.ae_types.specs.Rules.{integrating}
use Rattle.ae_rules.proofs.integration.integrating_count.Given as goal

abbrev pub invariant-loop-change : goal.invariant-loop-change
invariant-loop-change l = record {
  few : l.count ≤ l.change-index;
  rest : length (integrating l.changes) ≡ l.count + length (integrating (drop l.change-index l.changes));
}
