use Rattle.std.proofs.Common.{◌≡◌, ◌++◌, map, take, drop, length}
use Rattle.ae_log.specs.After.{frozen_as}
use Rattle.ae_types.specs.Frozen.{present}
use Rattle.ae_log.proofs.freezing.freeze.Given as goal

abbrev pub invariant-loop-at : goal.invariant-loop-at
invariant-loop-at l = record {
  so_far : l.file-items ≡ map (frozen_as l.next l.tree l.places) (take l.at l.fn.files.items) ++ drop l.at l.fn.files.items;
  counted : l.made ≡ length (present (take l.at l.tree));
}
