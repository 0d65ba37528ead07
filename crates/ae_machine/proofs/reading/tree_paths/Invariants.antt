use Rattle.std.proofs.Common.{◌≡◌, take}
use Rattle.ae_types.specs.Trees.{paths_of}
use Rattle.ae_machine.proofs.reading.tree_paths.Given as goal

abbrev pub invariant-loop-row : goal.invariant-loop-row
invariant-loop-row l = l.paths ≡ paths_of (take l.row-index l.row-items)
