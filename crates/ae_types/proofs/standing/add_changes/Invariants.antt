use Rattle.std.proofs.Common.{◌≡◌, ◌++◌, take}
use Rattle.std.specs.Prelude.{flat_map}
use Rattle.ae_types.specs.Versions.{frozen_versions}
use Rattle.ae_types.proofs.standing.add_changes.Given as goal

abbrev pub invariant-loop-change : goal.invariant-loop-change
invariant-loop-change l = l.versions.items ≡ l.initial.versions.items ++ flat_map frozen_versions (take l.change-index l.changes)
