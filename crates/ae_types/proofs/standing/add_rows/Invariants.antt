use Rattle.std.proofs.Common.{◌≡◌, ◌++◌, take}
use Rattle.std.specs.Prelude.{flat_map}
use Rattle.ae_types.specs.Versions.{past_versions}
use Rattle.ae_types.proofs.standing.add_rows.Given as goal

abbrev pub invariant-loop-row : goal.invariant-loop-row
invariant-loop-row l = l.versions.items ≡ l.initial.versions.items ++ flat_map past_versions (take l.row-index l.rows)
