use Rattle.std.proofs.Common.{◌≡◌, take}
use Rattle.std.specs.Prelude.{map, filter}
use Rattle.ae_types.specs.Versions.{has_units}
use Rattle.ae_places.specs.Placing.{extent_of}
use Rattle.ae_places.proofs.spacing.extents_of.Given as goal

abbrev pub invariant-loop-version : goal.invariant-loop-version
invariant-loop-version l = l.extents.items ≡ map extent_of (filter has_units (take l.version-index l.versions))
