-- What the places of a tree's versions are.
use Rattle.std.specs.Prelude.{◌≡◌, List, Some, All, ℕ}
use Rattle.ae_base.specs.Rows.{Row, Rows}
use Rattle.ae_types.specs.Observation.{Observation}
use Rattle.ae_types.specs.Frozen.{AreInSpace, present}
use Rattle.ae_places.specs.Placing.{extents, places_of, IsShort}

-- Places that are found outside the versions that stand, one after another, are room for the versions of the tree.
abbrev pub PlacesAreInSpace : Type 0
PlacesAreInSpace = (o : Observation) (tree : Rows) (places : List ℕ) → All (λ (row : Row). IsShort row.1) tree → places_of (extents o) (present tree) ≡ Some places → AreInSpace o tree places
