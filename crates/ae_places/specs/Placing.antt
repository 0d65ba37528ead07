-- Where versions are put in the packed region: the units that they take, and the places that are found for them.
use Rattle.std.specs.Prelude.{◌≡◌, ℕ, List, [], ◌∷◌, ◌++◌, Option, Some, None, length, ◌≤◌, IfSome, map, filter}
use Rattle.std.specs.Option.{option_map, option_and_then}
use Rattle.ae_base.specs.Limits.{most_file_bytes}
use Rattle.ae_types.specs.declared.version.VersionRef.{VersionRef}
use Rattle.ae_types.specs.Observation.{Observation}
use Rattle.ae_types.specs.Versions.{units, units_for, has_units, live}
use Rattle.ae_space.specs.declared.extent.Extent.{Extent}
use Rattle.ae_space.specs.Fit.{fit}
use Rattle.ae_space.specs.Gaps.{Leaves}

-- how many units hold the bytes
abbrev pub units_of : List ℕ → ℕ
units_of bytes = units_for (length bytes)

-- the units of a version
abbrev pub extent_of : VersionRef → Extent
extent_of version = record { at = version.at; units = units version }

-- those of all versions that have units
abbrev pub extents : Observation → List Extent
extents o = map extent_of (filter has_units (live o.files o.changes))

-- ---- many versions

-- the places of these bytes, one after another, each outside those before it; none where one has no place
abbrev pub places_of : List Extent → List (List ℕ) → Option (List ℕ)
places_of taken [] = Some []
places_of taken (bytes ∷ more) =
    option_and_then (λ at. option_map (λ places. at ∷ places) (places_of (record { at = at; units = units_of bytes } ∷ taken) more)) (fit taken (units_of bytes))

-- What taking the places of these bytes makes of the extents that are taken: these places, and what is left then.
pub record TakesPlaces (taken : List Extent) (bytes : List (List ℕ)) (space : List Extent) (places : List ℕ) : Type 0 where
  pub now : List Extent
  pub left : Leaves now space
  -- so the places of more bytes after them are found from there on
  pub follows : (more : List (List ℕ)) → places_of taken (bytes ++ more) ≡ option_map (λ rest. places ++ rest) (places_of now more)

-- they have no places, whatever is after them
abbrev pub HaveNoPlaces : List Extent → List (List ℕ) → Type 0
HaveNoPlaces taken bytes = (more : List (List ℕ)) → places_of taken (bytes ++ more) ≡ None

-- a version that is frozen has at most 4 MiB
abbrev pub IsShort : Option (List ℕ) → Type 0
IsShort bytes = IfSome bytes (λ bytes. length bytes ≤ most_file_bytes)
