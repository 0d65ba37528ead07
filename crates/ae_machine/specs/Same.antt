-- Logs that show the same, but for history and the number of the next version.
use Rattle.std.specs.Prelude.{◌≡◌, ℕ, List, [], map, Option, Some, None, All}
use Rattle.std.specs.Option.{option_map}
use Rattle.ae_types.specs.declared.change.Change.{Change}
use Rattle.ae_types.specs.declared.version.VersionRef.{VersionRef}
use Rattle.ae_types.specs.Observation.{Observation}
use Rattle.ae_types.specs.Versions.{live}
use Rattle.ae_log.specs.Files.{version_bytes}
use Rattle.ae_log.specs.Log.{Log}
use Rattle.ae_log.specs.Observed.{observation}

abbrev pub without_history : Change → Change
without_history change = record change { history = [] }

abbrev pub without_histories : Observation → Observation
without_histories o = record o { project = record o.project { next_version = 0 }; changes = map without_history o.changes }

-- two ways to give the versions bytes agree on all that stand
abbrev pub SameBytes : (ℕ → List ℕ) → (ℕ → List ℕ) → Option Observation → Type 0
SameBytes bytes others (Some o) = All (λ (version : VersionRef). bytes version.number ≡ others version.number) (live o.files o.changes)
SameBytes bytes others None = Unit {0}

pub record Same (log other : Log) : Type 0 where
  pub stands : option_map without_histories (observation log) ≡ option_map without_histories (observation other)
  pub bytes : SameBytes (version_bytes log) (version_bytes other) (observation log)
