-- What the putting of events asks of the versions that they make.
use Rattle.std.specs.Prelude.{ℕ, ◌≤◌, List, All}
use Rattle.ae_base.specs.Limits.{most_units}
use Rattle.ae_base.specs.Rows.{Row}
use Rattle.ae_places.specs.Placing.{IsShort}
use Rattle.ae_log.specs.declared.event.Event.{Event}
use Rattle.ae_log.specs.declared.event.EventKind.{EventKind}
use Rattle.ae_log.specs.declared.event.EventKind.TheVariants as on
use Rattle.ae_exec.specs.Made.{OneWrites}
use Rattle.ae_exec.specs.declared.pieces.FrozenFiles.{FrozenFiles}

-- the versions that an end of a development makes are short, and their places lie in the region
abbrev pub FitsRegion : EventKind → Type 0
FitsRegion (on.End tree to places) = All (λ (row : Row). IsShort row.1) tree × All (λ (at : ℕ). at ≤ most_units) places
FitsRegion kind = Unit {0}

-- so it is with files that are frozen
abbrev pub HasRoom : FrozenFiles → Type 0
HasRoom files = All (λ (row : Row). IsShort row.1) files.tree × All (λ (at : ℕ). at ≤ most_units) files.places

-- so it is with each of the events, and none after the first makes versions
pub record MayBePut (events : List Event) : Type 0 where
  pub fit : All (λ (event : Event). FitsRegion event.what) events
  pub one : OneWrites events
