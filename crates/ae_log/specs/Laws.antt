-- The laws of one more event.
use Rattle.std.specs.Prelude.{◌≡◌, ℕ, [], ◌∷◌, map, Some, IsSomeAnd}
use Rattle.ae_types.specs.Observation.{Observation}
use Rattle.ae_types.specs.Sound.{Sound}
use Rattle.ae_types.specs.Trees.{tree_of}
use Rattle.ae_log.specs.declared.event.Event.{Event}
use Rattle.ae_log.specs.Log.{Log}
use Rattle.ae_log.specs.Baseline.{tree}
use Rattle.ae_log.specs.Observed.{observation, tree_row_of}
use Rattle.ae_log.specs.After.{after, started}
use Rattle.ae_log.specs.Applies.{Applies, MayApply, Starts}

-- the first event makes what stands after it
abbrev pub Begins : Type 0
Begins = (event : Event) → Starts event → observation (event ∷ []) ≡ started event

-- and that keeps the rules
abbrev pub BeginsSound : Type 0
BeginsSound = (event : Event) → Starts event → IsSomeAnd (started event) Sound

-- what stands after an event is what it makes of what stood before
abbrev pub Follows : Type 0
Follows = (log : Log) (event : Event) (o : Observation) → observation log ≡ Some o → Sound o → Applies o event → observation (event ∷ log) ≡ Some (after o event)

-- and keeps the rules
abbrev pub KeepsRules : Type 0
KeepsRules = (o : Observation) (event : Event) → Sound o → Applies o event → Sound (after o event)

-- so it may be applied
abbrev pub MayBeApplied : Type 0
MayBeApplied = (o : Observation) (event : Event) → Sound o → Applies o event → MayApply o event

-- the files at a delta, of what stands, are those of the log
abbrev pub TreesStand : Type 0
TreesStand = (log : Log) (o : Observation) (delta : ℕ) → observation log ≡ Some o → tree_of o delta ≡ map tree_row_of (tree log delta)
