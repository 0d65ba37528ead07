-- What is read of the input where a change set is received.
use Rattle.std.specs.Prelude.{◌≡◌, ◌+◌, ◌≤◌, ◌++◌, ℕ, List, [], length, Result, Ok}
use Rattle.ae_base.specs.declared.outcome.Outcome.{Outcome}
use Rattle.ae_base.specs.declared.outcome.Outcome.TheVariants.{Memory, Refused, SourceFault}
use Rattle.ae_base.specs.declared.refusal.Refusal.TheVariants.{BadBundle}
use Rattle.ae_bundle.specs.Bundled.{Bundled, most_text_bytes}
use Rattle.ae_bundle.specs.declared.bundle.Bundle.{Bundle}
use Rattle.ae_bundle.specs.declared.error.BundleError.{BundleError}
use Rattle.ae_bundle.specs.declared.error.BundleError.TheVariants as error

-- the input is the text of this change set, and was read to its end
pub record IsReceived (told : Type 0) (before after : List ℕ) (bundle : Bundle) : Type 0 where
  pub text : told → Bundled before bundle
  pub ended : told → after ≡ []

-- Why no change set is received: the input is the text of none, the source failed, or memory ran out.
pub data IsUnread (told : Type 0) (before : List ℕ) (source_rose : Type 0) : Outcome → Type 0 where
  not_understood : (told → (bundle : Bundle) → Bundled before bundle → ⊥) → IsUnread told before source_rose (Refused BadBundle)
  source_fault : source_rose → IsUnread told before source_rose SourceFault
  memory : IsUnread told before source_rose Memory

-- no more was taken than the longest text has bytes, and one
abbrev pub TakesNoMore : (before after : List ℕ) → Type 0
TakesNoMore before after = length before ≤ length after + (most_text_bytes + 1)

-- how a call ends where the reader answers this error
abbrev pub outcome_of : BundleError → Outcome
outcome_of error.Bad = Refused BadBundle
outcome_of error.Memory = Memory

-- a reader holds what came of the input, and the rest is left
pub record HasCome (told : Type 0) (before rest : List ℕ) (reader : Result (List ℕ) BundleError) : Type 0 where
  pub stream : List ℕ
  pub held : reader ≡ Ok stream
  pub cut : told → before ≡ stream ++ rest
