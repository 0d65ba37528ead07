-- What the files of disks say is to be answered, step by step: each step gives the next one a value, or says why there is none.
use Rattle.std.specs.Prelude.{◌≡◌, ℕ, List, Option, Some, None, Result, Ok, Err}
use Rattle.ae_base.specs.declared.outcome.Outcome.{Outcome}
use Rattle.ae_base.specs.declared.outcome.Outcome.TheVariants as outcome
use Rattle.ae_base.specs.declared.refusal.Refusal.{Refusal}
use Rattle.ae_base.specs.declared.want.Want.{Want}
use Rattle.ae_bundle.specs.declared.bundle.BundleFile.{BundleFile}
use Rattle.ae_dist.specs.Answers.{Says}
use Rattle.ae_dist.specs.Sending.{versions_of}
use Rattle.ae_dist.specs.Steps.{AreReadFrom}
use Rattle.ae_dist.specs.declared.rows.Row.{Row}
use Rattle.ae_exec.specs.Endings.{IsDamagedAt}
use Rattle.ae_exec.specs.Reading.{IsLostAmong}
use Rattle.ae_exec.specs.Shown.{Shown}
use Rattle.ae_outside.specs.Image.{Image}
use Rattle.ae_types.specs.Observation.{Observation}
use Rattle.ae_vault.specs.Vault.{effective}

-- ---- steps

-- one step and then the next, which is given what the first one found
pub data Then {A B : Type 0} (first : Result A Outcome → Type 0) (next : A → Result B Outcome → Type 0) : Result B Outcome → Type 0 where
  stopped : (why : Outcome) → first (Err why) → Then first next (Err why)
  went_on : (value : A) (said : Result B Outcome) → first (Ok value) → next value said → Then first next said

-- this is said
abbrev pub Is : {A : Type 0} → A → Result A Outcome → Type 0
Is value said = said ≡ Ok value

-- it goes on unless it is refused for this reason
abbrev pub UnlessRefused : Option Refusal → Result (Unit {0}) Outcome → Type 0
UnlessRefused (Some refusal) said = said ≡ Err (outcome.Refused refusal)
UnlessRefused None said = said ≡ Ok tt

-- the project that is there, with the changes that are wanted, unless what stands is refused for a reason
abbrev pub Opens : Want → (Option Observation → Option Refusal) → Image → Result Observation Outcome → Type 0
Opens wanted refuses image =
    Says (λ (o : Observation). Shown wanted image (Some o) × (refuses (Some o) ≡ None))
    (λ (refusal : Refusal). (stands : Option Observation) × Shown wanted image stands × (refuses stands ≡ Some refusal)) (IsDamagedAt wanted image)

-- the files of these rows, unless a version isn't as it was kept
abbrev pub Reads : Image → List Row → Result (List BundleFile) Outcome → Type 0
Reads image rows = Says (AreReadFrom (effective image) rows) (λ (refusal : Refusal). ⊥) (IsLostAmong image (versions_of rows))

-- ---- answers

-- What is answered is what they say, as far as that is told, unless a disk failed or memory ran out.
pub data AnswersAs {A : Type 0} (told : Type 0) (says : Result A Outcome → Type 0) (disk_rose : Type 0) : Result A Outcome → Type 0 where
  done : (value : A) → (told → says (Ok value)) → AnswersAs told says disk_rose (Ok value)
  refused : (refusal : Refusal) → (told → says (Err (outcome.Refused refusal))) → AnswersAs told says disk_rose (Err (outcome.Refused refusal))
  damaged : (name : List ℕ) → (told → says (Err (outcome.Damaged name))) → AnswersAs told says disk_rose (Err (outcome.Damaged name))
  disk_fault : disk_rose → AnswersAs told says disk_rose (Err outcome.DiskFault)
  memory : AnswersAs told says disk_rose (Err outcome.Memory)

-- they say one thing
abbrev pub SaysOne : {A : Type 0} → (Result A Outcome → Type 0) → Type 0
SaysOne {A} says = (one other : Result A Outcome) → says one → says other → one ≡ other

-- the disk failed, or memory ran out
pub data IsFault (disk_rose : Type 0) : Outcome → Type 0 where
  failed : disk_rose → IsFault disk_rose outcome.DiskFault
  starved : IsFault disk_rose outcome.Memory
