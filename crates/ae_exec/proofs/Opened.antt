-- A store that was opened as by a command, or that a call which failed didn't open.
use Rattle.std.proofs.Common.{◌≡◌, ◌⊎◌, inl, inr, refl, ℕ, List, [], ◌∷◌, Result, Ok, Err, OnOk}
use Rattle.std.specs.Result.{IsErrAnd}
use Rattle.ae_base.specs.declared.outcome.Outcome.{Outcome}
use Rattle.ae_base.specs.declared.outcome.Outcome.TheVariants.{BadScript, BadWords, Damaged, DiskFault, Done, Memory, Refused, RunFailed, SinkFault, SiteFault, SourceFault}
use Rattle.ae_base.specs.declared.refusal.Refusal.{Refusal}
use Rattle.ae_outside.specs.Image.{IsSame}
use Rattle.ae_outside.specs.State.{DiskState, GoesOn}
use Rattle.ae_schema.specs.declared.format.Format.TheVariants.{Two}
use Rattle.ae_exec.specs.Endings.{EndsAs, damaged, disk_fault, done, memory, refused, run_failed, site_fault}
use Rattle.ae_exec.specs.Opened.{IsOpenedUnless, MayBeUnopened}
use Rattle.ae_exec.specs.Stands.{StandsForLogIn}
use Rattle.ae_exec.proofs.Held.{same_holds}
use Rattle.ae_exec.proofs.Standing.{second_by_files}

-- it stays so while the disk is only read
pub opened_still : (unopened : Type 0) (base mid disk : DiskState) → IsOpenedUnless unopened base mid → GoesOn IsSame mid disk → IsOpenedUnless unopened base disk
opened_still unopened base mid disk opened goes = λ unless held log is. same_holds (StandsForLogIn Two) second_by_files mid disk (log ∷ []) goes (opened unless held log is)

-- what is opened unless the call fails so is opened where it doesn't fail
pub opened_on_ok : {A : Type 0} (result : Result A Outcome) (told opened : Type 0) → (told → (IsErrAnd result MayBeUnopened → ⊥) → opened) → OnOk result (told → opened)
opened_on_ok (Ok value) told opened is = λ tells. is tells (λ none. none)
opened_on_ok (Err why) told opened is = tt

-- one of three outcomes comes where it may not have been opened
pub unopened_is : (why : Outcome) → MayBeUnopened why → (why ≡ DiskFault) ⊎ ((why ≡ Memory) ⊎ ((name : List ℕ) × (why ≡ Damaged name)))
unopened_is DiskFault is = inl refl
unopened_is Memory is = inr (inl refl)
unopened_is (Damaged name) is = inr (inr (name, refl))
unopened_is Done is = absurd is
unopened_is RunFailed is = absurd is
unopened_is (Refused refusal) is = absurd is
unopened_is (BadWords place) is = absurd is
unopened_is (BadScript line) is = absurd is
unopened_is SiteFault is = absurd is
unopened_is SinkFault is = absurd is
unopened_is SourceFault is = absurd is

-- what stops a project that is loaded is an outcome of a call that may not have opened the store
pub loading_unopened : (P : List ℕ → Type 0) (rose : Type 0) (why : Outcome) → EndsAs ⊥ ⊥ (λ (refusal : Refusal). ⊥) P rose ⊥ why → MayBeUnopened why
loading_unopened P rose _ (done is) = absurd is
loading_unopened P rose _ (run_failed is) = absurd is
loading_unopened P rose _ (refused refusal is) = absurd is
loading_unopened P rose _ (damaged name is) = tt
loading_unopened P rose _ (disk_fault failed) = tt
loading_unopened P rose _ (site_fault failed) = absurd failed
loading_unopened P rose _ memory = tt
