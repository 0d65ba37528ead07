-- How sending and planning end.
use Rattle.std.specs.Prelude.{◌≡◌, ◌⊎◌, ℕ, List, Option, Some, None, Result, Ok, Err}
use Rattle.ae_base.specs.declared.want.Want.{Want}
use Rattle.ae_base.specs.declared.want.Want.TheVariants as want
use Rattle.ae_base.specs.declared.outcome.Outcome.{Outcome}
use Rattle.ae_base.specs.declared.outcome.Outcome.TheVariants as outcome
use Rattle.ae_base.specs.declared.refusal.Refusal.{Refusal}
use Rattle.ae_outside.specs.Image.{Image}
use Rattle.ae_vault.specs.Vault.{effective}
use Rattle.ae_types.specs.declared.change.Change.{Change}
use Rattle.ae_types.specs.Found.{change_at}
use Rattle.ae_types.specs.Observation.{Observation}
use Rattle.ae_exec.specs.Endings.{EndsAs, IsDamagedAt}
use Rattle.ae_exec.specs.Reading.{AreKept, IsLostAmong}
use Rattle.ae_exec.specs.Shown.{Shown}
use Rattle.ae_bundle.specs.Bundled.{Bundled}
use Rattle.ae_bundle.specs.declared.bundle.Bundle.{Bundle}
use Rattle.ae_lines.specs.declared.act.Act.{Act}
use Rattle.ae_dist.specs.Plan.{IsPlan, refuses_plan}
use Rattle.ae_dist.specs.Sending.{refuses_project, refuses_sending, sent_bundle, sent_rows, versions_of}

-- each answer has its cause; out of memory has none, and no other comes
abbrev pub Answers : {A : Type 0} → (A → Type 0) → (Refusal → Type 0) → (List ℕ → Type 0) → (disk_rose : Type 0) → Result A Outcome → Type 0
Answers is_done is_refused is_damaged disk_rose (Ok value) = is_done value
Answers is_done is_refused is_damaged disk_rose (Err why) = EndsAs ⊥ ⊥ is_refused is_damaged disk_rose ⊥ why

-- a step that refuses nothing fails: a file is damaged, the disk failed, or memory ran out
abbrev pub Stops : (List ℕ → Type 0) → (disk_rose : Type 0) → Outcome → Type 0
Stops is_damaged disk_rose why = EndsAs ⊥ ⊥ (λ (refusal : Refusal). ⊥) is_damaged disk_rose ⊥ why

-- What the disk's files say is to be answered: this; that it is refused for this reason; or that this file is damaged.
pub data Says {A : Type 0} (is_done : A → Type 0) (is_refused : Refusal → Type 0) (is_damaged : List ℕ → Type 0) : Result A Outcome → Type 0 where
  done : (value : A) → is_done value → Says is_done is_refused is_damaged (Ok value)
  refused : (refusal : Refusal) → is_refused refusal → Says is_done is_refused is_damaged (Err (outcome.Refused refusal))
  damaged : (name : List ℕ) → is_damaged name → Says is_done is_refused is_damaged (Err (outcome.Damaged name))

-- this was answered, unless the disk failed or memory ran out
abbrev pub IsAnswered : {A : Type 0} → (said result : Result A Outcome) → Type 0
IsAnswered said result = (result ≡ said) ⊎ ((result ≡ Err outcome.DiskFault) ⊎ (result ≡ Err outcome.Memory))

-- ---- the project that stands

-- it is shown there where these changes are wanted, and may be named so
pub record IsOpened (wanted : Want) (image : Image) (name : Option (List ℕ)) (o : Observation) : Type 0 where
  pub shown : Shown wanted image (Some o)
  pub named : refuses_project name (Some o) ≡ None

-- none is
pub record IsRefusedAt (wanted : Want) (image : Image) (name : Option (List ℕ)) (refusal : Refusal) : Type 0 where
  pub stands : Option Observation
  pub shown : Shown wanted image stands
  pub refused : refuses_project name stands ≡ Some refusal

-- ---- sending, which wants the change that is named

-- The files show the project with the change, nothing refuses to send it, and the change set is what is sent of it; each version
-- whose bytes it has is as it was kept.
pub record Sends (image : Image) (name : Option (List ℕ)) (number : ℕ) (bundle : Bundle) : Type 0 where
  pub o : Observation
  pub change : Change
  pub shown : Shown (want.One number) image (Some o)
  pub there : change_at o number ≡ Some change
  pub free : refuses_sending name number (Some o) ≡ None
  pub is : bundle ≡ sent_bundle (effective image) change (sent_rows o change)
  pub kept : AreKept (effective image) (versions_of (sent_rows o change))

-- what the files show refuses it for this reason
pub record RefusesSending (image : Image) (name : Option (List ℕ)) (number : ℕ) (refusal : Refusal) : Type 0 where
  pub stands : Option Observation
  pub shown : Shown (want.One number) image stands
  pub refused : refuses_sending name number stands ≡ Some refusal

-- The store is damaged for it: it is damaged; or the change can be sent, and the first version that is read and isn't as it was
-- kept is found, in the packed file.
pub data DamagedSending (image : Image) (name : Option (List ℕ)) (number : ℕ) (damaged : List ℕ) : Type 0 where
  store : IsDamagedAt (want.One number) image damaged → DamagedSending image name number damaged
  version : (o : Observation) (change : Change) → Shown (want.One number) image (Some o) → change_at o number ≡ Some change
      → refuses_sending name number (Some o) ≡ None → IsLostAmong image (versions_of (sent_rows o change)) damaged → DamagedSending image name number damaged

-- what the files say of sending it
abbrev pub IsSending : Image → Option (List ℕ) → ℕ → Result Bundle Outcome → Type 0
IsSending image name number = Says (Sends image name number) (RefusesSending image name number) (DamagedSending image name number)

-- these bytes are the text of the change set that is sent
pub record Writes (image : Image) (name : Option (List ℕ)) (number : ℕ) (text : List ℕ) : Type 0 where
  pub bundle : Bundle
  pub sent : Sends image name number bundle
  pub is : Bundled text bundle

-- each answer of a call that writes it has its cause, as far as that is told
abbrev pub AnswersWriting : (told : Type 0) → Image → Option (List ℕ) → ℕ → (disk_rose : Type 0) → Result (List ℕ) Outcome → Type 0
AnswersWriting told image name number =
    Answers (λ (text : List ℕ). told → Writes image name number text) (λ (refusal : Refusal). told → RefusesSending image name number refusal)
    (λ (damaged : List ℕ). told → DamagedSending image name number damaged)

-- what the files say of its text
abbrev pub IsWriting : Image → Option (List ℕ) → ℕ → Result (List ℕ) Outcome → Type 0
IsWriting image name number = Says (Writes image name number) (RefusesSending image name number) (DamagedSending image name number)

-- ---- planning, which wants no change

-- the acts are the plan for what the files show
pub record Plans (image : Image) (name : Option (List ℕ)) (bundle : Bundle) (acts : List Act) : Type 0 where
  pub o : Observation
  pub shown : Shown want.Nothing image (Some o)
  pub is : IsPlan o name bundle acts

-- what the files show refuses it for this reason
pub record RefusesPlan (image : Image) (name : Option (List ℕ)) (refusal : Refusal) : Type 0 where
  pub stands : Option Observation
  pub shown : Shown want.Nothing image stands
  pub refused : refuses_plan name stands ≡ Some refusal

-- what the files say of planning it
abbrev pub IsPlanning : Image → Option (List ℕ) → Bundle → Result (List Act) Outcome → Type 0
IsPlanning image name bundle = Says (Plans image name bundle) (RefusesPlan image name) (IsDamagedAt want.Nothing image)

-- why there is no plan, by what the disk's files show; what they say comes, unless the disk failed or memory ran out
pub record HasNoPlan (disk_told : Type 0) (image : Image) (name : Option (List ℕ)) (bundle : Bundle) (disk_rose : Type 0) (why : Outcome) : Type 0 where
  pub caused : EndsAs ⊥ ⊥ (λ (refusal : Refusal). disk_told → RefusesPlan image name refusal) (λ (damaged : List ℕ). disk_told → IsDamagedAt want.Nothing image damaged) disk_rose ⊥ why
  pub only : disk_told → (said : Result (List Act) Outcome) → IsPlanning image name bundle said → IsAnswered said (Err why)
