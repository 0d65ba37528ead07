-- What the steps of sending and of planning make.
use Rattle.std.specs.Prelude.{◌≡◌, ◌≤◌, ℕ, true, List, map, length, Option, Some, None, IfSome, Result}
use Rattle.std.specs.List.{AllByRecursion, list_all}
use Rattle.std.specs.Global.{Vec}
use Rattle.ae_base.specs.Limits.{most_attribute_bytes, most_change_files, most_frozen_bytes}
use Rattle.ae_base.specs.Names.{IsPath}
use Rattle.ae_base.specs.Rows.{text_cmp}
use Rattle.ae_base.specs.declared.want.Want.{Want}
use Rattle.ae_base.specs.declared.want.Want.TheVariants as want
use Rattle.ae_base.specs.declared.outcome.Outcome.{Outcome}
use Rattle.ae_base.specs.declared.refusal.Refusal.{Refusal}
use Rattle.ae_base.specs.declared.words.Action.{Action}
use Rattle.ae_base.specs.declared.words.Usage.{Usage}
use Rattle.ae_outside.specs.Image.{Image}
use Rattle.ae_types.specs.declared.change.Change.{Change}
use Rattle.ae_types.specs.Found.{change_at}
use Rattle.ae_types.specs.Observation.{Observation}
use Rattle.ae_types.specs.Ordered.{Ascends}
use Rattle.ae_types.specs.Trees.{baseline_of}
use Rattle.ae_exec.specs.Endings.{IsDamagedAt}
use Rattle.ae_exec.specs.Reading.{AreKept, IsInside}
use Rattle.ae_bundle.specs.declared.bundle.Bundle.{Bundle}
use Rattle.ae_bundle.specs.declared.bundle.BundleFile.{BundleFile}
use Rattle.ae_lines.specs.declared.act.Act.{Act}
use Rattle.ae_dist.specs.declared.sending.Head.{Head}
use Rattle.ae_dist.specs.declared.rows.Row.{Row}
use Rattle.ae_dist.specs.Answers.{Answers, IsOpened, IsRefusedAt, RefusesSending}
use Rattle.ae_dist.specs.Plan.{free_number, plan_of, refuses_numbers}
use Rattle.ae_dist.specs.Sending.{path_of_row, refuses_change, refuses_project, row_fits, sent_file, sent_rows, size_of, sizes_of, versions_of}

-- a step of what stands is answered, or refused, unless memory runs out
abbrev pub Tells : {A : Type 0} → (A → Type 0) → Option Refusal → Result A Outcome → Type 0
Tells is_done refuses = Answers is_done (λ (refusal : Refusal). refuses ≡ Some refusal) (λ (name : List ℕ). ⊥) ⊥

-- the project that was loaded, or why it isn't taken
abbrev pub IsTaken : Option (List ℕ) → Option Observation → Result Observation Outcome → Type 0
IsTaken name loaded = Tells (λ (o : Observation). (loaded ≡ Some o) × (refuses_project name (Some o) ≡ None)) (refuses_project name loaded)

-- the store is opened where these changes are wanted: the project that is there, why it isn't taken, or which file is damaged
abbrev pub Opens : (told : Type 0) → Want → Image → Option (List ℕ) → (disk_rose : Type 0) → Result Observation Outcome → Type 0
Opens told wanted image name =
    Answers (λ (o : Observation). told → IsOpened wanted image name o) (λ (refusal : Refusal). told → IsRefusedAt wanted image name refusal)
    (λ (damaged : List ℕ). told → IsDamagedAt wanted image damaged)

-- what these files are called are paths
abbrev pub ArePaths : List BundleFile → Type 0
ArePaths files = AllByRecursion (λ (file : BundleFile). IsPath file.path) files

-- the plan of a project, or why there is none
abbrev pub IsPlanned : Observation → Bundle → Result (List Act) Outcome → Type 0
IsPlanned o bundle = Tells (λ (acts : List Act). (number : ℕ) × (free_number o ≡ Some number) × (acts ≡ plan_of (baseline_of o) number bundle)) (refuses_numbers o)

-- the acts are the plan of a project that was loaded, whatever the disk tells
pub record IsSomePlan (bundle : Bundle) (acts : List Act) : Type 0 where
  pub o : Observation
  pub number : ℕ
  pub free : free_number o ≡ Some number
  pub is : acts ≡ plan_of (baseline_of o) number bundle

-- ---- a change that can be sent

-- what a change set says of the change beside its files
pub record IsHead (change : Change) (head : Head) : Type 0 where
  pub brief : head.brief ≡ change.attributes.brief
  pub description : head.description ≡ change.attributes.description
  pub cause : head.cause ≡ change.attributes.cause

-- the change is there and nothing refuses it; this is what a change set says of it but for its files' bytes
pub record IsReady (o : Observation) (number : ℕ) (found : Head × Vec Row) : Type 0 where
  pub change : Change
  pub there : change_at o number ≡ Some change
  pub free : refuses_change o (Some change) ≡ None
  pub head : IsHead change found.0
  pub rows : found.1.items ≡ sent_rows o change

abbrev pub IsSendable : Observation → ℕ → Result (Head × Vec Row) Outcome → Type 0
IsSendable o number = Tells (IsReady o number) (refuses_change o (change_at o number))

-- the project that is there, with what is sent of its change but for its files' bytes
pub record IsFound (image : Image) (name : Option (List ℕ)) (number : ℕ) (found : Head × Vec Row) : Type 0 where
  pub o : Observation
  pub opened : IsOpened (want.One number) image name o
  pub ready : IsReady o number found

-- the change is looked up in the store: what is there, why it isn't sent, or which file is damaged
abbrev pub Finds : Type 0 → Image → Option (List ℕ) → ℕ → (disk_rose : Type 0) → Result (Head × Vec Row) Outcome → Type 0
Finds tells image name number =
    Answers (λ (found : Head × Vec Row). tells → IsFound image name number found)
    (λ (refusal : Refusal). tells → RefusesSending image name number refusal)
    (λ (damaged : List ℕ). tells → IsDamagedAt (want.One number) image damaged)

-- ---- its files

-- what a change set asks of rows is so of these, and their versions end in the region
pub record AreGood (head : Head) (rows : List Row) : Type 0 where
  pub brief : length head.brief ≤ most_attribute_bytes
  pub description : length head.description ≤ most_attribute_bytes
  pub some : 1 ≤ length rows
  pub few : length rows ≤ most_change_files
  pub ascend : Ascends text_cmp path_of_row rows
  pub fit : list_all row_fits rows ≡ true
  pub bytes : sizes_of rows ≤ most_frozen_bytes
  pub inside : AllByRecursion (λ (row : Row). IfSome row.version IsInside) rows

-- the files of these rows are read from the disk's files, each version as it was kept
pub record AreReadFrom (files : Option Image) (rows : List Row) (sent : List BundleFile) : Type 0 where
  pub are : sent ≡ map (sent_file files) rows
  pub kept : AreKept files (versions_of rows)

-- how long each file is, beside what it has of its row
abbrev pub file_key : BundleFile → List ℕ × (Action × (Usage × ℕ))
file_key file = (file.path, (file.action, (file.usage, length file.bytes)))

abbrev pub row_key : Row → List ℕ × (Action × (Usage × ℕ))
row_key row = (row.path, (row.action, (row.usage, size_of row)))

-- a change set has this beside its files
pub record HasHead (head : Head) (bundle : Bundle) : Type 0 where
  pub brief : bundle.brief ≡ head.brief
  pub description : bundle.description ≡ head.description
  pub cause : bundle.cause ≡ head.cause
