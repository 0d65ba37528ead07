-- A change that was made of a change set: what it is once all acts of the plan are done.
use Rattle.std.specs.Prelude.{◌≡◌, ℕ, List, map, if◌then◌else◌, Option, Some, None}
use Rattle.std.specs.List.{filter_map, find, AllByRecursion}
use Rattle.std.specs.Option.{option_map}
use Rattle.std.specs.Str.{bytes_eq}
use Rattle.ae_base.specs.Bytes.{AreBytes}
use Rattle.ae_base.specs.declared.words.Action.TheVariants.{Create, Modify, Remove}
use Rattle.ae_base.specs.declared.words.Phase.TheVariants.{BeingDeveloped}
use Rattle.ae_bundle.specs.Bundled.{bundle_path}
use Rattle.ae_bundle.specs.declared.bundle.Bundle.{Bundle}
use Rattle.ae_bundle.specs.declared.bundle.BundleFile.{BundleFile}
use Rattle.ae_files.specs.InTree.{row_at}
use Rattle.ae_log.specs.Log.{Log}
use Rattle.ae_log.specs.Observed.{observation}
use Rattle.ae_outside.specs.Trees.{Tree}
use Rattle.ae_types.specs.declared.change.Change.{Change}
use Rattle.ae_types.specs.declared.change.ChangeAttributes.{ChangeAttributes}
use Rattle.ae_types.specs.Found.{change_at}
use Rattle.ae_types.specs.Observation.{Observation}
use Rattle.ae_types.specs.Phases.{is_remove}
use Rattle.ae_types.specs.Trees.{TreeRow, baseline_of}
use Rattle.ae_received.specs.Edits.{Edit, edit, edit_of}

-- ---- what is received of a file

-- Where the baseline has its path, the file is removed or modified, and keeps the usage that it has there. Where it hasn't, there is
-- nothing to remove, and any other file is created.
abbrev pub edit_beside : BundleFile → Option TreeRow → Option Edit
edit_beside file (Some row) = Some (edit file.path (if is_remove file.action then Remove else Modify) row.usage)
edit_beside file None = if is_remove file.action then None else Some (edit file.path Create file.usage)

abbrev pub edit_received : Observation → BundleFile → Option Edit
edit_received o file = edit_beside file (row_at (baseline_of o) file.path)

abbrev pub edits_received : Observation → Bundle → List Edit
edits_received o bundle = filter_map (edit_received o) bundle.files

-- ---- what lies in its directory

-- a directory has the bytes of a file that is sent, and no file where one is removed
abbrev pub LiesThere : Tree → BundleFile → Type 0
LiesThere directory file = directory file.path ≡ (if is_remove file.action then None else Some file.bytes)

-- the file that is sent of a path
abbrev pub sent_at : Bundle → List ℕ → Option BundleFile
sent_at bundle path = find (λ file. bytes_eq path (bundle_path file)) bundle.files

-- what the baseline has at a path, where these are the bytes of each version
abbrev pub file_below : Observation → (ℕ → List ℕ) → Tree
file_below o bytes path = option_map (λ (row : TreeRow). bytes row.version.number) (row_at (baseline_of o) path)

-- ---- the change

-- the texts that a change set says of itself are of bytes, as they are by their types
abbrev pub TextsAreBytes : Bundle → Type 0
TextsAreBytes bundle = AreBytes bundle.brief × AreBytes bundle.description

-- attributes say what the change set says of itself
pub record AreDescribed (attributes : ChangeAttributes) (bundle : Bundle) : Type 0 where
  pub brief : attributes.brief ≡ bundle.brief
  pub description : attributes.description ≡ bundle.description
  pub cause : attributes.cause ≡ bundle.cause

-- The change is what was sent, beside what stood before, where these are the bytes of each version.
pub record IsReceived (stood : Observation) (bytes : ℕ → List ℕ) (bundle : Bundle) (who : List ℕ) (change : Change) (directory : Tree) : Type 0 where
  -- the user develops it, and it says of itself what the change set says
  pub phase : change.phase ≡ BeingDeveloped
  pub developer : change.developer ≡ Some who
  pub described : TextsAreBytes bundle → AreDescribed change.attributes bundle
  -- it has the rows that the files ask for, and no others
  pub edits : map edit_of change.files ≡ edits_received stood bundle
  -- its directory has the files, and all else as the baseline has it
  pub files : AllByRecursion (LiesThere directory) bundle.files
  pub others : (path : List ℕ) → sent_at bundle path ≡ None → directory path ≡ file_below stood bytes path

-- After this log the change of this number is so, and the baseline is as it was.
pub record HasReceived (stood : Observation) (bytes : ℕ → List ℕ) (bundle : Bundle) (number : ℕ) (who : List ℕ) (log : Log) (directory : Tree) : Type 0 where
  pub after : Observation
  pub stands : observation log ≡ Some after
  pub baseline : baseline_of after ≡ baseline_of stood
  pub change : Change
  pub there : change_at after number ≡ Some change
  pub is : IsReceived stood bytes bundle who change directory
