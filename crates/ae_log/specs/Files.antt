-- The files of a change, and what was frozen of them.
use Rattle.std.specs.Prelude.{ℕ, ◌+◌, ◌-◌, List, [], ◌∷◌, ◌++◌, Option, Some, None, if◌then◌else◌, length, slice_get, unwrap_or}
use Rattle.std.specs.Option.{option_and_then}
use Rattle.std.specs.Str.{bytes_eq}
use Rattle.ae_base.specs.Rows.{text_cmp}
use Rattle.ae_base.specs.declared.words.Action.{Action}
use Rattle.ae_base.specs.declared.words.Usage.{Usage}
use Rattle.ae_types.specs.Frozen.{FrozenFile, numbered, present}
use Rattle.ae_types.specs.Ordered.{put_by, itself}
use Rattle.ae_log.specs.declared.event.EventKind.{EventKind}
use Rattle.ae_log.specs.declared.event.EventKind.TheVariants as on
use Rattle.ae_log.specs.Log.{Log, Happened, Course, Mark, makes, ends, leaves, standing}

-- ---- the files that a change has now

-- what a change does to a file, with its usage and the edit that it begins from
pub record FileFact : Type 0 where
  pub action : Action
  pub usage : Usage
  pub origin : ℕ

abbrev pub file_mark : List ℕ → EventKind → Mark
file_mark path (on.File other action usage origin) = if bytes_eq path other then makes else leaves
file_mark path (on.Unfile other) = if bytes_eq path other then ends else leaves
file_mark path on.Begin = ends
file_mark path on.BeginUndo = ends
file_mark path _ = leaves

abbrev pub file_in : EventKind → Option FileFact
file_in (on.File path action usage origin) = Some (record { action = action; usage = usage; origin = origin })
file_in _ = None

abbrev pub file_by : Option Happened → Option FileFact
file_by happened = option_and_then (λ (happened : Happened). file_in happened.event.what) happened

-- the last File of the path since development began, where no Unfile of it is later
abbrev pub file : Course → List ℕ → Option FileFact
file course path = file_by (standing (file_mark path) course)

-- the paths with that of a File in its place
abbrev pub paths_after : EventKind → List (List ℕ) → List (List ℕ)
paths_after (on.File path action usage origin) paths = put_by text_cmp itself path paths
paths_after _ paths = paths

-- the paths of all Files of the log, ascending
abbrev pub paths : Log → List (List ℕ)
paths [] = []
paths (event ∷ log) = paths_after event.what (paths log)

-- the paths of all Files of the change, ascending
abbrev pub course_paths : Course → List (List ℕ)
course_paths [] = []
course_paths (happened ∷ course) = paths_after happened.event.what (course_paths course)

-- ---- versions

abbrev pub versions_after : EventKind → List (List ℕ) → List (List ℕ)
versions_after (on.End tree to places) made = made ++ present tree
versions_after _ made = made

-- the bytes of all versions that were ever made, in their order; the first has number 1
abbrev pub versions : Log → List (List ℕ)
versions [] = []
versions (event ∷ log) = versions_after event.what (versions log)

-- the number that the next version gets
abbrev pub next_version : Log → ℕ
next_version log = 1 + length (versions log)

-- the bytes of the version of a number
abbrev pub version_bytes : Log → ℕ → List ℕ
version_bytes log number = unwrap_or (slice_get (versions log) (number - 1)) []

-- ---- frozen trees

abbrev pub frozen_mark : EventKind → Mark
frozen_mark (on.End tree to places) = makes
frozen_mark on.EndUndo = ends
frozen_mark on.Fail = ends
frozen_mark on.IFail = ends
frozen_mark _ = leaves

abbrev pub frozen_in : Log → EventKind → List FrozenFile
frozen_in before (on.End tree to places) = numbered (next_version before) tree places
frozen_in before _ = []

abbrev pub frozen_by : Option Happened → List FrozenFile
frozen_by (Some happened) = frozen_in happened.before happened.event.what
frozen_by None = []

-- the tree of the change's last End, where development didn't begin again since
abbrev pub frozen : Course → List FrozenFile
frozen course = frozen_by (standing frozen_mark course)
