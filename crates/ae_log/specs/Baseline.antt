-- Deltas, what each made of a path, the files at a delta, the locks, and the candidate of a change.
use Rattle.std.specs.Prelude.{ℕ, ◌+◌, Bool, ◌&&◌, List, [], ◌∷◌, ◌++◌, Option, Some, None, is_some, length}
use Rattle.std.specs.List.{filter_map, find}
use Rattle.std.specs.Option.{option_map, option_and_then}
use Rattle.std.specs.Str.{bytes_eq}
use Rattle.ae_base.specs.declared.words.Usage.{Usage}
use Rattle.ae_types.specs.declared.project.DeltaRow.{DeltaRow}
use Rattle.ae_types.specs.Phases.{holds_locks}
use Rattle.ae_types.specs.Trees.{last_by}
use Rattle.ae_types.specs.Frozen.{Version, FrozenFile, frozen_file, version_of}
use Rattle.ae_log.specs.declared.event.Event.{Event}
use Rattle.ae_log.specs.declared.event.EventKind.{EventKind}
use Rattle.ae_log.specs.declared.event.EventKind.TheVariants as on
use Rattle.ae_log.specs.Log.{Log, Course, course}
use Rattle.ae_log.specs.Phases.{phase_of}
use Rattle.ae_log.specs.Settings.{is_there, change_numbers}
use Rattle.ae_log.specs.Files.{FileFact, file, paths, frozen}

-- ---- deltas

abbrev pub deltas_after : Event → List DeltaRow → Option ℕ → EventKind → List DeltaRow
deltas_after event rows (Some number) on.IPass = rows ++ record { delta = length rows + 1; change = number; when = event.when; who = event.who } ∷ []
deltas_after event rows _ _ = rows

-- the n-th IPass makes delta n
abbrev pub deltas : Log → List DeltaRow
deltas [] = []
deltas (event ∷ log) = deltas_after event (deltas log) event.change event.what

-- what a delta made of a path; no version where it removed it
pub record Entry : Type 0 where
  pub delta : ℕ
  pub usage : Usage
  pub version : Option Version

-- the entries of a path with one more, where the change of the delta has it
abbrev pub with_entry : ℕ → Option FrozenFile → Option FileFact → List Entry → List Entry
with_entry delta frozen (Some file) entries = entries ++ record { delta = delta; usage = file.usage; version = version_of frozen } ∷ []
with_entry delta frozen None entries = entries

abbrev pub past_after : Log → List ℕ → List Entry → Option ℕ → EventKind → List Entry
past_after before path entries (Some number) on.IPass = with_entry (length (deltas before) + 1) (frozen_file (frozen (course before number)) path) (file (course before number) path) entries
past_after before path entries _ _ = entries

-- what the deltas made of the path, of those whose change had it among its files just before
abbrev pub past : Log → List ℕ → List Entry
past [] path = []
past (event ∷ log) path = past_after log path (past log path) event.change event.what

-- how many deltas have changed the path
abbrev pub edit : Log → List ℕ → ℕ
edit log path = length (past log path)

-- ---- the files at a delta

-- the last entry up to a delta
abbrev pub last_up_to : ℕ → List Entry → Option Entry
last_up_to = last_by (λ (entry : Entry). entry.delta)

-- a file at a delta
pub record TreeFile : Type 0 where
  pub path : List ℕ
  pub usage : Usage
  pub version : Version

abbrev pub tree_file_of : List ℕ → Usage → Version → TreeFile
tree_file_of path usage version = record { path = path; usage = usage; version = version }

-- the file that an entry makes of a path, where it doesn't remove it
abbrev pub entry_file : List ℕ → Entry → Option TreeFile
entry_file path entry = option_map (tree_file_of path entry.usage) entry.version

abbrev pub tree_file : Log → ℕ → List ℕ → Option TreeFile
tree_file log delta path = option_and_then (entry_file path) (last_up_to delta (past log path))

-- the files at a delta: the paths whose last entry up to it doesn't remove them
abbrev pub tree : Log → ℕ → List TreeFile
tree log delta = filter_map (tree_file log delta) (paths log)

-- the files at the last delta
abbrev pub baseline : Log → List TreeFile
baseline log = tree log (length (deltas log))

-- ---- locks

-- the change is there, has the path, and is under review or integrated
abbrev pub holds : List ℕ → Course → Bool
holds path course = is_there course && is_some (file course path) && holds_locks (phase_of course)

-- the change that holds the path
abbrev pub locked : Log → List ℕ → Option ℕ
locked log path = find (λ number. holds path (course log number)) change_numbers

-- ---- candidates

-- the file that a change makes of a path, where it has frozen it, and else the baseline's
abbrev pub frozen_or : List ℕ → Option FrozenFile → Option FileFact → Option TreeFile → Option TreeFile
frozen_or path (Some frozen) fact below = option_and_then (λ (fact : FileFact). option_map (tree_file_of path fact.usage) frozen.version) fact
frozen_or path None fact below = below

abbrev pub candidate_file : Log → ℕ → List ℕ → Option TreeFile
candidate_file log number path =
    frozen_or path (frozen_file (frozen (course log number)) path) (file (course log number) path)
    (find (λ (file : TreeFile). bytes_eq path file.path) (baseline log))

-- the files of the baseline that aren't frozen in the change, and the frozen ones that it doesn't remove
abbrev pub candidate : Log → ℕ → List TreeFile
candidate log number = filter_map (candidate_file log number) (paths log)
