-- All that stands after a log.
use Rattle.std.specs.Prelude.{ℕ, List, [], ◌∷◌, map, Option, Some, None, if◌then◌else◌}
use Rattle.std.specs.List.{filter_map}
use Rattle.std.specs.Option.{option_map}
use Rattle.ae_base.specs.declared.words.Role.TheVariants.{Administrator, Developer, Reviewer, Integrator}
use Rattle.ae_types.specs.declared.project.Attributes.{Attributes}
use Rattle.ae_types.specs.declared.project.Project.{Project}
use Rattle.ae_types.specs.declared.change.Change.{Change}
use Rattle.ae_types.specs.declared.change.ChangeAttributes.{ChangeAttributes}
use Rattle.ae_types.specs.declared.change.ChangeFile.{ChangeFile}
use Rattle.ae_types.specs.declared.file_table.FileRow.{FileRow}
use Rattle.ae_types.specs.declared.file_table.FileVersion.{FileVersion}
use Rattle.ae_types.specs.declared.file_table.Lock.{Lock}
use Rattle.ae_types.specs.declared.version.VersionRef.{VersionRef}
use Rattle.ae_types.specs.Observation.{Observation}
use Rattle.ae_types.specs.Phases.{holds_locks}
use Rattle.ae_types.specs.Trees.{TreeRow}
use Rattle.ae_types.specs.Frozen.{ref_of, frozen_file, version_of}
use Rattle.ae_log.specs.Log.{Log, Course, course}
use Rattle.ae_log.specs.Phases.{phase_of, history}
use Rattle.ae_log.specs.People.{developer, reviewing, reviewer, integrator}
use Rattle.ae_log.specs.Settings.{project_name, attributes, role_users, change_attributes, change_numbers, numbers}
use Rattle.ae_log.specs.Files.{FileFact, file, paths, course_paths, next_version, frozen}
use Rattle.ae_log.specs.Baseline.{deltas, Entry, past, TreeFile, locked}
use Rattle.ae_log.specs.Runs.{evidence}

-- ---- a change

-- the version of a file of the change, from the end of its development until it is integrated
abbrev pub frozen_version : Course → List ℕ → Option VersionRef
frozen_version course path = if holds_locks (phase_of course) then option_map ref_of (version_of (frozen_file (frozen course) path)) else None

abbrev pub change_file_of : List ℕ → Option VersionRef → FileFact → ChangeFile
change_file_of path frozen fact = record { path = path; action = fact.action; usage = fact.usage; origin = fact.origin; frozen = frozen }

abbrev pub change_file : Course → List ℕ → Option ChangeFile
change_file course path = option_map (change_file_of path (frozen_version course path)) (file course path)

-- the files of the change, ascending by path
abbrev pub change_files : Course → List ChangeFile
change_files course = filter_map (change_file course) (course_paths course)

abbrev pub change_with : ℕ → Course → ChangeAttributes → Change
change_with number course attributes = record {
  number = number;
  attributes = attributes;
  phase = phase_of course;
  developer = developer course;
  reviewing = reviewing course;
  reviewer = reviewer course;
  integrator = integrator course;
  files = change_files course;
  evidence = evidence course;
  history = history course;
}

-- what stands of a change after what befell it, where it is there
abbrev pub change : ℕ → Course → Option Change
change number course = option_map (change_with number course) (change_attributes course)

-- ---- the file table and the locks

abbrev pub file_version : Entry → FileVersion
file_version entry = record { delta = entry.delta; usage = entry.usage; version = option_map ref_of entry.version }

-- the row of a path, where some delta made something of it
abbrev pub file_row : List ℕ → List Entry → Option FileRow
file_row path [] = None
file_row path (entry ∷ entries) = Some (record { path = path; past = map file_version (entry ∷ entries) })

abbrev pub lock_of : List ℕ → ℕ → Lock
lock_of path number = record { path = path; change = number }

abbrev pub lock : Log → List ℕ → Option Lock
lock log path = option_map (lock_of path) (locked log path)

-- ---- the whole

abbrev pub project_with : Log → Attributes → Project
project_with log attributes = record {
  name = project_name log;
  attributes = attributes;
  administrators = role_users log Administrator;
  developers = role_users log Developer;
  reviewers = role_users log Reviewer;
  integrators = role_users log Integrator;
  next_version = next_version log;
  deltas = deltas log;
}

abbrev pub observation_with : Log → Attributes → Observation
observation_with log attributes = record {
  project = project_with log attributes;
  numbers = numbers log;
  files = filter_map (λ path. file_row path (past log path)) (paths log);
  locks = filter_map (lock log) (paths log);
  changes = filter_map (λ number. change number (course log number)) change_numbers;
}

-- what stands after a log, but for the bytes of the versions; nothing before the project is made
abbrev pub observation : Log → Option Observation
observation log = option_map (observation_with log) (attributes log)

-- a file at a delta, as the records have it
abbrev pub tree_row_of : TreeFile → TreeRow
tree_row_of file = record { path = file.path; usage = file.usage; version = ref_of file.version }
