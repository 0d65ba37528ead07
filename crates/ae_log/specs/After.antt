-- What stands after one more event.
use Rattle.std.specs.Prelude.{ℕ, ◌+◌, not, List, [], ◌∷◌, ◌++◌, map, Option, Some, None, if◌then◌else◌, length, nat_eq, filter}
use Rattle.std.specs.Option.{option_map}
use Rattle.std.specs.Ordering.{nat_cmp}
use Rattle.std.specs.Str.{bytes_eq}
use Rattle.ae_base.specs.Rows.{Rows, text_cmp}
use Rattle.ae_types.specs.Users.{without}
use Rattle.ae_base.specs.declared.words.Action.{Action}
use Rattle.ae_base.specs.declared.words.Usage.{Usage}
use Rattle.ae_base.specs.declared.words.Phase.{Phase}
use Rattle.ae_base.specs.declared.words.Phase.TheVariants as phase
use Rattle.ae_base.specs.declared.words.Ground.{Ground}
use Rattle.ae_base.specs.declared.words.Ground.TheVariants as part
use Rattle.ae_types.specs.declared.project.Attributes.{Attributes}
use Rattle.ae_types.specs.declared.project.Project.{Project}
use Rattle.ae_types.specs.declared.change.Change.{Change}
use Rattle.ae_types.specs.declared.change.ChangeAttributes.{ChangeAttributes}
use Rattle.ae_types.specs.declared.change.ChangeFile.{ChangeFile}
use Rattle.ae_types.specs.declared.change.Evidence.{Evidence}
use Rattle.ae_types.specs.declared.file_table.FileRow.{FileRow}
use Rattle.ae_types.specs.declared.file_table.FileVersion.{FileVersion}
use Rattle.ae_types.specs.declared.file_table.Lock.{Lock}
use Rattle.ae_types.specs.Observation.{Observation}
use Rattle.ae_types.specs.Ordered.{put_by, itself}
use Rattle.ae_types.specs.Found.{number_of_change, file_path, row_path, lock_path, row_in, change_at}
use Rattle.ae_types.specs.Roles.{users_of, with_users}
use Rattle.ae_types.specs.Runs.{same_during, run_cmp, run_of}
use Rattle.ae_types.specs.Trees.{past_in}
use Rattle.ae_types.specs.Frozen.{numbered, ref_of, frozen_file, version_of, present}
use Rattle.ae_log.specs.declared.event.Event.{Event}
use Rattle.ae_log.specs.declared.event.EventKind.{EventKind}
use Rattle.ae_log.specs.declared.event.EventKind.TheVariants as on
use Rattle.ae_log.specs.Maker.{Maker, maker_of}
use Rattle.ae_log.specs.Phases.{phase_after, word_of, with_row}
use Rattle.ae_log.specs.Baseline.{deltas_after}
use Rattle.ae_log.specs.Runs.{evidence_row}
use Rattle.ae_log.specs.Observed.{lock_of}

-- ---- parts of a change

abbrev pub thawed : ChangeFile → ChangeFile
thawed file = record file { frozen = None }

-- the file with its version of the tree, whose versions are numbered from next on
abbrev pub frozen_as : ℕ → Rows → List ℕ → ChangeFile → ChangeFile
frozen_as next tree places file = record file { frozen = option_map ref_of (version_of (frozen_file (numbered next tree places) file.path)) }

abbrev pub new_file : List ℕ → Action → Usage → ℕ → ChangeFile
new_file path action usage origin = record { path = path; action = action; usage = usage; origin = origin; frozen = None }

abbrev pub with_file : ChangeFile → List ChangeFile → List ChangeFile
with_file file files = put_by text_cmp file_path file files

abbrev pub without_file : List ℕ → List ChangeFile → List ChangeFile
without_file path files = filter (λ file. not (bytes_eq path (file_path file))) files

abbrev pub with_evidence : Evidence → List Evidence → List Evidence
with_evidence row rows = put_by run_cmp run_of row rows

-- the runs but for those of that part of the change's life
abbrev pub without_runs : Ground → List Evidence → List Evidence
without_runs during rows = filter (λ (row : Evidence). not (same_during during row.during)) rows

abbrev pub with_settings : ChangeAttributes → Change → Change
with_settings attributes change = record change { attributes = attributes }

-- ---- the change of the event

-- the change after the event, but for its phase and history; next is the number of the next version
abbrev pub changed : ℕ → Event → EventKind → Change → Change
changed next event (on.ChangeAttributes attributes) change = with_settings attributes change
changed next event on.Begin change = record change { developer = Some event.who; files = []; evidence = without_runs part.Develop change.evidence }
changed next event on.BeginUndo change = record change { developer = None; files = []; evidence = without_runs part.Develop change.evidence }
changed next event (on.File path action usage origin) change = record change { files = with_file (new_file path action usage origin) change.files }
changed next event (on.Unfile path) change = record change { files = without_file path change.files }
changed next event (on.Run run) change = record change { evidence = with_evidence (evidence_row event run) change.evidence }
changed next event (on.End tree to places) change = record change { files = map (frozen_as next tree places) change.files; reviewing = None; reviewer = None }
changed next event on.EndUndo change = record change { files = map thawed change.files; reviewing = None; reviewer = None }
changed next event on.ReviewBegin change = record change { reviewing = Some event.who }
changed next event on.ReviewBeginUndo change = record change { reviewing = None }
changed next event on.Pass change = record change { reviewer = Some event.who }
changed next event on.PassUndo change = record change { reviewer = None }
changed next event on.Fail change = record change { files = map thawed change.files; reviewing = None; reviewer = None }
changed next event on.IBegin change = record change { integrator = Some event.who; evidence = without_runs part.Integrate change.evidence }
changed next event on.IBeginUndo change = record change { integrator = None; evidence = without_runs part.Integrate change.evidence }
changed next event on.IPass change = record change { files = map thawed change.files }
changed next event on.IFail change = record change { files = map thawed change.files; reviewing = None; reviewer = None; integrator = None; evidence = without_runs part.Integrate change.evidence }
changed next event _ change = change

-- the phase of the event, or that before it where the event has none
abbrev pub moved : Option Phase → Phase → Phase
moved (Some later) earlier = later
moved None earlier = earlier

abbrev pub change_after : ℕ → Event → Change → Change
change_after next event change =
    let later = changed next event event.what change in
    record later { phase = moved (phase_after event.what) change.phase; history = with_row (word_of event.what) (maker_of event) change.history }

-- what a New makes
abbrev pub new_change : Maker → ℕ → ChangeAttributes → Change
new_change maker number attributes = record {
  number = number;
  attributes = attributes;
  phase = phase.AwaitingDevelopment;
  developer = None;
  reviewing = None;
  reviewer = None;
  integrator = None;
  files = [];
  evidence = [];
  history = with_row (word_of (on.New attributes)) maker [];
}

-- ---- the changes

-- the change made another where it has this number
abbrev pub where_number : ℕ → (Change → Change) → Change → Change
where_number number make change = if nat_eq number (number_of_change change) then make change else change

abbrev pub changes_after : ℕ → Event → ℕ → EventKind → List Change → List Change
changes_after next event number (on.New attributes) changes = put_by nat_cmp number_of_change (new_change (maker_of event) number attributes) changes
changes_after next event number on.NewUndo changes = filter (λ change. not (nat_eq number (number_of_change change))) changes
changes_after next event number _ changes = map (where_number number (change_after next event)) changes

abbrev pub numbers_after : ℕ → EventKind → List ℕ → List ℕ
numbers_after number (on.New attributes) numbers = put_by nat_cmp itself number numbers
numbers_after number on.NewUndo numbers = filter (λ other. not (nat_eq number other)) numbers
numbers_after number _ numbers = numbers

abbrev pub files_of : Option Change → List ChangeFile
files_of (Some change) = change.files
files_of None = []

-- ---- the locks: an End takes those of the change's files, and they end where the change goes back or is completed

abbrev pub with_locks : ℕ → List ChangeFile → List Lock → List Lock
with_locks number [] locks = locks
with_locks number (file ∷ files) locks = put_by text_cmp lock_path (lock_of file.path number) (with_locks number files locks)

abbrev pub without_locks : ℕ → List Lock → List Lock
without_locks number locks = filter (λ (lock : Lock). not (nat_eq number lock.change)) locks

abbrev pub locks_after : EventKind → ℕ → List ChangeFile → List Lock → List Lock
locks_after (on.End tree to places) number files locks = with_locks number files locks
locks_after on.EndUndo number files locks = without_locks number locks
locks_after on.Fail number files locks = without_locks number locks
locks_after on.IPass number files locks = without_locks number locks
locks_after on.IFail number files locks = without_locks number locks
locks_after _ number files locks = locks

-- ---- the file table: an IPass enters the files of its change

abbrev pub new_entry : ℕ → ChangeFile → FileVersion
new_entry delta file = record { delta = delta; usage = file.usage; version = file.frozen }

abbrev pub row_of : List ℕ → List FileVersion → FileRow
row_of path past = record { path = path; past = past }

-- the rows with one more entry of the file's path
abbrev pub entered : ℕ → ChangeFile → List FileRow → List FileRow
entered delta file rows = put_by text_cmp row_path (row_of file.path (past_in (row_in rows file.path) ++ new_entry delta file ∷ [])) rows

abbrev pub all_entered : ℕ → List ChangeFile → List FileRow → List FileRow
all_entered delta [] rows = rows
all_entered delta (file ∷ files) rows = all_entered delta files (entered delta file rows)

abbrev pub rows_after : EventKind → ℕ → List ChangeFile → List FileRow → List FileRow
rows_after on.IPass delta files rows = all_entered delta files rows
rows_after _ delta files rows = rows

-- ---- the project

abbrev pub project_after : Event → EventKind → Project → Project
project_after event (on.Attributes attributes) project = record project { attributes = attributes }
project_after event (on.RoleAdd role user) project = with_users role (users_of role project ++ user ∷ []) project
project_after event (on.RoleDrop role user) project = with_users role (without user (users_of role project)) project
project_after event (on.End tree to places) project = record project { next_version = project.next_version + length (present tree) }
project_after event on.IPass project = record project { deltas = deltas_after event project.deltas event.change on.IPass }
project_after event _ project = project

-- ---- the whole

-- after an event of this change
abbrev pub after_change : Event → ℕ → Observation → Observation
after_change event number o = record {
  project = project_after event event.what o.project;
  numbers = numbers_after number event.what o.numbers;
  files = rows_after event.what (length o.project.deltas + 1) (files_of (change_at o number)) o.files;
  locks = locks_after event.what number (files_of (change_at o number)) o.locks;
  changes = changes_after o.project.next_version event number event.what o.changes;
}

abbrev pub after_of : Event → Option ℕ → Observation → Observation
after_of event (Some number) o = after_change event number o
after_of event None o = record o { project = project_after event event.what o.project }

-- what stands after the event
abbrev pub after : Observation → Event → Observation
after o event = after_of event event.change o

-- what stands after events, one after another
abbrev pub after_all : Observation → List Event → Observation
after_all o [] = o
after_all o (event ∷ events) = after_all (after o event) events

-- ---- the first event

abbrev pub new_project : List ℕ → List ℕ → Attributes → Project
new_project who name attributes = record {
  name = name;
  attributes = attributes;
  administrators = who ∷ [];
  developers = [];
  reviewers = [];
  integrators = [];
  next_version = 1;
  deltas = [];
}

abbrev pub new_observation : List ℕ → List ℕ → Attributes → Observation
new_observation who name attributes = record { project = new_project who name attributes; numbers = []; files = []; locks = []; changes = [] }

abbrev pub started_by : List ℕ → EventKind → Option Observation
started_by who (on.Project name attributes) = Some (new_observation who name attributes)
started_by who _ = None

-- what stands after an event that makes a project
abbrev pub started : Event → Option Observation
started event = started_by event.who event.what
