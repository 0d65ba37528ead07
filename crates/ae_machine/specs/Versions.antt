-- Which versions a build or a test asks for, and when what it sees shows those that its answer depends on.
use Rattle.std.specs.Prelude.{◌≡◌, ℕ, Bool, true, ◌&&◌, not, List, [], ◌∷◌, map, filter, false, Option, Some, None, if◌then◌else◌}
use Rattle.std.specs.List.{list_all, cons_option}
use Rattle.std.specs.Str.{bytes_eq}
use Rattle.ae_base.specs.Rows.{Row, Rows}
use Rattle.ae_base.specs.declared.words.Kind.{Kind}
use Rattle.ae_base.specs.declared.words.Kind.TheVariants as kind
use Rattle.ae_base.specs.declared.refusal.Refusal.{Refusal}
use Rattle.ae_base.specs.declared.refusal.Refusal.TheVariants.{Differs}
use Rattle.ae_types.specs.declared.change.Change.{Change}
use Rattle.ae_types.specs.declared.change.ChangeFile.{ChangeFile}
use Rattle.ae_types.specs.Found.{has_file}
use Rattle.ae_types.specs.Observation.{Observation}
use Rattle.ae_types.specs.Phases.{is_integrating, is_remove, is_test}
use Rattle.ae_types.specs.Trees.{TreeRow, baseline_of, candidate_of}
use Rattle.ae_words.specs.declared.command.Command.{Command}
use Rattle.ae_machine.specs.declared.view.View.{View}
use Rattle.ae_machine.specs.Call.{Call, Given, SightCondition, call_of, change_of, seen_on_change}
use Rattle.ae_machine.specs.Directories.{removed}
use Rattle.ae_machine.specs.Fits.{makes_runs}
use Rattle.ae_machine.specs.Freezing.{is_these, first_content_refused}
use Rattle.ae_machine.specs.Runs.{kind_of}
use Rattle.ae_evidence.specs.Directories.{bytes_of}
use Rattle.ae_machine.specs.Sight.{config_below, paths_read, read_at}

-- ---- the versions that it asks for

-- the baseline's aegis.conf, where a command takes its runs' commands from it
abbrev pub config_version : Call → Option Change → Option TreeRow
config_version call (Some change) = if makes_runs call.command.function then config_below call change else None
config_version call None = None

-- the baseline's files outside the change, which are put into the develop directory before runs
abbrev pub rows_refreshed : Call → Option Change → List TreeRow
rows_refreshed call (Some change) =
    if is_integrating change.phase then []
    else filter (λ (row : TreeRow). not (has_file change row.path)) (baseline_of call.stands)
rows_refreshed call None = []

abbrev pub rows_under : Kind → Call → List TreeRow
rows_under kind.BaselineTest call = baseline_of call.stands
rows_under _ call = []

-- the baseline's files, which are put into the base directory before baseline tests
abbrev pub rows_based : Call → Option Change → List TreeRow
rows_based call (Some change) = rows_under (kind_of call.command.function call.command) call
rows_based call None = []

-- ---- what goes with them into the directories

-- no file at each path that the change removes
abbrev pub removed_among : List ChangeFile → Rows
removed_among files = map (λ (file : ChangeFile). removed file.path) (filter (λ (file : ChangeFile). is_remove file.action) files)

-- the file is a test of this path that the change doesn't remove
abbrev pub is_test_at : List ℕ → ChangeFile → Bool
is_test_at path file = is_test file.usage && not (is_remove file.action) && bytes_eq path file.path

-- ---- the versions that its answer depends on

-- in integration the candidate's, in development the baseline's aegis.conf, where the commands are taken from it
abbrev pub versions_of_change : Call → Change → List TreeRow
versions_of_change call change = if is_integrating change.phase then candidate_of call.stands change else cons_option (config_below call change) []

abbrev pub versions_of_runs : Call → Option Change → List TreeRow
versions_of_runs call (Some change) = versions_of_change call change
versions_of_runs call None = []

-- of a command that makes no runs there are none
abbrev pub versions_asked : Call → List TreeRow
versions_asked call = if makes_runs call.command.function then versions_of_runs call (change_of call) else []

-- what was read at the path of a version is its bytes
abbrev pub is_shown : (ℕ → List ℕ) → View → TreeRow → Bool
is_shown bytes view row = is_these (bytes row.version.number) (read_at view row.path)

-- each of the versions that the answer depends on stands with its bytes in what the command sees
abbrev pub ShowsVersions : Option Observation → (ℕ → List ℕ) → Command → List ℕ → View → Type 0
ShowsVersions (Some o) bytes command who view = list_all (is_shown bytes view) (versions_asked (call_of o command who)) ≡ true
ShowsVersions None bytes command who view = Unit {0}

-- ---- the files that it reads

abbrev pub kept_files_refused : Given → Change → Option Refusal
kept_files_refused given change = if is_integrating change.phase then None else first_content_refused given.view (paths_read given.call change)

-- in development each file that the change keeps is there and not too long
abbrev pub files_refused : SightCondition
files_refused = seen_on_change kept_files_refused

-- ---- the files that it compares

-- in integration the candidate's versions, with which its files are compared
abbrev pub rows_compared : Call → Option Change → List TreeRow
rows_compared call (Some change) = if is_integrating change.phase then candidate_of call.stands change else []
rows_compared call None = []

-- these bytes were read
abbrev pub is_read_so : Option (List ℕ) → Option (List ℕ) → Bool
is_read_so (Some read) (Some bytes) = bytes_eq bytes read
is_read_so _ _ = false

-- what was read at the path of a row is its bytes
abbrev pub is_row_shown : View → Row → Bool
is_row_shown view row = is_read_so (bytes_of (read_at view row.0)) row.1

-- the first of these files that was read with other bytes refuses
abbrev pub first_differing : View → Rows → Option Refusal
first_differing view [] = None
first_differing view (row ∷ rows) = if is_row_shown view row then first_differing view rows else Some (Differs row.0)
