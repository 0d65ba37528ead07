-- Which views a command may have.
use Rattle.std.specs.Prelude.{◌≡◌, ◌≢◌, ℕ, Bool, true, false, ◌&&◌, List, [], ◌∷◌, ◌++◌, map, Option, Some, None, if◌then◌else◌, length, take, All, IsTrue}
use Rattle.std.specs.List.{list_all}
use Rattle.ae_base.specs.Limits.{most_attribute_bytes, most_file_bytes}
use Rattle.ae_base.specs.Rows.{Rows}
use Rattle.ae_outside.specs.Site.{IsAtMost}
use Rattle.ae_outside.specs.declared.dir.Content.{Content}
use Rattle.ae_outside.specs.declared.dir.Content.TheVariants.{Bytes}
use Rattle.ae_types.specs.declared.change.Change.{Change}
use Rattle.ae_types.specs.Runs.{Needed}
use Rattle.ae_types.specs.Trees.{TreeRow}
use Rattle.ae_words.specs.declared.table.Function.{Function}
use Rattle.ae_words.specs.declared.table.Function.TheVariants as function
use Rattle.ae_log.specs.Runs.{same_rows}
use Rattle.ae_machine.specs.declared.view.View.{View}
use Rattle.ae_evidence.specs.declared.runs.RunRow.{RunRow}
use Rattle.ae_machine.specs.Call.{Call, Given, change_of}
use Rattle.ae_machine.specs.Runs.{group, needed_of, tracked}
use Rattle.ae_machine.specs.Sight.{paths_read, config_below}

-- ---- what a function reads and runs

abbrev pub reads_files : Function → Bool
reads_files function.Build = true
reads_files function.Test = true
reads_files function.DevelopEnd = true
reads_files _ = false

abbrev pub makes_runs : Function → Bool
makes_runs function.Build = true
makes_runs function.Test = true
makes_runs _ = false

-- the baseline's aegis.conf as a row that was read
abbrev pub config_row : (ℕ → List ℕ) → Option TreeRow → List (List ℕ × Content)
config_row bytes (Some row) = (row.path, Bytes (bytes row.version.number)) ∷ []
config_row bytes None = []

-- what is read and run for the change that the command names, and nothing where it names none
abbrev pub paths_asked : Call → Option Change → List (List ℕ)
paths_asked call (Some change) = if reads_files call.command.function then paths_read call change else []
paths_asked call None = []

abbrev pub config_asked : Given → Option Change → List (List ℕ × Content)
config_asked given (Some change) = if makes_runs given.call.command.function then config_row given.bytes (config_below given.call change) else []
config_asked given None = []

abbrev pub runs_asked : Call → Option Change → List Needed
runs_asked call (Some change) = group call change
runs_asked call None = []

abbrev pub tracked_in : Given → Option Change → Rows
tracked_in given (Some change) = tracked given change
tracked_in given None = []

-- ---- the runs of a view

-- it left the tracked files as they were
abbrev pub is_clean : RunRow → Bool
is_clean run = same_rows run.before run.after

-- none but the last changed the files
abbrev pub clean_but_last : List RunRow → Bool
clean_but_last [] = true
clean_but_last (run ∷ []) = true
clean_but_last (run ∷ next ∷ runs) = is_clean run && clean_but_last (next ∷ runs)

-- ---- whole views

abbrev pub path_of_row : List ℕ × Content → List ℕ
path_of_row row = row.0

-- The rows that were read are those of the paths that are asked for, after which the baseline's aegis.conf stands where the
-- command is taken from it; no file is longer than its limit; the runs are the first of those that are asked for, each on the
-- tracked files, and only the last may have changed them.
pub record Fits (given : Given) : Type 0 where
  pub rows : List (List ℕ × Content)
  pub read : given.view.develop ≡ rows ++ config_asked given (change_of given.call)
  pub paths : map path_of_row rows ≡ paths_asked given.call (change_of given.call)
  pub attributes : IsAtMost most_attribute_bytes given.view.attributes
  pub lengths : All (λ (row : List ℕ × Content). IsAtMost most_file_bytes row.1) given.view.develop
  pub runs : map needed_of given.view.runs ≡ take (length given.view.runs) (runs_asked given.call (change_of given.call))
  pub before : All (λ (run : RunRow). run.before ≡ tracked_in given (change_of given.call)) given.view.runs
  pub clean : IsTrue (clean_but_last given.view.runs)

-- A build or a test made a run, and all that are asked for unless the last changed files.
pub record IsWhole (given : Given) : Type 0 where
  pub some : makes_runs given.call.command.function ≡ true → given.view.runs ≢ []
  pub all : makes_runs given.call.command.function ≡ true → list_all is_clean given.view.runs ≡ true
      → length given.view.runs ≡ length (runs_asked given.call (change_of given.call))

-- where there is no project only a file of attributes is read
pub record FitsNothing (view : View) : Type 0 where
  pub attributes : IsAtMost most_attribute_bytes view.attributes
  pub no_rows : view.develop ≡ []
  pub no_runs : view.runs ≡ []
