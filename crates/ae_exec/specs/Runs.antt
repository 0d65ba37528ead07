-- A command with runs, and what it makes of the directories.
use Rattle.std.specs.Prelude.{◌≡◌, ℕ, List, Some, None}
use Rattle.ae_base.specs.Rows.{Rows}
use Rattle.ae_outside.specs.declared.dir.Dir.{Dir}
use Rattle.ae_outside.specs.Site.{SiteState}
use Rattle.ae_types.specs.Observation.{Observation}
use Rattle.ae_words.specs.declared.command.Command.{Command}
use Rattle.ae_evidence.specs.declared.directories.DirChange.{DirChange}
use Rattle.ae_evidence.specs.declared.runs.Job.{Job}
use Rattle.ae_evidence.specs.declared.runs.RunRow.{RunRow}
use Rattle.ae_evidence.specs.Directories.{dirs_after}
use Rattle.ae_machine.specs.declared.view.View.{View}
use Rattle.ae_machine.specs.Call.{Given, change_of, given_of}
use Rattle.ae_machine.specs.Directories.{dir_changes}
use Rattle.ae_machine.specs.Fits.{runs_asked, tracked_in}
use Rattle.ae_machine.specs.Freezing.{configured}
use Rattle.ae_machine.specs.Jobs.{AreJobs}
use Rattle.ae_machine.specs.Real.{command_for}
use Rattle.ae_machine.specs.Space.{placing}
use Rattle.ae_machine.specs.Versions.{ShowsVersions}
use Rattle.ae_dirs.specs.Runs.{RunsAre}

-- What the runs of a command are made of: the changes of directories before them, the files that they are to leave as they are,
-- and the jobs.
pub record AreForRuns (given : Given) (changes : List DirChange) (tracked : Rows) (jobs : List Job) : Type 0 where
  pub changes_are : changes ≡ dir_changes given
  pub tracked_are : tracked ≡ tracked_in given (change_of given.call)
  pub jobs_are : AreJobs (command_for given (change_of given.call)) (runs_asked given.call (change_of given.call)) jobs

-- that is so of a command, where its view shows versions of these bytes
abbrev pub AreForRunsOf : Observation → Command → View → (bytes : ℕ → List ℕ) (who : List ℕ) (when : ℕ) → List DirChange → Rows → List Job → Type 0
AreForRunsOf o command view bytes who when changes tracked jobs =
    ShowsVersions (Some o) bytes command who view → AreForRuns (given_of placing o bytes command who when view) changes tracked jobs

-- From the old directories these changes were made, and then these rows of runs.
pub record HaveRun (dir : Dir) (changes : List DirChange) (paths : List (List ℕ)) (jobs : List Job) (rows : List RunRow) (old new : SiteState) : Type 0 where
  pub changed : SiteState
  pub none_before : changed.runs ≡ old.runs
  pub trees : changed.trees ≡ dirs_after changes old.trees
  pub runs : RunsAre dir paths jobs rows changed new

-- with this view, some bytes of the versions that it shows, and someone who gives the command at some moment, aegis.conf gives a
-- command for each run
abbrev pub IsConfigured : Observation → Command → View → Type 0
IsConfigured o command view = (bytes : ℕ → List ℕ) × (who : List ℕ) × (when : ℕ) × ShowsVersions (Some o) bytes command who view × (configured (given_of placing o bytes command who when view) ≡ None)
