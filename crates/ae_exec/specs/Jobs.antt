-- The runs of a build or a test, as they are made.
use Rattle.std.specs.Prelude.{◌≡◌, ◌≢◌, ℕ, List, [], Some, All}
use Rattle.ae_base.specs.Limits.{most_file_bytes}
use Rattle.ae_base.specs.Rows.{paths_of}
use Rattle.ae_outside.specs.declared.dir.Content.{Content}
use Rattle.ae_outside.specs.Site.{SiteState, IsAtMost}
use Rattle.ae_types.specs.Observation.{Observation}
use Rattle.ae_machine.specs.Call.{Given, call_of, change_of}
use Rattle.ae_machine.specs.Called.{Called, given_at, occasion, view}
use Rattle.ae_machine.specs.Directories.{dirs}
use Rattle.ae_machine.specs.Jobs.{AreJobs}
use Rattle.ae_machine.specs.Fits.{config_asked, runs_asked, tracked_in}
use Rattle.ae_machine.specs.Legal.{ViewFits}
use Rattle.ae_machine.specs.Real.{IsReal, command_for, dir_of_runs}
use Rattle.ae_evidence.specs.declared.runs.Job.{Job}
use Rattle.ae_evidence.specs.declared.runs.RunRow.{RunRow}
use Rattle.ae_dirs.specs.Runs.{IsGroup, RunsAre}

-- From the directories as a command found them it changed them as it asks, and then made these runs of those that it asks for.
pub record HasRun (given : Given) (called : Called) (changed : SiteState) (jobs : List Job) (rows : List RunRow) : Type 0 where
  pub none_before : changed.runs ≡ called.before.runs
  pub trees : changed.trees ≡ dirs given called.before.trees
  pub jobs_are : AreJobs (command_for given (change_of given.call)) (runs_asked given.call (change_of given.call)) jobs
  pub runs : RunsAre (dir_of_runs given.call (change_of given.call)) (paths_of (tracked_in given (change_of given.call))) jobs rows changed called.after
  pub some : rows ≢ []

-- then the runs are real, and what it sees in all is what it saw before them with their rows
abbrev pub RunsAreReal : Type 0
RunsAreReal = (o : Observation) (bytes : ℕ → List ℕ) (called : Called) (changed : SiteState) (jobs : List Job) (rows : List RunRow) → HasRun (given_at o bytes called) called changed jobs rows
    → IsReal (given_at o bytes called) called × (view (Some o) bytes called ≡ record (given_at o bytes called).view { runs = rows })

-- ---- what such a command sees fits

-- the baseline's aegis.conf isn't too long, where the command is taken from it
abbrev pub IsShortConfig : Given → Type 0
IsShortConfig given = All (λ (row : List ℕ × Content). IsAtMost most_file_bytes row.1) (config_asked given (change_of given.call))

-- so the view fits what stands, and has all of its runs
abbrev pub RunsFit : Type 0
RunsFit = (o : Observation) (bytes : ℕ → List ℕ) (called : Called) (changed : SiteState) (jobs : List Job) (rows : List RunRow) → HasRun (given_at o bytes called) called changed jobs rows
    → IsGroup (tracked_in (given_at o bytes called) (change_of (call_of o called.command called.who))) jobs rows → IsShortConfig (given_at o bytes called) → ViewFits (Some o) bytes (occasion (Some o) bytes called)
