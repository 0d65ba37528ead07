-- The runs that a command is to make, as jobs: each with its command.
use Rattle.std.specs.Prelude.{◌≡◌, ℕ, List, [], ◌∷◌, Option, Some, None, Result, Ok, Err}
use Rattle.ae_base.specs.declared.refusal.Refusal.{Refusal}
use Rattle.ae_outside.specs.declared.dir.Dir.{Dir}
use Rattle.ae_outside.specs.declared.dir.Dir.TheVariants.{Base, Here}
use Rattle.ae_types.specs.declared.change.Change.{Change}
use Rattle.ae_types.specs.Runs.{Needed}
use Rattle.ae_evidence.specs.declared.runs.Job.{Job}
use Rattle.ae_machine.specs.Call.{Call, Given, change_of}
use Rattle.ae_machine.specs.Called.{files_dir}
use Rattle.ae_machine.specs.Fits.{runs_asked}
use Rattle.ae_machine.specs.Freezing.{configured}
use Rattle.ae_machine.specs.Real.{command_for}

-- the directory of the files that it reads
abbrev pub dir_of_files : Call → Option Change → Dir
dir_of_files call (Some change) = files_dir call change
dir_of_files call None = Here

-- its base directory
abbrev pub dir_of_base : Option Change → Dir
dir_of_base (Some change) = Base change.number
dir_of_base None = Here

-- the run that is asked for, with its command
pub record IsJob (command : Needed → Result (List ℕ) Refusal) (needed : Needed) (job : Job) : Type 0 where
  pub kind : job.kind ≡ needed.kind
  pub path : job.path ≡ needed.path
  pub command_is : command needed ≡ Ok job.command

abbrev pub AreJobs : (Needed → Result (List ℕ) Refusal) → List Needed → List Job → Type 0
AreJobs command [] [] = Unit {0}
AreJobs command (needed ∷ more) (job ∷ jobs) = IsJob command needed job × AreJobs command more jobs
AreJobs command _ _ = ⊥

-- the jobs are the runs that are asked for, or one of these has no command, for this reason
abbrev pub AnswersJobs : Given → Result (List Job) Refusal → Type 0
AnswersJobs given (Ok jobs) = AreJobs (command_for given (change_of given.call)) (runs_asked given.call (change_of given.call)) jobs
AnswersJobs given (Err refusal) = configured given ≡ Some refusal
