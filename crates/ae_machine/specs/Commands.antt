-- The command of each run, from what was read of aegis.conf.
use Rattle.std.specs.Prelude.{◌≡◌, ◌≤◌, ℕ, List, [], ◌∷◌, Option, Some, None, if◌then◌else◌, is_some, IfSome, Result, Ok, Err}
use Rattle.std.specs.Option.{option_map, option_or}
use Rattle.ae_base.specs.Limits.{most_deltas}
use Rattle.ae_base.specs.Names.{IsPath, IsProjectName}
use Rattle.ae_base.specs.declared.words.Kind.{Kind}
use Rattle.ae_base.specs.declared.words.Kind.TheVariants as kind
use Rattle.ae_base.specs.declared.refusal.Refusal.{Refusal}
use Rattle.ae_base.specs.declared.refusal.Refusal.TheVariants.{NoCommand, BadConfig}
use Rattle.ae_conf.specs.Config.{Template, Config, config, as_read, template_of}
use Rattle.ae_conf.specs.declared.config.Config.{Config as Read}
use Rattle.ae_conf.specs.declared.expansion.Values.{Values}
use Rattle.ae_conf.specs.Values.{IsCommand}
use Rattle.ae_log.specs.declared.event.RunEvent.{RunEvent}
use Rattle.ae_types.specs.declared.change.Change.{Change}
use Rattle.ae_types.specs.Observation.{Observation}
use Rattle.ae_types.specs.Phases.{is_integrating}
use Rattle.ae_types.specs.Runs.{Needed}
use Rattle.ae_types.specs.Trees.{candidate_of}
use Rattle.ae_machine.specs.declared.commands.ConfigRead.{ConfigRead}
use Rattle.ae_machine.specs.declared.commands.ConfigRead.TheVariants.{Absent, Bad, Good}
use Rattle.ae_evidence.specs.declared.runs.Job.{Job}
use Rattle.ae_evidence.specs.declared.runs.RunRow.{RunRow}
use Rattle.ae_evidence.specs.Directories.{bytes_of}
use Rattle.ae_machine.specs.declared.view.View.{View}
use Rattle.ae_machine.specs.Call.{given_in, refusal_in}
use Rattle.ae_machine.specs.Jobs.{AreJobs, IsJob}
use Rattle.ae_machine.specs.Runs.{command_by_template, needed_of, part_of}
use Rattle.ae_files.specs.InTree.{row_at}
use Rattle.ae_machine.specs.Sight.{config_path, read_at}

-- ---- what was read

abbrev pub read_or_bad : Result Config ℕ → ConfigRead
read_or_bad (Ok config) = Good (as_read config)
read_or_bad (Err line) = Bad line

-- of these bytes, or of no file
abbrev pub config_read : Option (List ℕ) → ConfigRead
config_read (Some bytes) = read_or_bad (config bytes)
config_read None = Absent

-- the bytes of aegis.conf that are seen: in integration only where the candidate has that file
abbrev pub config_seen : Observation → Change → View → Option (List ℕ)
config_seen o change view =
    if is_integrating change.phase then (if is_some (row_at (candidate_of o change) config_path) then bytes_of (read_at view config_path) else None)
    else bytes_of (read_at view config_path)

-- ---- the commands

abbrev pub template_read : Kind → Read → Option Template
template_read kind.Build read = option_map (λ text. template_of text read.build_line) read.build
template_read _ read = option_map (λ text. template_of text read.test_line) read.test

-- the command of a kind of runs with these values, or why there is none
abbrev pub command_from : Values → Kind → ConfigRead → Result (List ℕ) Refusal
command_from values kind (Good read) = command_by_template values (template_read kind read)
command_from values kind (Bad line) = Err (BadConfig line)
command_from values kind Absent = Err NoCommand

-- the values of a run
abbrev pub values_of : List ℕ → Change → ℕ → Needed → Values
values_of project change delta run = record { file_name = run.path; change = change.number; project = project; delta = delta }

-- the command of a run of this project's change, or why there is none
abbrev pub command_told : List ℕ → Change → ℕ → ConfigRead → Needed → Result (List ℕ) Refusal
command_told project change delta read run = command_from (values_of project change delta run) run.kind read

-- the first of the runs that has no command refuses
abbrev pub first_refusal : (Needed → Result (List ℕ) Refusal) → List Needed → Option Refusal
first_refusal command [] = None
first_refusal command (run ∷ runs) = option_or (refusal_in (command run)) (first_refusal command runs)

-- ---- commands that may be run

-- the names that stand in a command are those of a path and of a project, and its numbers those of a change and a delta
pub record AreValues (values : Values) : Type 0 where
  pub file_name : IfSome values.file_name IsPath
  pub project : IsProjectName values.project
  pub change : values.change ≤ 1999
  pub delta : values.delta ≤ most_deltas

-- the commands of builds and tests, where they are given, are of bytes that may stand in one
abbrev pub GivesCommands : ConfigRead → Type 0
GivesCommands (Good read) = IfSome read.build IsCommand × IfSome read.test IsCommand
GivesCommands _ = Unit {0}

-- the job is the run with its command, or it has none, for this reason
abbrev pub AnswersRun : (Needed → Result (List ℕ) Refusal) → Needed → Result Job Refusal → Type 0
AnswersRun command run (Ok job) = IsJob command run job
AnswersRun command run (Err refusal) = command run ≡ Err refusal

-- the jobs are the runs with their commands, or one of these has none, for this reason
abbrev pub AnswersRuns : (Needed → Result (List ℕ) Refusal) → List Needed → Result (List Job) Refusal → Type 0
AnswersRuns command runs (Ok jobs) = AreJobs command runs jobs
AnswersRuns command runs (Err refusal) = first_refusal command runs ≡ Some refusal

-- ---- the events

-- the run as it is recorded
abbrev pub run_told : List ℕ → Change → ℕ → ConfigRead → List ℕ → RunRow → RunEvent
run_told project change delta read subject run = record {
  during = part_of change.phase;
  kind = run.kind;
  path = run.path;
  command = given_in (command_told project change delta read (needed_of run)) [];
  exit = run.exit;
  before = run.before;
  after = run.after;
  subject = subject;
}
