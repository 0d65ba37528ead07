use Rattle.std.proofs.Common.{◌≡◌, ◌∙◌, ap, List, [], map}
use Rattle.std.proofs.lemmas.Result.{IfOk-at_ok}
use Rattle.ae_base.specs.Rows.{Rows}
use Rattle.ae_machine.specs.Call.{Given, change_named, change_of, given_of}
use Rattle.ae_machine.specs.Directories.{dir_changes}
use Rattle.ae_evidence.specs.Directories.{dir_of}
use Rattle.ae_evidence.specs.declared.directories.DirChange.{DirChange}
use Rattle.ae_machine.specs.Fits.{tracked_in}
use Rattle.ae_machine.specs.Sight.{with_bytes}
use Rattle.ae_machine.specs.Space.{placing}
use Rattle.ae_exec.proofs.OwnDirs.{runs-own}
use Rattle.ae_exec.proofs.RunReady.{based-by, refreshed-by}
use Rattle.ae_exec.proofs.running.run_plan.Goals as goal

pub accepted_jobs-requires-clause-accepted : goal.accepted_jobs-requires-clause-accepted
accepted_jobs-requires-clause-accepted c = c.requires.accepted

pub returns-clause-are : goal.returns-clause-are
returns-clause-are c = λ bytes who when refreshed based shows.
    let given : Given = given_of placing c.args.state.now bytes c.args.command.now who when c.args.view.now in
    let tracked : c.in_ok-tracked.tracked ≡ tracked_in given (change_of given.call) =
    IfOk-at_ok (λ (tree : Rows). tree ≡ tracked_in given (change_of given.call)) c.in_ok-tracked.was (c.tracked.ensures placing bytes who when (based
    ∙ ap (with_bytes bytes) (based-by c.args.state.now c.args.command.now who (change_named c.args.state.now c.args.command.now.change)))) in
    record {
      changes_are = IfOk-at_ok (λ (changes : List DirChange). changes ≡ dir_changes given) c.in_ok-changes.was (c.run_changes.ensures.changes placing bytes who when c.args.view.now
          (refreshed
          ∙ ap (with_bytes bytes) (refreshed-by c.args.state.now c.args.command.now who (change_named c.args.state.now c.args.command.now.change)))
          tracked);
      tracked_are = tracked;
      jobs_are = c.in_ok-jobs.ensures.jobs bytes who when shows;
    }

pub returns-clause-own : goal.returns-clause-own
returns-clause-own c = runs-own c.args.state.now (λ number. []) c.args.command.now [] 0 c.args.view.now c.in_ok-changes.changes c.requires.runs
    (IfOk-at_ok (λ (changes : List DirChange). map dir_of changes ≡ map dir_of (dir_changes (given_of placing c.args.state.now (λ number. []) c.args.command.now [] 0 c.args.view.now))) c.in_ok-changes.was
    (c.run_changes.ensures.dirs placing (λ number. []) [] 0 c.args.view.now))
