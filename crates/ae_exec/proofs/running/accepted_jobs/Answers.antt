use Rattle.std.proofs.Common.{subst}
use Rattle.std.proofs.lemmas.Result.{IfOk-at_ok}
use Rattle.ae_machine.specs.Call.{Given, given_of}
use Rattle.ae_machine.specs.Jobs.{AnswersJobs}
use Rattle.ae_machine.specs.Space.{placing}
use Rattle.ae_exec.proofs.RunReady.{no-refusal}
use Rattle.ae_exec.proofs.running.accepted_jobs.Goals as goal

pub unreachable-requires : goal.unreachable-requires
unreachable-requires c =
    let given : Given = given_of placing c.args.state.now c.requires.accepted.0 c.args.command.now c.requires.accepted.1 c.requires.accepted.2 c.args.view.now in
    no-refusal given c.in_ok-jobs.field-0 c.in-Err.field-0 c.in-Err.is
    (IfOk-at_ok (AnswersJobs given) c.in_ok-jobs.was (c.jobs_asked.ensures.jobs placing c.requires.accepted.0 c.requires.accepted.1 c.requires.accepted.2 c.requires.accepted.3))
    c.requires.accepted.4

pub returns-clause-jobs : goal.returns-clause-jobs
returns-clause-jobs c = λ bytes who when shows.
    let given : Given = given_of placing c.args.state.now bytes c.args.command.now who when c.args.view.now in
    subst (AnswersJobs given) c.in-Ok.is
    (IfOk-at_ok (AnswersJobs given) c.in_ok-jobs.was (c.jobs_asked.ensures.jobs placing bytes who when shows))
