use Rattle.std.proofs.Common.{◌≡◌, sym, subst, Err, All, ℕ, List, Result}
use Rattle.std.proofs.lemmas.List.{take_all}
use Rattle.std.proofs.lemmas.List.Elements.{All-push}
use Rattle.std.specs.Prelude.{IfOk}
use Rattle.ae_base.specs.declared.refusal.Refusal.{Refusal}
use Rattle.ae_types.specs.Runs.{Needed}
use Rattle.ae_evidence.specs.declared.runs.Job.{Job}
use Rattle.ae_machine.specs.Commands.{AnswersRun, command_told}
use Rattle.ae_machine.specs.Jobs.{AreJobs, IsJob}
use Rattle.ae_conf.specs.Values.{IsCommand}
use Rattle.ae_machine.proofs.RunsMade.{jobs-more, goes-on, ends-here}
use Rattle.ae_machine.proofs.jobs.make_jobs.Goals as goal

pub loop-run-preserved : goal.loop-run-preserved
loop-run-preserved c =
    let command : Needed → Result (List ℕ) Refusal = command_told c.args.told.now.project.now c.args.told.now.change.now c.args.told.now.delta c.args.told.now.read.now in
    let job : IsJob command c.run-item.result c.in-Ok.job = subst (AnswersRun command c.run-item.result) c.in-Ok.is c.in_ok-job.ensures.job in
    let may : IsCommand c.in-Ok.job.command = subst (λ j. IfOk j (λ (made : Job). IsCommand made.command)) c.in-Ok.is c.in_ok-job.ensures.command in (
      jobs-more command c.args.runs.now c.loop-run.run-index c.run-item.result c.loop-run.jobs c.push.new.self c.in-Ok.job c.loop-run-test.true c.run-item.is c.loop-run.invariant.0 job c.in_ok-push-in-Ok.ensures.ok,
      goes-on command c.args.runs.now c.loop-run.run-index c.run-item.result c.in-Ok.job.command c.loop-run-test.true c.run-item.is (sym job.command_is) c.loop-run.invariant.1,
      subst (All (λ (made : Job). IsCommand made.command)) (sym c.in_ok-push-in-Ok.ensures.ok) (All-push (λ (made : Job). IsCommand made.command) c.loop-run.jobs c.in-Ok.job c.loop-run.invariant.2 may),
    )

pub returns-in-Err-clause-jobs : goal.returns-in-Err-clause-jobs
returns-in-Err-clause-jobs c =
    let command : Needed → Result (List ℕ) Refusal = command_told c.args.told.now.project.now c.args.told.now.change.now c.args.told.now.delta c.args.told.now.read.now in
    let none : command c.run-item.result ≡ Err c.in-Err.refusal = subst (AnswersRun command c.run-item.result) c.in-Err.is c.in_ok-job.ensures.job in
    ends-here command c.args.runs.now c.loop-run.run-index c.run-item.result c.in-Err.refusal c.loop-run-test.true c.run-item.is (sym none) c.loop-run.invariant.1

pub returns-clause-jobs : goal.returns-clause-jobs
returns-clause-jobs c =
    let command : Needed → Result (List ℕ) Refusal = command_told c.args.told.now.project.now c.args.told.now.change.now c.args.told.now.delta c.args.told.now.read.now in
    subst (λ runs. AreJobs command runs c.loop-run.jobs) (take_all c.loop-run.run-index c.args.runs.now c.loop-run-test.false) c.loop-run.invariant.0
