use Rattle.std.specs.Prelude.{option_copied}
use Rattle.ae_base.specs.declared.want.Want.TheVariants as want
use Rattle.ae_outside.specs.Causes.{HasRisen}
use Rattle.ae_outside.specs.State.{reads}
use Rattle.ae_exec.specs.Endings.{IsDamagedAt}
use Rattle.ae_exec.proofs.Endings.{ends_for}
use Rattle.ae_dist.specs.Answers.{Plans, RefusesPlan}
use Rattle.ae_dist.proofs.Answering.{only_said}
use Rattle.ae_dist.proofs.Once.{planning_once}
use Rattle.ae_dist.proofs.Outcomes.{plan_refused, planned, some_plan}
use Rattle.ae_dist.proofs.planning.plan.Goals as goal

pub returns-in-Ok-clause-answer : goal.returns-in-Ok-clause-answer
returns-in-Ok-clause-answer g c =
    planned g.D.Disk.tells (reads (g.D.Disk.state c.args.disk.now)) (option_copied c.args.project) c.in-Ok.state c.args.bundle (HasRisen (g.D.Disk.faults c.args.disk.now) (g.D.Disk.faults c.open_project.new.disk)) c.plan_on-acts.result
    c.in-Ok.ensures.answer c.plan_on-acts.ensures.planned

pub returns-in-Ok-clause-only : goal.returns-in-Ok-clause-only
returns-in-Ok-clause-only g c = λ tells.
    only_said (Plans (reads (g.D.Disk.state c.args.disk.now)) (option_copied c.args.project) c.args.bundle) (RefusesPlan (reads (g.D.Disk.state c.args.disk.now)) (option_copied c.args.project)) (IsDamagedAt want.Nothing (reads (g.D.Disk.state c.args.disk.now)))
    (planning_once (reads (g.D.Disk.state c.args.disk.now)) (option_copied c.args.project) c.args.bundle) g.D.Disk.tells (HasRisen (g.D.Disk.faults c.args.disk.now) (g.D.Disk.faults c.open_project.new.disk)) tells c.plan_on-acts.result
    (returns-in-Ok-clause-answer g c)

pub returns-in-Ok-clause-planned : goal.returns-in-Ok-clause-planned
returns-in-Ok-clause-planned g c = some_plan c.in-Ok.state c.args.bundle c.plan_on-acts.result c.plan_on-acts.ensures.planned

pub returns-in-Ok-clause-formed : goal.returns-in-Ok-clause-formed
returns-in-Ok-clause-formed g c = λ fits. c.plan_on-acts.ensures.formed

pub returns-in-Err-clause-answer : goal.returns-in-Err-clause-answer
returns-in-Err-clause-answer g c =
    ends_for c.in-Err.why c.in-Err.ensures.answer (λ none. none) (λ refusal refused tells. plan_refused (reads (g.D.Disk.state c.args.disk.now)) (option_copied c.args.project) refusal (refused tells))
    (λ name damaged. damaged) (λ rose. rose) (λ none. none)

pub returns-in-Err-clause-only : goal.returns-in-Err-clause-only
returns-in-Err-clause-only g c = λ tells.
    only_said (Plans (reads (g.D.Disk.state c.args.disk.now)) (option_copied c.args.project) c.args.bundle) (RefusesPlan (reads (g.D.Disk.state c.args.disk.now)) (option_copied c.args.project)) (IsDamagedAt want.Nothing (reads (g.D.Disk.state c.args.disk.now)))
    (planning_once (reads (g.D.Disk.state c.args.disk.now)) (option_copied c.args.project) c.args.bundle) g.D.Disk.tells (HasRisen (g.D.Disk.faults c.args.disk.now) (g.D.Disk.faults c.open_project.new.disk)) tells _ (returns-in-Err-clause-answer g c)

pub returns-in-Ok-clause-opened : goal.returns-in-Ok-clause-opened
returns-in-Ok-clause-opened g c = λ tells unless. c.in-Ok.ensures.opened tells (λ none. none)
