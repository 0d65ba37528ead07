use Rattle.std.proofs.Common.{◌≡◌, ◌∙◌, ap, Some}
use Rattle.std.specs.Option.{option_and_then}
use Rattle.ae_types.specs.Found.{change_at}
use Rattle.ae_types.specs.declared.project.Project.{Project}
use Rattle.ae_machine.specs.Call.{Given, change_of, given_of}
use Rattle.ae_machine.proofs.RunsMade.{jobs-answered}
use Rattle.ae_machine.proofs.ShownVersions.{config-shown, of-change}
use Rattle.ae_machine.proofs.jobs.jobs_of.Goals as goal

pub group-requires : goal.group-requires
group-requires c = (c.project-project.ensures.sound.changes.good c.args.number c.args.change.now c.requires.named).files.ascend

pub returns-clause-jobs : goal.returns-clause-jobs
returns-clause-jobs c = λ places bytes who when shown.
    let given : Given = given_of places c.args.state.now bytes c.args.command.now who when c.args.view.now in
    let found : change_of given.call ≡ Some c.args.change.now = ap (option_and_then (change_at c.args.state.now)) c.requires.names ∙ c.requires.named in
    jobs-answered given c.args.change.now found (config-shown given c.args.change.now (of-change given c.args.change.now c.requires.runs found shown))
    _ _ _ _ (ap (λ (project : Project). project.name) c.project-project.ensures.project) (c.delta_of_run-delta.ensures c.args.command.now who)
    c.in_ok-read.ensures.read (c.as_slice.ensures ∙ c.in_ok-runs.ensures who) c.make_jobs.result c.make_jobs.ensures.jobs
