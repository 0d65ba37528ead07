use Rattle.std.proofs.Common.{◌≡◌, ◌∙◌, ap, map, Some}
use Rattle.std.specs.Option.{option_and_then}
use Rattle.ae_log.proofs.AppliedSteps.{if-ok}
use Rattle.ae_types.specs.Found.{change_at}
use Rattle.ae_types.specs.Observation.{Observation}
use Rattle.ae_types.specs.declared.project.Project.{Project}
use Rattle.ae_machine.specs.declared.verdict.Verdict.TheVariants.{Accept}
use Rattle.ae_machine.specs.Call.{Given, call_of, change_of}
use Rattle.ae_machine.specs.Commands.{config_read, config_seen}
use Rattle.ae_machine.specs.Deciding.{given_to}
use Rattle.ae_machine.specs.Runs.{delta_of_run, subject}
use Rattle.ae_machine.proofs.Behind.{given-is}
use Rattle.ae_machine.proofs.RunsMade.{seen-events}
use Rattle.ae_machine.proofs.ShownVersions.{config-shown, of-change}
use Rattle.ae_machine.proofs.jobs.accept_seen.Goals as goal

pub returns : goal.returns
returns c = λ places bytes shown.
    let call = c.args.call.now in
    let given : Given = given_to places call bytes c.args.when c.args.view.now in
    let change = c.args.change.now in
    let found : change_of given.call ≡ Some change = ap (option_and_then (change_at call.stands)) c.requires.names ∙ c.requires.named in
    let stands = c.state-state.ensures in
    if-ok c.accept_runs.result _ _ c.accept_runs.ensures
    (ap Accept (seen-events given change c.requires.runs found (config-shown given change (of-change given change c.requires.runs found shown))
    _ _ _ _ _ (ap (λ (project : Project). project.name) c.project-project.ensures.project ∙ ap (λ (o : Observation). o.project.name) stands)
    (c.delta_of_run-delta.ensures call.command call.who ∙ ap (λ o. delta_of_run (call_of o call.command call.who) change) stands)
    (c.in_ok-read.ensures.read ∙ ap (λ o. config_read (config_seen o change c.args.view.now)) stands)
    (c.in_ok-subject.ensures places bytes call.command call.who c.args.when ∙ ap (λ g. subject g change) (given-is places call _ _ bytes c.args.when c.args.view.now stands (λ i. call.command)))
    (ap (map _) c.as_slice-runs.ensures)))
