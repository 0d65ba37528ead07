use Rattle.std.proofs.Common.{◌≡◌, ◌∙◌, sym, ap, subst, Some}
use Rattle.std.specs.Option.{option_and_then}
use Rattle.ae_log.proofs.AppliedSteps.{if-ok}
use Rattle.ae_types.specs.Found.{change_at}
use Rattle.ae_machine.specs.Call.{Given, change_of}
use Rattle.ae_machine.specs.Deciding.{given_to}
use Rattle.ae_machine.specs.Freezing.{configured, right_files}
use Rattle.ae_machine.specs.Jobs.{AnswersJobs}
use Rattle.ae_machine.specs.Verdict.{events_of}
use Rattle.ae_machine.specs.Versions.{files_refused}
use Rattle.ae_machine.proofs.Behind.{given-is, shown-back}
use Rattle.ae_machine.proofs.RunsMade.{all-configured, not-refused, refused-first, refused-last}
use Rattle.ae_machine.proofs.ShownVersions.{of-change, right-shown}
use Rattle.ae_machine.proofs.running.answer_runs.Goals as goal

pub returns-in-Some : goal.returns-in-Some
returns-in-Some c = λ places bytes shown.
    let call = c.args.call.now in
    let given : Given = given_to places call bytes c.args.now c.args.view.now in
    let found : change_of given.call ≡ Some c.args.change.now = ap (option_and_then (change_at call.stands)) c.requires.names ∙ c.requires.named in
    let files : files_refused given ≡ c.in_ok-refusal.field-0 = ap files_refused (sym (given-is places call _ _ bytes c.args.now c.args.view.now c.state-state.ensures c.command-command.ensures)) ∙ sym (c.in_ok-refusal.ensures places bytes call.who c.args.now) in
    refused-first (right_files given) (configured given) c.in-Some.refusal (events_of given)
    (sym (right-shown given c.args.change.now found (of-change given c.args.change.now c.requires.runs found shown)) ∙ files ∙ c.in-Some.is)

pub returns-in-Ok : goal.returns-in-Ok
returns-in-Ok c = λ places bytes shown.
    let call = c.args.call.now in
    let given : Given = given_to places call bytes c.args.now c.args.view.now in
    let found : change_of given.call ≡ Some c.args.change.now = ap (option_and_then (change_at call.stands)) c.requires.names ∙ c.requires.named in
    let files : files_refused given ≡ c.in_ok-refusal.field-0 = ap files_refused (sym (given-is places call _ _ bytes c.args.now c.args.view.now c.state-state.ensures c.command-command.ensures)) ∙ sym (c.in_ok-refusal.ensures places bytes call.who c.args.now) in
    let jobs = subst (λ g. AnswersJobs g c.in_ok-jobs_of.field-0) (given-is places call _ _ bytes c.args.now c.args.view.now c.state-state.ensures c.command-command.ensures)
    (c.in_ok-jobs_of.ensures.jobs places bytes call.who c.args.now (shown-back call _ _ bytes c.args.view.now c.state-state.ensures c.command-command.ensures shown)) in
    if-ok c.accept_seen.result _ _ (c.accept_seen.ensures places bytes shown)
    (not-refused (right_files given) (configured given) (events_of given)
    (sym (right-shown given c.args.change.now found (of-change given c.args.change.now c.requires.runs found shown)) ∙ files ∙ c.in_default.is)
    (all-configured given c.args.change.now c.in-Ok.field-0 found (subst (AnswersJobs given) c.in-Ok.is jobs)))

pub returns : goal.returns
returns c = λ places bytes shown.
    let call = c.args.call.now in
    let given : Given = given_to places call bytes c.args.now c.args.view.now in
    let found : change_of given.call ≡ Some c.args.change.now = ap (option_and_then (change_at call.stands)) c.requires.names ∙ c.requires.named in
    let files : files_refused given ≡ c.in_ok-refusal.field-0 = ap files_refused (sym (given-is places call _ _ bytes c.args.now c.args.view.now c.state-state.ensures c.command-command.ensures)) ∙ sym (c.in_ok-refusal.ensures places bytes call.who c.args.now) in
    let jobs = subst (λ g. AnswersJobs g c.in_ok-jobs_of.field-0) (given-is places call _ _ bytes c.args.now c.args.view.now c.state-state.ensures c.command-command.ensures)
    (c.in_ok-jobs_of.ensures.jobs places bytes call.who c.args.now (shown-back call _ _ bytes c.args.view.now c.state-state.ensures c.command-command.ensures shown)) in
    refused-last (right_files given) (configured given) c.in-Err.refusal (events_of given)
    (sym (right-shown given c.args.change.now found (of-change given c.args.change.now c.requires.runs found shown)) ∙ files ∙ c.in_default.is)
    (subst (AnswersJobs given) c.in-Err.is jobs)
