use Rattle.std.proofs.Common.{◌≡◌, ◌∙◌, ◌++◌, ap, Bool, List}
use Rattle.std.specs.Prelude.{option_copied}
use Rattle.std.specs.List.{concat}
use Rattle.ae_log.specs.declared.event.Event.{Event}
use Rattle.ae_machine.specs.declared.verdict.Verdict.TheVariants.{Accept}
use Rattle.ae_exec.specs.Said.{a_run_failed, answer_lines, status_text}
use Rattle.ae_exec.proofs.reply.finish.Goals as goal

pub returns-clause-failed : goal.returns-clause-failed
returns-clause-failed c = c.a_run_failed-run_failed.ensures ∙ ap a_run_failed c.as_slice.ensures

pub returns-clause-reply : goal.returns-clause-reply
returns-clause-reply c =
    let lines : c.in_ok-text.text.items ≡ concat (answer_lines (option_copied c.args.old) c.args.command.now (Accept c.args.events.now)) =
    c.in_ok-text.ensures ∙ ap (λ (events : List Event). concat (answer_lines (option_copied c.args.old) c.args.command.now (Accept events))) c.as_slice-2.ensures in
    let status : c.status_text.result.now ≡ status_text c.args.status_line (a_run_failed c.args.events.now) =
    c.status_text.ensures ∙ ap (λ (failed : Bool). status_text c.args.status_line failed) (c.a_run_failed-run_failed.ensures ∙ ap a_run_failed c.as_slice.ensures) in
    c.of-reply.ensures ∙ c.in_ok-extend_from_slice.ensures.items ∙ (λ i. lines i ++ status i)
