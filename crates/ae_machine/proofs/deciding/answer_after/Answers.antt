-- What the conditions without reading don't refuse is decided by the rest.
use Rattle.std.proofs.Common.{rules, ◌≡◌, sym, ap, subst, ◌∙◌, Some, None}
use Rattle.std.specs.Option.{option_copied}
use Rattle.ae_log.proofs.AppliedSteps.{if-ok}
use Rattle.ae_machine.specs.Call.{Call, first_of}
use Rattle.ae_machine.specs.Deciding.{given_to}
use Rattle.ae_machine.specs.Space.{placing}
use Rattle.ae_machine.specs.Verdict.{answer, asked_of_sight, events_of, refused_before, verdict}
use Rattle.ae_machine.specs.Versions.{ShowsVersions}
use Rattle.ae_machine.proofs.Behind.{behind-is}
use Rattle.ae_machine.proofs.deciding.answer_after.Goals as goal

pub returns-in-Some : goal.returns-in-Some
returns-in-Some c = λ bytes shown.
    let there : option_copied c.args.state ≡ Some c.in-Some.state.now = search rules in
    let seen = subst (λ (call : Call). ShowsVersions (Some call.stands) bytes call.command call.who c.args.view.now) (sym c.of.ensures) (subst (λ o. ShowsVersions o bytes c.args.command.now c.args.who.now c.args.view.now) there shown) in
    if-ok c.decide_after.result _ _ (c.decide_after.ensures bytes seen)
    (ap (λ (call : Call). answer (first_of (asked_of_sight call.command.function) (given_to placing call bytes c.args.now c.args.view.now)) (events_of (given_to placing call bytes c.args.now c.args.view.now))) c.of.ensures
    ∙ sym (ap (λ o. verdict placing o bytes c.args.command.now c.args.who.now c.args.now c.args.view.now) there
    ∙ behind-is placing c.in-Some.state.now bytes c.args.command.now c.args.who.now c.args.now c.args.view.now
    (ap (λ o. refused_before o c.args.command.now c.args.who.now) (sym there) ∙ c.requires.passed)))

pub decide_after-requires-clause-passed : goal.decide_after-requires-clause-passed
decide_after-requires-clause-passed c =
    let there : option_copied c.args.state ≡ Some c.in-Some.state.now = search rules in
    subst (λ (call : Call). refused_before (Some call.stands) call.command call.who ≡ None) (sym c.of.ensures)
    (ap (λ o. refused_before o c.args.command.now c.args.who.now) (sym there) ∙ c.requires.passed)
