use Rattle.std.proofs.Common.{◌∙◌, sym, subst, Some}
use Rattle.std.proofs.lemmas.Result.{IfOk-at_ok, IfOk-weaker}
use Rattle.ae_machine.specs.declared.verdict.Verdict.{Verdict}
use Rattle.ae_exec.specs.Next.{IfAccepted, MayFollow}
use Rattle.ae_exec.specs.Writing.{MayBePut}
use Rattle.ae_exec.proofs.runs_plan.plan_accepted.Goals as goal

pub prepare-requires-clause-follow : goal.prepare-requires-clause-follow
prepare-requires-clause-follow c =
    let accepted = c.requires.accepted in
    subst (λ (v : Verdict). IfAccepted v (MayFollow (Some c.args.state.now))) c.in-Accept.is
    (IfOk-at_ok (λ (v : Verdict). IfAccepted v (MayFollow (Some c.args.state.now))) c.in_ok-events.was (c.answer_on.ensures.follow accepted.0 accepted.1))

pub prepare-requires-clause-put : goal.prepare-requires-clause-put
prepare-requires-clause-put c =
    let accepted = c.requires.accepted in
    subst (λ (v : Verdict). IfAccepted v MayBePut) c.in-Accept.is
    (IfOk-at_ok (λ (v : Verdict). IfAccepted v MayBePut) c.in_ok-events.was (c.answer_on.ensures.put accepted.0 accepted.1))

pub unreachable-requires : goal.unreachable-requires
unreachable-requires c =
    let accepted = c.requires.accepted in
    let both = sym accepted.3 ∙ c.in_ok-events.ensures.is accepted.0 accepted.1 ∙ c.in-Refuse.is in
    cc

pub returns : goal.returns
returns c = IfOk-weaker c.prepare.result _ _ (λ plan made. (c.in-Accept.events, (λ bytes shows. c.in_ok-events.ensures.is bytes shows ∙ c.in-Accept.is), made)) c.prepare.ensures
