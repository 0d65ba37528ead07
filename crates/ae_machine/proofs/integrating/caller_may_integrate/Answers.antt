use Rattle.std.proofs.Common.{rules, ◌≡◌, ◌∙◌, ap, subst, Some}
use Rattle.ae_policy.specs.Making.{IsPermission}
use Rattle.ae_policy.specs.Reviewing.{refuses_integrating}
use Rattle.ae_types.specs.Observation.{Observation}
use Rattle.ae_machine.specs.Call.{change_of}
use Rattle.ae_machine.specs.Permission.{caller_is_integrator, developer_integrates_if_allowed, reviewer_integrates_if_allowed}
use Rattle.ae_machine.proofs.Conditions.{caller-asked}
use Rattle.ae_machine.proofs.integrating.caller_may_integrate.Goals as goal

pub returns-in-Some : goal.returns-in-Some
returns-in-Some c =
    let call = c.args.call.now in
    let change = c.in-Some.change.now in
    let found : change_of call ≡ Some change = search rules in
    let project : c.project.result.now ≡ call.stands.project = c.project.ensures.project ∙ ap (λ (o : Observation). o.project) c.state.ensures in
    subst (λ reason. IsPermission reason c.may_integrate.result)
    ((λ i. refuses_integrating (project i) change (c.who.ensures i)) ∙ caller-asked caller_is_integrator developer_integrates_if_allowed reviewer_integrates_if_allowed call change found)
    c.may_integrate.ensures
