use Rattle.std.proofs.Common.{rules, ◌≡◌, ◌∙◌, ap, Some}
use Rattle.std.proofs.lemmas.Result.{err_from_is_err_and}
use Rattle.ae_policy.specs.Reviewing.{refuses_reviewing}
use Rattle.ae_types.specs.Observation.{Observation}
use Rattle.ae_machine.specs.Call.{change_of}
use Rattle.ae_machine.specs.Permission.{caller_is_reviewer, developer_reviews_if_allowed, reviewer_is_caller_or_nobody}
use Rattle.ae_machine.proofs.Conditions.{caller-asked, policy-so}
use Rattle.ae_machine.proofs.reviewing.caller_may_review.Goals as goal

pub returns-in_err-may_review-in-Some : goal.returns-in_err-may_review-in-Some
returns-in_err-may_review-in-Some c =
    let call = c.args.call.now in
    let change = c.in-Some.change.now in
    let found : change_of call ≡ Some change = search rules in
    let project : c.project.result.now ≡ call.stands.project = c.project.ensures.project ∙ ap (λ (o : Observation). o.project) c.state.ensures in
    let p = err_from_is_err_and c.from_residual.result c.from_residual.ensures.1 in
    rw (p.1, p.2) (policy-so _ _ c.in_err-may_review-in-Some.field-0.0
    ((λ i. refuses_reviewing (project i) change (c.who.ensures i)) ∙ caller-asked caller_is_reviewer reviewer_is_caller_or_nobody developer_reviews_if_allowed call change found)
    c.in_err-may_review-in-Some.ensures)
