use Rattle.std.proofs.Common.{◌<◌, sym, ◌∙◌, arith}
use Rattle.std.proofs.lemmas.Grind.{common_steps}
use Rattle.ae_base.specs.Limits.{most_role_users}
use Rattle.ae_policy.proofs.HasUser.{not_there}
use Rattle.ae_policy.proofs.roles.add_user.Goals as goal

pub insert-requires : goal.insert-requires
insert-requires c = not_there c.args.project.now.administrators c.args.user (rw (c.in-Administrator.is) at (sym c.has_role.ensures ∙ c.if-has_role.false))

pub insert-requires-in-Developer : goal.insert-requires-in-Developer
insert-requires-in-Developer c = not_there c.args.project.now.developers c.args.user (rw (c.in-Developer.is) at (sym c.has_role.ensures ∙ c.if-has_role.false))

pub insert-requires-in-Reviewer : goal.insert-requires-in-Reviewer
insert-requires-in-Reviewer c = not_there c.args.project.now.reviewers c.args.user (rw (c.in-Reviewer.is) at (sym c.has_role.ensures ∙ c.if-has_role.false))

pub insert-requires-in-Integrator : goal.insert-requires-in-Integrator
insert-requires-in-Integrator c = not_there c.args.project.now.integrators c.args.user (rw (c.in-Integrator.is) at (sym c.has_role.ensures ∙ c.if-has_role.false))

pub returns-clause-answer : goal.returns-clause-answer
returns-clause-answer c =
    let room : c.len.result < most_role_users = c.if-len-ge-MOST_ROLE_USERS.false in
    grind (arith, common_steps)
