use Rattle.ae_types.proofs.UsersDiffer.{not_before}
use Rattle.ae_types.proofs.user_set.UserSet.from_users.Goals as goal

pub returns-then-contains-clause-only : goal.returns-then-contains-clause-only
returns-then-contains-clause-only c differ =
    let apart = rw (← c.loop-user.invariant.all, c.in-Some.ensures.steps.0) at differ in
    let has = c.contains.ensures.0 c.if-contains.true in
    absurd (not_before c.loop-user.yielded _ c.in-Some.user apart (rw c.loop-user.invariant.set at has))
