use Rattle.ae_types.specs.Users.{AllDiffer}
use Rattle.ae_types.proofs.UsersDiffer.{not_taken}
use Rattle.ae_types.proofs.user_set.UserSet.copy.Goals as goal

pub insert-requires : goal.insert-requires
insert-requires c =
    let users = c.users-user-items in
    let differ : AllDiffer users.result.now = rw users.ensures.users users.ensures.differ in
    rw (c.loop-user.invariant, c.in_ok-copy.ensures)
    (not_taken users.result.now c.loop-user.user-index c.user-item.result differ c.loop-user-test.true c.user-item.is)
