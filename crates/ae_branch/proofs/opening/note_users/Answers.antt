use Rattle.std.proofs.Common.{◌≡◌, arith, subst, take}
use Rattle.std.specs.List.{AllByRecursion}
use Rattle.std.proofs.lemmas.List.{take_all}
use Rattle.ae_base.specs.Names.{IsUser}
use Rattle.ae_dist.proofs.VersionsRead.{each_more}
use Rattle.ae_branch.proofs.opening.note_users.Goals as goal

pub loop-user-init : goal.loop-user-init
loop-user-init c = tt

pub loop-user-preserved : goal.loop-user-preserved
loop-user-preserved c = each_more IsUser c.users-user-items.result.now c.loop-user.user-index c.user-item.result c.loop-user-test.true c.user-item.is c.loop-user.invariant c.bytes-user.ensures.user

pub returns : goal.returns
returns c =
    let all : take c.loop-user.user-index c.users-user-items.result.now ≡ c.users-user-items.result.now = take_all c.loop-user.user-index c.users-user-items.result.now (omega arith) in
    subst (AllByRecursion IsUser) c.users-user-items.ensures.users (subst (AllByRecursion IsUser) all c.loop-user.invariant)
