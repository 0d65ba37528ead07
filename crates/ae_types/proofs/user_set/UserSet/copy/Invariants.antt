use Rattle.std.proofs.Common.{◌≡◌, take}
use Rattle.ae_types.proofs.user_set.UserSet.copy.Given as goal

abbrev pub invariant-loop-user : goal.invariant-loop-user
invariant-loop-user l = l.set ≡ take l.user-index l.user-items
