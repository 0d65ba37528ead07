use Rattle.std.proofs.Common.{take}
use Rattle.std.specs.List.{AllByRecursion}
use Rattle.ae_base.specs.Names.{IsUser}
use Rattle.ae_branch.proofs.opening.note_users.Given as goal

abbrev pub invariant-loop-user : goal.invariant-loop-user
invariant-loop-user l = AllByRecursion IsUser (take l.user-index l.user-items)
