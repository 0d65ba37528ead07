use Rattle.std.proofs.Common.{◌≡◌, take}
use Rattle.std.specs.List.{filter}
use Rattle.ae_branch.specs.Opening.{is_given}
use Rattle.ae_branch.proofs.opening.users_given.Given as goal

abbrev pub invariant-loop-user : goal.invariant-loop-user
invariant-loop-user l = l.given ≡ filter (is_given l.who l.role) (take l.user-index l.users)
