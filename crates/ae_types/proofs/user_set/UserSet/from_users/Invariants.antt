use Rattle.std.proofs.Common.{◌≡◌, ◌++◌}
use Rattle.ae_types.proofs.user_set.UserSet.from_users.Given as goal

abbrev pub invariant-loop-user : goal.invariant-loop-user
invariant-loop-user l = record {
  set : l.set ≡ l.yielded;
  all : l.yielded ++ l.user-iterator.rest.items ≡ l.fn.users;
}
