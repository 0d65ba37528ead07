use Rattle.std.proofs.Common.{◌≡◌, ◌++◌}
use Rattle.ae_branch.proofs.beginning.append.Given as goal

abbrev pub invariant-loop-act : goal.invariant-loop-act
invariant-loop-act l = l.acts ++ l.act-iterator.rest.items ≡ l.fn.acts ++ l.fn.more.items
