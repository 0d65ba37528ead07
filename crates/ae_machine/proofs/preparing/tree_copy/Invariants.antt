use Rattle.std.proofs.Common.{◌≡◌, take}
use Rattle.ae_machine.proofs.preparing.tree_copy.Given as goal

abbrev pub invariant-loop-row : goal.invariant-loop-row
invariant-loop-row l = l.rows.items ≡ take l.row-index l.row-items
