use Rattle.std.proofs.Common.{◌≡◌, filter, map, take}
use Rattle.ae_branch.specs.Carried.{carried_row, is_changed}
use Rattle.ae_branch.proofs.carrying.carried_rows.Given as goal

abbrev pub invariant-loop-row : goal.invariant-loop-row
invariant-loop-row l = l.rows ≡ map (carried_row l.state) (filter is_changed (take l.row-index l.row-items))
