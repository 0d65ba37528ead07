use Rattle.std.proofs.Common.{◌≡◌, take, true}
use Rattle.std.specs.List.{list_all}
use Rattle.std.specs.Option.{option_copied}
use Rattle.ae_rules.specs.Overlay.{row_is_clear}
use Rattle.ae_rules.proofs.clashes.rows_are_clear.Given as goal

abbrev pub invariant-loop-row : goal.invariant-loop-row
invariant-loop-row l = list_all (row_is_clear l.deltas l.rows (option_copied l.change)) (take l.row-index l.rows) ≡ true
