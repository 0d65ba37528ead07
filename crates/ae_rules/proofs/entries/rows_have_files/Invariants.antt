use Rattle.std.proofs.Common.{◌≡◌, take, true}
use Rattle.std.specs.List.{list_all}
use Rattle.ae_rules.specs.Beside.{row_has_files}
use Rattle.ae_rules.proofs.entries.rows_have_files.Given as goal

abbrev pub invariant-loop-row : goal.invariant-loop-row
invariant-loop-row l = list_all (row_has_files l.deltas l.changes) (take l.row-index l.rows) ≡ true
