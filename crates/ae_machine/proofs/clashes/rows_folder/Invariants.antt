use Rattle.std.proofs.Common.{◌≡◌, drop}
use Rattle.std.specs.Prelude.{option_copied}
use Rattle.ae_machine.specs.LeastClash.{least_from, row_folder, rows_folder}
use Rattle.ae_machine.proofs.clashes.rows_folder.Given as goal

abbrev pub invariant-loop-row : goal.invariant-loop-row
invariant-loop-row l = rows_folder l.state l.files ≡ least_from (row_folder l.state l.files) (option_copied l.least) (drop l.row-index l.row-items)
