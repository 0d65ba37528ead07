use Rattle.std.proofs.Common.{◌≡◌, drop}
use Rattle.ae_types.specs.Found.{row_path}
use Rattle.ae_machine.specs.LeastClash.{row_stays}
use Rattle.ae_machine.specs.PathClash.{any_in_folder}
use Rattle.ae_machine.proofs.path_clash.any_row.Given as goal

abbrev pub invariant-loop-row : goal.invariant-loop-row
invariant-loop-row l = any_in_folder row_path (row_stays l.state l.files) l.folder l.rows ≡ any_in_folder row_path (row_stays l.state l.files) l.folder (drop l.row-index l.rows)
