use Rattle.std.proofs.Common.{◌≡◌, take, drop}
use Rattle.std.specs.List.{find}
use Rattle.ae_types.specs.Clashes.{has_path}
use Rattle.ae_machine.specs.LeastClash.{folder_in}
use Rattle.ae_machine.specs.Paths.{paths_with}
use Rattle.ae_machine.proofs.ClashingPaths.{folders_from}
use Rattle.ae_machine.proofs.clashes.folder_there.Given as goal

abbrev pub invariant-loop-at : goal.invariant-loop-at
invariant-loop-at l = folder_in (paths_with l.state l.files) l.path ≡ find (has_path (paths_with l.state l.files)) (folders_from (take l.at l.path) (drop l.at l.path))
