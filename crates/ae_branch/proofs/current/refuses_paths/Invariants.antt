use Rattle.std.proofs.Common.{◌≡◌, drop, map}
use Rattle.ae_dist.specs.Sending.{path_of_row}
use Rattle.ae_branch.specs.Finish.{refuses_paths}
use Rattle.ae_branch.proofs.current.refuses_paths.Given as goal

abbrev pub invariant-loop-row : goal.invariant-loop-row
invariant-loop-row l = refuses_paths l.state l.delta (map path_of_row (drop l.row-index l.rows)) ≡ refuses_paths l.state l.delta (map path_of_row l.rows)
