use Rattle.std.proofs.Common.{◌≡◌, ◌+◌, ◌*◌, ◌≤◌, drop}
use Rattle.ae_dist.specs.Sending.{sizes_of}
use Rattle.ae_branch.proofs.sizes.sizes_of.Given as goal

abbrev pub invariant-loop-row : goal.invariant-loop-row
invariant-loop-row l = record {
  same : l.sum + sizes_of (drop l.row-index l.rows) ≡ sizes_of l.rows;
  below : l.sum ≤ 4294967295 * l.row-index;
}
