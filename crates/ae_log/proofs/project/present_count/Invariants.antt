use Rattle.std.proofs.Common.{◌≡◌, take, length}
use Rattle.ae_types.specs.Frozen.{present}
use Rattle.ae_log.proofs.project.present_count.Given as goal

abbrev pub invariant-loop-row : goal.invariant-loop-row
invariant-loop-row l = l.count ≡ length (present (take l.row-index l.tree))
