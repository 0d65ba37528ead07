use Rattle.std.proofs.Common.{◌≡◌, ◌+◌, map, take}
use Rattle.std.specs.Prelude.{sum}
use Rattle.ae_machine.specs.Freezing.{size_of}
use Rattle.ae_machine.proofs.ending.have_room.Given as goal

abbrev pub invariant-loop-row : goal.invariant-loop-row
invariant-loop-row l = l.left + sum (map size_of (take l.row-index l.rows)) ≡ 67108864
