use Rattle.std.proofs.Common.{◌≡◌, ◌≤◌, take, length}
use Rattle.ae_outside.specs.State.{reads, GoesOn}
use Rattle.ae_vault.specs.Packing.{PackBegun}
use Rattle.ae_vault.specs.Pieces.{pack, HasPieces}
use Rattle.ae_vault.proofs.packed.put_pieces.Given as goal

abbrev pub invariant-loop-piece : goal.invariant-loop-piece
invariant-loop-piece g l = record {
  size : g.D.Disk.tells → l.size ≡ length (reads (g.D.Disk.state l.disk) pack);
  no_shorter : l.fn.size ≤ l.size;
  has : g.D.Disk.tells → HasPieces (take l.piece-index l.pieces) (reads (g.D.Disk.state l.disk) pack);
  change : g.D.Disk.tells → GoesOn (PackBegun l.pieces l.fn.size) (g.D.Disk.state l.fn.disk) (g.D.Disk.state l.disk);
  faults : g.D.Disk.faults l.fn.disk ≤ g.D.Disk.faults l.disk;
}
