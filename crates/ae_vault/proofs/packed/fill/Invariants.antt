use Rattle.std.proofs.Common.{◌≤◌, ◌-◌, []}
use Rattle.ae_outside.specs.State.{reads, GoesOn}
use Rattle.ae_vault.specs.Packing.{PackBegun, IsExtended}
use Rattle.ae_vault.specs.Pieces.{pack}
use Rattle.ae_vault.proofs.packed.fill.Given as goal

abbrev pub invariant-loop-size : goal.invariant-loop-size
invariant-loop-size g l = record {
  extended : g.D.Disk.tells → IsExtended l.size (reads (g.D.Disk.state l.fn.disk) pack) (reads (g.D.Disk.state l.disk) pack);
  from : l.fn.size ≤ l.size;
  till : l.size ≤ l.to;
  change : g.D.Disk.tells → GoesOn (PackBegun [] l.fn.size) (g.D.Disk.state l.fn.disk) (g.D.Disk.state l.disk);
  faults : g.D.Disk.faults l.fn.disk ≤ g.D.Disk.faults l.disk;
}

abbrev pub decreases-loop-size : goal.decreases-loop-size
decreases-loop-size g l = l.to - l.size
