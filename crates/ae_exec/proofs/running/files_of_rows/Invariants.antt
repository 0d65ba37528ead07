use Rattle.std.proofs.Common.{◌≡◌, ◌≤◌, drop, map, take}
use Rattle.ae_base.specs.Rows.{paths_of}
use Rattle.ae_outside.specs.Image.{IsSame}
use Rattle.ae_outside.specs.State.{reads, GoesOn}
use Rattle.ae_vault.specs.Vault.{effective}
use Rattle.ae_types.specs.Trees.{tree_path}
use Rattle.ae_exec.specs.Bytes.{AreThere, rows_at}
use Rattle.ae_exec.specs.Reading.{AreKept, FirstIsLost, versions_of}
use Rattle.ae_exec.proofs.running.files_of_rows.Given as goal

abbrev pub invariant-loop-row : goal.invariant-loop-row
invariant-loop-row g l = record {
  rows : g.D.Disk.tells → l.files ≡ rows_at (effective (reads (g.D.Disk.state l.initial.disk))) (take l.row-index l.rows);
  paths : paths_of l.files ≡ map tree_path (take l.row-index l.rows);
  there : AreThere l.files;
  kept : g.D.Disk.tells → AreKept (effective (reads (g.D.Disk.state l.initial.disk))) (versions_of (drop l.row-index l.rows)) → AreKept (effective (reads (g.D.Disk.state l.initial.disk))) (versions_of l.rows);
  lost : g.D.Disk.tells → FirstIsLost (effective (reads (g.D.Disk.state l.initial.disk))) (versions_of (drop l.row-index l.rows)) → FirstIsLost (effective (reads (g.D.Disk.state l.initial.disk))) (versions_of l.rows);
  same : g.D.Disk.tells → GoesOn IsSame (g.D.Disk.state l.initial.disk) (g.D.Disk.state l.disk);
  later : g.D.Disk.faults l.initial.disk ≤ g.D.Disk.faults l.disk;
}
