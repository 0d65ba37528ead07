use Rattle.std.proofs.Common.{◌≡◌, drop}
use Rattle.ae_memory.specs.FileRows.{tree_of, ElsewhereSame}
use Rattle.ae_memory.specs.Scripts.{with_snapshots}
use Rattle.ae_memory.proofs.site_files.run_over_files.Given as goal

abbrev pub invariant-loop-snapshot : goal.invariant-loop-snapshot
invariant-loop-snapshot l = record {
  here : with_snapshots (drop l.snapshot-index l.snapshot-items) (tree_of l.files.items l.dir) ≡ with_snapshots l.snapshot-items (tree_of l.initial.files.items l.dir);
  others : ElsewhereSame l.dir (tree_of l.initial.files.items) (tree_of l.files.items);
}
