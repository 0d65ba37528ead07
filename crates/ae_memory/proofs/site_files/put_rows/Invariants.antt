use Rattle.std.proofs.Common.{◌≡◌, drop}
use Rattle.ae_outside.specs.Trees.{with_rows}
use Rattle.ae_memory.specs.FileRows.{tree_of, ElsewhereSame}
use Rattle.ae_memory.proofs.site_files.put_rows.Given as goal

abbrev pub invariant-loop-row : goal.invariant-loop-row
invariant-loop-row l = record {
  here : with_rows (drop l.row-index l.rows) (tree_of l.files.items l.dir) ≡ with_rows l.rows (tree_of l.initial.files.items l.dir);
  others : ElsewhereSame l.dir (tree_of l.initial.files.items) (tree_of l.files.items);
}
