use Rattle.std.proofs.Common.{◌≡◌, List, All, map, take}
use Rattle.ae_text.specs.View.{node}
use Rattle.ae_types.specs.declared.change.HistoryRow.{HistoryRow}
use Rattle.ae_schema.specs.Fits.{FitsHistory}
use Rattle.ae_schema.specs.Spelled.{history_row}
use Rattle.ae_schema.proofs.history.rows_in.Given as goal

abbrev pub invariant-loop-tree : goal.invariant-loop-tree
invariant-loop-tree l = record {
  fits : All (FitsHistory l.format) l.rows.items;
  trees : map (history_row l.format) l.rows.items ≡ map node (take l.tree-index l.trees);
  only : (xs : List HistoryRow) → All (FitsHistory l.format) xs → map (history_row l.format) xs ≡ map node l.trees → l.rows.items ≡ take l.tree-index xs;
}
