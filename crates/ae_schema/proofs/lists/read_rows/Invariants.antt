use Rattle.std.proofs.Common.{◌≡◌, List, All, map, take}
use Rattle.ae_text.specs.View.{node}
use Rattle.ae_schema.proofs.lists.read_rows.Given as goal

abbrev pub invariant-loop-tree : goal.invariant-loop-tree
invariant-loop-tree g l = record {
  fits : All g.T.Decode.Fits l.rows.items;
  trees : map g.T.Decode.spelled l.rows.items ≡ map node (take l.tree-index l.trees);
  only : (xs : List g.row.T.Denot) → All g.T.Decode.Fits xs → map g.T.Decode.spelled xs ≡ map node l.trees → l.rows.items ≡ take l.tree-index xs;
}
