use Rattle.std.proofs.Common.{◌≡◌, ◌++◌, [], All, map, take, drop}
use Rattle.ae_text.specs.View.{items_of}
use Rattle.ae_text.specs.Canonical.{items_text}
use Rattle.ae_text.specs.Printing.{ItemsFitTypes}
use Rattle.ae_schema.proofs.lists.put_rows.Given as goal

abbrev pub invariant-loop-row : goal.invariant-loop-row
invariant-loop-row g l = record {
  text : l.out.items ++ items_text l.before (items_of (map g.T.Decode.spelled (drop l.row-index l.rows))) ≡ l.initial.out.items ++ items_text [] (items_of (map g.T.Decode.spelled l.rows));
  types : ItemsFitTypes (items_of (map g.T.Decode.spelled (drop l.row-index l.rows))) → ItemsFitTypes (items_of (map g.T.Decode.spelled l.rows));
  fits : All g.T.Decode.Fits (take l.row-index l.rows);
}
