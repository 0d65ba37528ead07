use Rattle.ae_text.proofs.Printed.{put_item, item_fits}
use Rattle.ae_schema.proofs.RowLists.{taken_fits}
use Rattle.ae_schema.proofs.lists.put_rows.Goals as goal

pub loop-row-preserved : goal.loop-row-preserved
loop-row-preserved g c =
    let loop = c.loop-row in
    let row = c.row-item in
    let rows = c.args.rows.now in
    record {
      text = put_item g.T.Decode.spelled rows loop.row-index row.result row.is c.loop-row-test.true loop.before.now loop.out.items _ _ _
          c.in_ok-extend_from_slice.ensures.items c.in_ok-put.ensures.text loop.invariant.text;
      types = λ rest. loop.invariant.types (item_fits g.T.Decode.spelled rows loop.row-index row.result row.is c.loop-row-test.true c.in_ok-put.ensures.types rest);
      fits = taken_fits g.T.Decode.Fits rows loop.row-index row.result row.is c.loop-row-test.true loop.invariant.fits c.in_ok-put.ensures.fits;
    }
