use Rattle.std.proofs.Common.{◌+◌, ap, sym, ◌∙◌}
use Rattle.ae_base.specs.Rows.{Row}
use Rattle.ae_outside.specs.Trees.{with_file, with_rows}
use Rattle.ae_outside.specs.TreeLaws.{steps_next}
use Rattle.ae_memory.specs.FileRows.{tree_of}
use Rattle.ae_memory.proofs.FileRowLaws.{elsewhere_then}
use Rattle.std.proofs.Math.ListN.{drop}
use Rattle.ae_memory.proofs.site_files.put_rows.Goals as goal

pub loop-row-preserved : goal.loop-row-preserved
loop-row-preserved c = record {
  here =
      let row : Row = c.row-item.result in
      let next = steps_next (λ (r : Row). with_file r.0 r.1) c.args.rows.now c.loop-row.row-index row (tree_of c.loop-row.files.items c.args.dir.now) c.loop-row-test.true in
      ap (with_rows (drop (c.loop-row.row-index + 1) c.args.rows.now)) (c.in_ok-put_or_drop.ensures.here ∙ ap (λ (r : Row). with_file r.0 r.1 (tree_of c.loop-row.files.items c.args.dir.now)) c.row-item.is)
      ∙ sym next ∙ c.loop-row.invariant.here;
  others = elsewhere_then _ _ _ _ c.loop-row.invariant.others c.put_or_drop.ensures.others;
}

pub returns-in_err-put_or_drop-clause-others : goal.returns-in_err-put_or_drop-clause-others
returns-in_err-put_or_drop-clause-others c = elsewhere_then _ _ _ _ c.loop-row.invariant.others c.put_or_drop.ensures.others
