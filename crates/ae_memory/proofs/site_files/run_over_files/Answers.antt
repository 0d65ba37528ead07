use Rattle.std.proofs.Common.{◌+◌, ap, sym, ◌∙◌}
use Rattle.ae_base.specs.Rows.{Rows}
use Rattle.ae_outside.specs.Trees.{with_rows}
use Rattle.ae_outside.specs.TreeLaws.{steps_next}
use Rattle.ae_memory.specs.FileRows.{tree_of}
use Rattle.ae_memory.specs.Scripts.{with_snapshots}
use Rattle.ae_memory.proofs.FileRowLaws.{elsewhere_then}
use Rattle.std.proofs.Math.ListN.{drop}
use Rattle.ae_memory.proofs.site_files.run_over_files.Goals as goal

pub loop-snapshot-preserved : goal.loop-snapshot-preserved
loop-snapshot-preserved c = record {
  here =
      let rows : Rows = c.snapshot-item.result in
      let next = steps_next with_rows c.as_slice-snapshot-items.result.now c.loop-snapshot.snapshot-index rows (tree_of c.loop-snapshot.files.items c.args.dir.now) c.loop-snapshot-test.true in
      ap (with_snapshots (drop (c.loop-snapshot.snapshot-index + 1) c.as_slice-snapshot-items.result.now)) (c.in_ok-put_rows.ensures.here ∙ ap (λ (r : Rows). with_rows r (tree_of c.loop-snapshot.files.items c.args.dir.now)) (c.as_slice.ensures.rows ∙ c.snapshot-item.is))
      ∙ sym next ∙ c.loop-snapshot.invariant.here;
  others = elsewhere_then _ _ _ _ c.loop-snapshot.invariant.others c.put_rows.ensures.others;
}

pub returns-in_err-put_rows-clause-others : goal.returns-in_err-put_rows-clause-others
returns-in_err-put_rows-clause-others c = elsewhere_then _ _ _ _ c.loop-snapshot.invariant.others c.put_rows.ensures.others

pub returns-clause-others : goal.returns-clause-others
returns-clause-others c = elsewhere_then _ _ _ _ c.loop-snapshot.invariant.others c.drop_files.ensures.others
