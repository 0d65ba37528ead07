use Rattle.std.proofs.Common.{◌+◌, ℕ, List, None, ap, sym, ◌∙◌}
use Rattle.ae_outside.specs.Trees.{with_file}
use Rattle.ae_outside.specs.TreeLaws.{steps_next}
use Rattle.ae_memory.specs.FileRows.{tree_of}
use Rattle.ae_memory.specs.Scripts.{without_paths}
use Rattle.ae_memory.proofs.FileRowLaws.{elsewhere_then}
use Rattle.std.proofs.Math.ListN.{drop}
use Rattle.ae_memory.proofs.site_files.drop_files.Goals as goal

pub loop-path-preserved : goal.loop-path-preserved
loop-path-preserved c = record {
  here =
      let path : List ℕ = c.path-item.result in
      let next = steps_next (λ (p : List ℕ). with_file p None) c.args.paths.now c.loop-path.path-index path (tree_of c.loop-path.files.items c.args.dir.now) c.loop-path-test.true in
      ap (without_paths (drop (c.loop-path.path-index + 1) c.args.paths.now)) (c.drop_file.ensures.here ∙ ap (λ (p : List ℕ). with_file p None (tree_of c.loop-path.files.items c.args.dir.now)) c.path-item.is)
      ∙ sym next ∙ c.loop-path.invariant.here;
  others = elsewhere_then _ _ _ _ c.loop-path.invariant.others c.drop_file.ensures.others;
}
