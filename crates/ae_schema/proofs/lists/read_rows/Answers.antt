use Rattle.std.proofs.Common.{◌≡◌, ◌∷◌, [], ◌++◌, sym, ap, ◌∙◌, add-one}
use Rattle.ae_text.specs.View.{node}
use Rattle.ae_schema.proofs.RowLists.{element, grown, grown_fits}
use Rattle.ae_schema.proofs.lists.read_rows.Goals as goal

pub returns-in-None-clause-only : goal.returns-in-None-clause-only
returns-in-None-clause-only g c xs fits e =
    let x = element g.T.Decode.Fits g.T.Decode.spelled node xs c.args.trees.now fits e c.loop-tree.tree-index c.tree-item.result c.loop-tree-test.true in
    let told = rw c.in-None.is at (c.in_ok-row.ensures.only x.value x.fits (x.is ∙ ap node (sym c.tree-item.is))) in
    absurd (cc told)

pub loop-tree-preserved : goal.loop-tree-preserved
loop-tree-preserved g c =
    let row = rw c.in-Some.is at c.in_ok-row.ensures.some in
    let pushed : c.push.new.self.items ≡ c.loop-tree.rows.items ++ c.in-Some.row ∷ [] = c.in_ok-push-in-Some.ensures.items in
    record {
      fits = rw pushed (grown_fits g.T.Decode.Fits c.loop-tree.rows.items c.in-Some.row c.loop-tree.invariant.fits row.0);
      trees = rw pushed (grown g.T.Decode.spelled node c.loop-tree.rows.items c.in-Some.row c.args.trees.now c.loop-tree.tree-index c.tree-item.result
          c.tree-item.is c.loop-tree-test.true c.loop-tree.invariant.trees row.1);
      only = λ xs fits e.
          let x = element g.T.Decode.Fits g.T.Decode.spelled node xs c.args.trees.now fits e c.loop-tree.tree-index c.tree-item.result c.loop-tree-test.true in
          let told = rw c.in-Some.is at (c.in_ok-row.ensures.only x.value x.fits (x.is ∙ ap node (sym c.tree-item.is))) in
          let same : c.in-Some.row ≡ x.value = cc told in
          let before = c.loop-tree.invariant.only xs fits e in
          rw (pushed, add-one, x.grows) (cc (same, before));
    }
