use Rattle.std.proofs.Common.{map, Some, ap, ◌∙◌}
use Rattle.ae_text.specs.View.{node}
use Rattle.ae_schema.proofs.RowLists.{same_list}
use Rattle.ae_schema.proofs.lists.RowsDecode.of_tree.Goals as goal

pub returns-in-Some-2-clause-only : goal.returns-in-Some-2-clause-only
returns-in-Some-2-clause-only g c x fits e =
    let same = same_list (node c.args.tree.now) (map g.T.Decode.spelled x) (map node c.in-Some.trees.now) e c.in-Some.ensures.some in
    ap Some (c.of.ensures ∙ rw c.in-Some-2.is at (c.in_ok-rows.ensures.only x fits same))

pub returns-in-None-clause-only : goal.returns-in-None-clause-only
returns-in-None-clause-only g c x fits e =
    let same = same_list (node c.args.tree.now) (map g.T.Decode.spelled x) (map node c.in-Some.trees.now) e c.in-Some.ensures.some in
    absurd (rw c.in-None.is at (c.in_ok-rows.ensures.only x fits same))
