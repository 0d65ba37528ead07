use Rattle.std.proofs.Common.{◌≡◌, map}
use Rattle.ae_text.specs.Tree.{str}
use Rattle.ae_text.specs.View.{node}
use Rattle.ae_schema.proofs.RowLists.{same_list}
use Rattle.ae_schema.proofs.lists.UserSetDecode.of_tree.Goals as goal

pub returns-in-Some-2-clause-only : goal.returns-in-Some-2-clause-only
returns-in-Some-2-clause-only c x fits e =
    let same = same_list (node c.args.tree.now) (map str x) (map node c.in-Some.trees.now) e c.in-Some.ensures.some in
    let users : c.in-Some-2.users.items ≡ x = rw c.in-Some-2.is at (c.in_ok-users.ensures.only x fits.0 same) in
    rw (c.of.ensures, users) at (c.from_users.ensures.only (rw (c.of.ensures, users) fits.1))

pub returns-in-None-clause-only : goal.returns-in-None-clause-only
returns-in-None-clause-only c x fits e =
    let same = same_list (node c.args.tree.now) (map str x) (map node c.in-Some.trees.now) e c.in-Some.ensures.some in
    absurd (rw c.in-None.is at (c.in_ok-users.ensures.only x fits.0 same))
