use Rattle.std.proofs.Common.{◌∙◌, sym, ap, subst}
use Rattle.std.proofs.lemmas.List.{take_all}
use Rattle.ae_types.specs.Ordered.{Ascends, itself}
use Rattle.ae_types.specs.Trees.{paths_of, tree_path}
use Rattle.ae_base.specs.Rows.{text_cmp}
use Rattle.ae_machine.proofs.Picked.{keys-ascend}
use Rattle.ae_machine.proofs.reading.tree_paths.Goals as goal

pub returns-clause-ascend : goal.returns-clause-ascend
returns-clause-ascend c =
    subst (Ascends text_cmp itself)
    (sym (c.loop-row.invariant ∙ ap paths_of (take_all c.loop-row.row-index c.as_slice-row-items.result.now c.loop-row-test.false) ∙ ap paths_of c.as_slice-row-items.ensures.rows))
    (keys-ascend tree_path c.args.rows.now c.as_slice-row-items.ensures.ascend)
