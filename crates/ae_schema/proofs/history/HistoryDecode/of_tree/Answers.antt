use Rattle.std.proofs.Common.{◌≡◌, All, map, Some, sym, ap, ◌∙◌, subst}
use Rattle.ae_text.specs.View.{node}
use Rattle.ae_schema.specs.declared.format.Format.{Format}
use Rattle.ae_schema.specs.Spelled.{history_row}
use Rattle.ae_schema.specs.Fits.{FitsHistory}
use Rattle.ae_schema.proofs.RowLists.{same_list}
use Rattle.ae_schema.proofs.history.HistoryDecode.of_tree.Goals as goal

pub returns-in-Some-2-clause-only : goal.returns-in-Some-2-clause-only
returns-in-Some-2-clause-only g c x fits e =
    let same = same_list (node c.args.tree.now) (map (history_row g.F.FormatType.format) x) (map node c.in-Some.trees.now) e c.in-Some.ensures.some in
    let only = c.in_ok-rows.ensures.only x
    (subst (λ (format : Format). All (FitsHistory format) x) (sym c.value.ensures) fits)
    (subst (λ (format : Format). map (history_row format) x ≡ map node c.in-Some.trees.now) (sym c.value.ensures) same)
    in
    ap Some (c.of.ensures ∙ rw c.in-Some-2.is at only)

pub returns-in-None-clause-only : goal.returns-in-None-clause-only
returns-in-None-clause-only g c x fits e =
    let same = same_list (node c.args.tree.now) (map (history_row g.F.FormatType.format) x) (map node c.in-Some.trees.now) e c.in-Some.ensures.some in
    let only = c.in_ok-rows.ensures.only x
    (subst (λ (format : Format). All (FitsHistory format) x) (sym c.value.ensures) fits)
    (subst (λ (format : Format). map (history_row format) x ≡ map node c.in-Some.trees.now) (sym c.value.ensures) same)
    in
    absurd (rw c.in-None.is at only)
