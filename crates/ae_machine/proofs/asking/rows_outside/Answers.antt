use Rattle.std.proofs.Common.{◌≡◌, ◌∙◌, ap, sym, subst, rules, not}
use Rattle.std.specs.Prelude.{filter}
use Rattle.std.proofs.lemmas.Fn.{filter_same}
use Rattle.ae_types.specs.Found.{has_file}
use Rattle.ae_types.specs.Ordered.{Ascends}
use Rattle.ae_types.specs.Trees.{TreeRow, tree_of, tree_path}
use Rattle.ae_base.specs.Rows.{text_cmp}
use Rattle.ae_types.proofs.Keys.{by_text}
use Rattle.ae_types.proofs.Ordered.{filter-ascends}
use Rattle.ae_machine.proofs.asking.rows_outside.Goals as goal

pub of-requires : goal.of-requires
of-requires c =
    let kept : c.retain.new.self.items ≡ filter (λ (row : TreeRow). not (has_file c.args.change.now row.path)) c.in_ok-tree_at.field-0 =
    filter_same _ (λ (row : TreeRow). not (has_file c.args.change.now row.path)) _ (λ x b f' called. search rules) _ _ c.retain.ensures.filtered
    ∙ ap (filter (λ (row : TreeRow). not (has_file c.args.change.now row.path))) c.into_vec-rows.ensures.rows in
    subst (Ascends text_cmp tree_path) (sym kept) (filter-ascends by_text tree_path (λ (row : TreeRow). not (has_file c.args.change.now row.path)) c.in_ok-tree_at.field-0 c.into_vec-rows.ensures.ascend)

pub returns : goal.returns
returns c =
    let kept : c.retain.new.self.items ≡ filter (λ (row : TreeRow). not (has_file c.args.change.now row.path)) c.in_ok-tree_at.field-0 =
    filter_same _ (λ (row : TreeRow). not (has_file c.args.change.now row.path)) _ (λ x b f' called. search rules) _ _ c.retain.ensures.filtered
    ∙ ap (filter (λ (row : TreeRow). not (has_file c.args.change.now row.path))) c.into_vec-rows.ensures.rows in
    c.of.ensures ∙ kept
    ∙ ap (filter (λ (row : TreeRow). not (has_file c.args.change.now row.path))) (c.in_ok-tree_at.ensures ∙ ap (tree_of c.args.state.now) c.last_delta.ensures)
