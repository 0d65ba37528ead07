use Rattle.std.proofs.Common.{ℕ, List, ◌++◌, ◌∙◌, ap, sym}
use Rattle.ae_base.proofs.Results.{on_ok_of_err}
use Rattle.ae_text.specs.Tree.{Node}
use Rattle.ae_text.specs.View.{node}
use Rattle.ae_text.specs.Canonical.{value_text}
use Rattle.ae_text.proofs.Printed.{put_item, item_fits, put_spaced, member_fits, three_put, four_put, where_put, seen_list, seen_fields}
use Rattle.ae_text.proofs.print.+value.Goals as goal

pub put_items-loop-tree-preserved : goal.put_items-loop-tree-preserved
put_items-loop-tree-preserved n c =
    let loop = c.loop-tree in
    let tree = c.tree-item in (
      put_item node c.args.trees.now loop.tree-index tree.result tree.is c.loop-tree-test.true loop.before.now loop.out.items _ _ _
          c.in_ok-extend_from_slice.ensures.items c.in_ok-put_value.ensures.text loop.invariant.0,
      λ rest. loop.invariant.1 (item_fits node c.args.trees.now loop.tree-index tree.result tree.is c.loop-tree-test.true c.in_ok-put_value.ensures.types rest),
    )

pub put_spaced_fields-loop-field-preserved : goal.put_spaced_fields-loop-field-preserved
put_spaced_fields-loop-field-preserved n c =
    let loop = c.loop-field in
    let field = c.field-item in (
      put_spaced c.args.fields.now loop.field-index field.result field.is c.loop-field-test.true loop.out.items _ _ _
          c.in_ok-push.ensures.items c.in_ok-put_field.ensures.text loop.invariant.0,
      λ rest. loop.invariant.1 (member_fits c.args.fields.now loop.field-index field.result field.is c.loop-field-test.true c.in_ok-put_field.ensures.types rest),
    )

pub put_field-returns-clause-text : goal.put_field-returns-clause-text
put_field-returns-clause-text n c =
    where_put c.extend_from_slice-3.result _ _ _ _ c.extend_from_slice-3.ensures.items (λ put.
    four_put c.args.out.now.items c.args.field.now.name _ _ _ _ _ _ _
    (c.in_ok-extend_from_slice.ensures.items ∙ ap (λ (l : List ℕ). c.args.out.now.items ++ l) c.bytes.ensures.value)
    c.in_ok-extend_from_slice-2.ensures.items c.in_ok-put_value.ensures.text put)

pub put_value-returns-in_ok-put_spaced_fields-in-Fields-clause-text : goal.put_value-returns-in_ok-put_spaced_fields-in-Fields-clause-text
put_value-returns-in_ok-put_spaced_fields-in-Fields-clause-text n c =
    let out = c.args.out.now.items in
    where_put c.extend_from_slice-in-Fields.result _ _ _ _ c.extend_from_slice-in-Fields.ensures.items (λ put.
    three_put out _ _ _ _ _ _ c.in_ok-push-in-Fields.ensures.items
    c.in_ok-put_spaced_fields-in-Fields.ensures.text
    put
    ∙ ap (λ (n : Node). out ++ value_text n) (sym (seen_fields c.args.tree.now c.in-Fields.fields c.as_slice-in-Fields.result.now c.in-Fields.is c.as_slice-in-Fields.ensures.value)))

pub put_value-returns-in_ok-put_items-in-List-clause-text : goal.put_value-returns-in_ok-put_items-in-List-clause-text
put_value-returns-in_ok-put_items-in-List-clause-text n c =
    let out = c.args.out.now.items in
    where_put c.extend_from_slice-in-List.result _ _ _ _ c.extend_from_slice-in-List.ensures.items (λ put.
    three_put out _ _ _ _ _ _ c.in_ok-push-in-List.ensures.items
    c.in_ok-put_items-in-List.ensures.text
    put
    ∙ ap (λ (n : Node). out ++ value_text n) (sym (seen_list c.args.tree.now c.in-List.list c.as_slice.result.now c.in-List.is c.as_slice.ensures.value)))

-- ---- where memory runs out

pub put_value-returns-in_err-push-in-List-clause-text : goal.put_value-returns-in_err-push-in-List-clause-text
put_value-returns-in_err-push-in-List-clause-text n c = on_ok_of_err c.from_residual.result _ _ c.from_residual.ensures.1

pub put_value-returns-in_err-push-in-List-clause-types : goal.put_value-returns-in_err-push-in-List-clause-types
put_value-returns-in_err-push-in-List-clause-types n c = on_ok_of_err c.from_residual.result _ _ c.from_residual.ensures.1

pub put_value-returns-in_err-put_items-in-List-clause-text : goal.put_value-returns-in_err-put_items-in-List-clause-text
put_value-returns-in_err-put_items-in-List-clause-text n c = on_ok_of_err c.from_residual-in_err-put_items-in-List.result _ _ c.from_residual-in_err-put_items-in-List.ensures.1

pub put_value-returns-in_err-put_items-in-List-clause-types : goal.put_value-returns-in_err-put_items-in-List-clause-types
put_value-returns-in_err-put_items-in-List-clause-types n c = on_ok_of_err c.from_residual-in_err-put_items-in-List.result _ _ c.from_residual-in_err-put_items-in-List.ensures.1

pub put_value-returns-in_err-push-in-Fields-clause-text : goal.put_value-returns-in_err-push-in-Fields-clause-text
put_value-returns-in_err-push-in-Fields-clause-text n c = on_ok_of_err c.from_residual-in_err-push-in-Fields.result _ _ c.from_residual-in_err-push-in-Fields.ensures.1

pub put_value-returns-in_err-push-in-Fields-clause-types : goal.put_value-returns-in_err-push-in-Fields-clause-types
put_value-returns-in_err-push-in-Fields-clause-types n c = on_ok_of_err c.from_residual-in_err-push-in-Fields.result _ _ c.from_residual-in_err-push-in-Fields.ensures.1

pub put_value-returns-in_err-put_spaced_fields-in-Fields-clause-text : goal.put_value-returns-in_err-put_spaced_fields-in-Fields-clause-text
put_value-returns-in_err-put_spaced_fields-in-Fields-clause-text n c = on_ok_of_err c.from_residual-in_err-put_spaced_fields-in-Fields.result _ _ c.from_residual-in_err-put_spaced_fields-in-Fields.ensures.1

pub put_value-returns-in_err-put_spaced_fields-in-Fields-clause-types : goal.put_value-returns-in_err-put_spaced_fields-in-Fields-clause-types
put_value-returns-in_err-put_spaced_fields-in-Fields-clause-types n c = on_ok_of_err c.from_residual-in_err-put_spaced_fields-in-Fields.result _ _ c.from_residual-in_err-put_spaced_fields-in-Fields.ensures.1

pub put_items-returns-in_err-extend_from_slice-clause-text : goal.put_items-returns-in_err-extend_from_slice-clause-text
put_items-returns-in_err-extend_from_slice-clause-text n c = on_ok_of_err c.from_residual.result _ _ c.from_residual.ensures.1

pub put_items-returns-in_err-extend_from_slice-clause-types : goal.put_items-returns-in_err-extend_from_slice-clause-types
put_items-returns-in_err-extend_from_slice-clause-types n c = on_ok_of_err c.from_residual.result _ _ c.from_residual.ensures.1

pub put_items-returns-in_err-put_value-clause-text : goal.put_items-returns-in_err-put_value-clause-text
put_items-returns-in_err-put_value-clause-text n c = on_ok_of_err c.from_residual-in_err-put_value.result _ _ c.from_residual-in_err-put_value.ensures.1

pub put_items-returns-in_err-put_value-clause-types : goal.put_items-returns-in_err-put_value-clause-types
put_items-returns-in_err-put_value-clause-types n c = on_ok_of_err c.from_residual-in_err-put_value.result _ _ c.from_residual-in_err-put_value.ensures.1

pub put_spaced_fields-returns-in_err-push-clause-text : goal.put_spaced_fields-returns-in_err-push-clause-text
put_spaced_fields-returns-in_err-push-clause-text n c = on_ok_of_err c.from_residual.result _ _ c.from_residual.ensures.1

pub put_spaced_fields-returns-in_err-push-clause-types : goal.put_spaced_fields-returns-in_err-push-clause-types
put_spaced_fields-returns-in_err-push-clause-types n c = on_ok_of_err c.from_residual.result _ _ c.from_residual.ensures.1

pub put_spaced_fields-returns-in_err-put_field-clause-text : goal.put_spaced_fields-returns-in_err-put_field-clause-text
put_spaced_fields-returns-in_err-put_field-clause-text n c = on_ok_of_err c.from_residual-in_err-put_field.result _ _ c.from_residual-in_err-put_field.ensures.1

pub put_spaced_fields-returns-in_err-put_field-clause-types : goal.put_spaced_fields-returns-in_err-put_field-clause-types
put_spaced_fields-returns-in_err-put_field-clause-types n c = on_ok_of_err c.from_residual-in_err-put_field.result _ _ c.from_residual-in_err-put_field.ensures.1

pub put_field-returns-in_err-extend_from_slice-clause-text : goal.put_field-returns-in_err-extend_from_slice-clause-text
put_field-returns-in_err-extend_from_slice-clause-text n c = on_ok_of_err c.from_residual.result _ _ c.from_residual.ensures.1

pub put_field-returns-in_err-extend_from_slice-clause-types : goal.put_field-returns-in_err-extend_from_slice-clause-types
put_field-returns-in_err-extend_from_slice-clause-types n c = on_ok_of_err c.from_residual.result _ _ c.from_residual.ensures.1

pub put_field-returns-in_err-extend_from_slice-2-clause-text : goal.put_field-returns-in_err-extend_from_slice-2-clause-text
put_field-returns-in_err-extend_from_slice-2-clause-text n c = on_ok_of_err c.from_residual-in_err-extend_from_slice-2.result _ _ c.from_residual-in_err-extend_from_slice-2.ensures.1

pub put_field-returns-in_err-extend_from_slice-2-clause-types : goal.put_field-returns-in_err-extend_from_slice-2-clause-types
put_field-returns-in_err-extend_from_slice-2-clause-types n c = on_ok_of_err c.from_residual-in_err-extend_from_slice-2.result _ _ c.from_residual-in_err-extend_from_slice-2.ensures.1

pub put_field-returns-in_err-put_value-clause-text : goal.put_field-returns-in_err-put_value-clause-text
put_field-returns-in_err-put_value-clause-text n c = on_ok_of_err c.from_residual-in_err-put_value.result _ _ c.from_residual-in_err-put_value.ensures.1

pub put_field-returns-in_err-put_value-clause-types : goal.put_field-returns-in_err-put_value-clause-types
put_field-returns-in_err-put_value-clause-types n c = on_ok_of_err c.from_residual-in_err-put_value.result _ _ c.from_residual-in_err-put_value.ensures.1
