use Rattle.std.proofs.Common.{◌∙◌, ◌++◌, ◌∷◌, [], rules, ap, slice_set}
use Rattle.std.specs.List.{insert}
use Rattle.std.proofs.lemmas.Fn.{always_returns_same}
use Rattle.std.proofs.lemmas.Result.{on_ok_weaker}
use Rattle.ae_base.specs.Rows.{text_cmp}
use Rattle.ae_types.specs.declared.file_table.FileRow.{FileRow}
use Rattle.ae_types.specs.Found.{row_path}
use Rattle.ae_log.specs.After.{row_of, new_entry}
use Rattle.ae_log.proofs.EnteredRows.{entered-there, entered-new}
use Rattle.ae_base.proofs.Results.{on_ok_of_err}
use Rattle.ae_log.proofs.file_rows.enter_file.Goals as goal

pub returns-in-Ok : goal.returns-in-Ok
returns-in-Ok c =
    let bound = rw (c.deref.ensures.value) at c.in-Ok.ensures.bound in
    let position = rw (c.deref.ensures.value) at c.in-Ok.ensures.position in
    let equal = position (λ (y : FileRow). text_cmp (row_path y) c.args.file.now.path) (always_returns_same _ _ _ (λ a r f' called. search rules)) in
    on_ok_weaker c.push.result (λ pushed.
    ap (λ past. slice_set c.args.rows.now.items c.in-Ok.at (row_of c.index_mut.result.now.path past)) pushed
    ∙ entered-there c.args.delta c.args.file.now c.args.rows.now.items c.in-Ok.at c.index_mut.result.now c.requires bound equal c.index_mut.ensures.value) c.push.ensures.ok

pub returns-in_ok-insert-in-Err : goal.returns-in_ok-insert-in-Err
returns-in_ok-insert-in-Err c =
    let bound = rw (c.deref.ensures.value) at c.in-Err.ensures.bound in
    let position = rw (c.deref.ensures.value) at c.in-Err.ensures.position in
    let point = position (λ (y : FileRow). text_cmp (row_path y) c.args.file.now.path) (always_returns_same _ _ _ (λ a r f' called. search rules)) in
    c.in_ok-insert-in-Err.ensures.items
    ∙ ap (insert c.args.rows.now.items c.in-Err.at) (λ i. row_of (c.in_ok-path-in-Err.ensures i) ((c.in_ok-push-in-Err.ensures.ok ∙ ap (λ past. past ++ new_entry c.args.delta c.args.file.now ∷ []) c.new-past.ensures) i))
    ∙ entered-new c.args.delta c.args.file.now c.args.rows.now.items c.in-Err.at c.requires bound point

-- ---- where memory runs out

pub returns-in_err-path-in-Err : goal.returns-in_err-path-in-Err
returns-in_err-path-in-Err c = on_ok_of_err c.from_residual.result _ _ c.from_residual.ensures.1

pub returns-in_err-insert-in-Err : goal.returns-in_err-insert-in-Err
returns-in_err-insert-in-Err c = on_ok_of_err c.from_residual-in_err-insert-in-Err.result _ _ c.from_residual-in_err-insert-in-Err.ensures.1

pub returns-in_err-push-in-Err : goal.returns-in_err-push-in-Err
returns-in_err-push-in-Err c = on_ok_of_err c.from_residual-in_err-push-in-Err.result _ _ c.from_residual-in_err-push-in-Err.ensures.1
