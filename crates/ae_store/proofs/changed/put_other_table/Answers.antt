use Rattle.std.proofs.Common.{◌≡◌, ◌∙◌}
use Rattle.std.specs.Prelude.{option_copied}
use Rattle.ae_base.proofs.Results.{on_ok_of_err, on_ok_both}
use Rattle.ae_store.specs.Names.{files_file}
use Rattle.ae_store.specs.Changed.{text_of}
use Rattle.ae_store.proofs.BatchSteps.{step_right, step_done, step_kept}
use Rattle.ae_store.proofs.BatchWhole.{table_left}
use Rattle.ae_store.proofs.changed.put_other_table.Goals as goal

pub returns-clause-right : goal.returns-clause-right
returns-clause-right c =
    let name : c.of-name.result ≡ files_file = c.of-name.ensures ∙ c.in_ok-from_slice.ensures.items ∙ c.as_bytes.ensures.value in
    let told : c.as_slice.result.now ≡ text_of (option_copied c.args.old) (files_file) = c.as_slice.ensures.value ∙ c.in_ok-old_text.ensures.text in
    on_ok_both c.put_text.result _ _ _
    (step_right (option_copied c.args.old) c.args.new.now c.args.entries.now.items c.put_text.new.entries.items c.of-name.result (files_file) c.as_slice.result.now c.in_ok-new_text.new_text.items name told c.in_ok-new_text.ensures.text c.requires)
    c.put_text.ensures.content c.put_text.ensures.ordered

pub returns-clause-done : goal.returns-clause-done
returns-clause-done c =
    let name : c.of-name.result ≡ files_file = c.of-name.ensures ∙ c.in_ok-from_slice.ensures.items ∙ c.as_bytes.ensures.value in
    let told : c.as_slice.result.now ≡ text_of (option_copied c.args.old) (files_file) = c.as_slice.ensures.value ∙ c.in_ok-old_text.ensures.text in
    on_ok_both c.put_text.result _ _ _
    (step_done (option_copied c.args.old) c.args.new.now c.args.entries.now.items c.put_text.new.entries.items c.of-name.result (files_file) c.as_slice.result.now c.in_ok-new_text.new_text.items name told c.in_ok-new_text.ensures.text c.requires)
    c.put_text.ensures.content c.put_text.ensures.ordered

pub returns-clause-kept : goal.returns-clause-kept
returns-clause-kept c =
    let name : c.of-name.result ≡ files_file = c.of-name.ensures ∙ c.in_ok-from_slice.ensures.items ∙ c.as_bytes.ensures.value in
    let told : c.as_slice.result.now ≡ text_of (option_copied c.args.old) (files_file) = c.as_slice.ensures.value ∙ c.in_ok-old_text.ensures.text in
    on_ok_both c.put_text.result _ _ _
    (step_kept (option_copied c.args.old) c.args.new.now c.args.entries.now.items c.put_text.new.entries.items c.of-name.result (files_file) c.as_slice.result.now c.in_ok-new_text.new_text.items name told c.in_ok-new_text.ensures.text)
    c.put_text.ensures.content c.put_text.ensures.ordered

pub returns-clause-there : goal.returns-clause-there
returns-clause-there c =
    on_ok_both c.put_text.result _ _ _
    (λ content ordered. table_left (option_copied c.args.old) c.args.new.now c.in_ok-old_text.ensures.written c.in_ok-new_text.ensures.written)
    c.put_text.ensures.content c.put_text.ensures.ordered

-- ---- where memory runs out

pub returns-in_err-old_text-clause-right : goal.returns-in_err-old_text-clause-right
returns-in_err-old_text-clause-right c = on_ok_of_err c.from_residual.result _ _ c.from_residual.ensures.1

pub returns-in_err-old_text-clause-done : goal.returns-in_err-old_text-clause-done
returns-in_err-old_text-clause-done c = on_ok_of_err c.from_residual.result _ _ c.from_residual.ensures.1

pub returns-in_err-old_text-clause-kept : goal.returns-in_err-old_text-clause-kept
returns-in_err-old_text-clause-kept c = on_ok_of_err c.from_residual.result _ _ c.from_residual.ensures.1

pub returns-in_err-old_text-clause-there : goal.returns-in_err-old_text-clause-there
returns-in_err-old_text-clause-there c = on_ok_of_err c.from_residual.result _ _ c.from_residual.ensures.1

pub returns-in_err-new_text-clause-right : goal.returns-in_err-new_text-clause-right
returns-in_err-new_text-clause-right c = on_ok_of_err c.from_residual-in_err-new_text.result _ _ c.from_residual-in_err-new_text.ensures.1

pub returns-in_err-new_text-clause-done : goal.returns-in_err-new_text-clause-done
returns-in_err-new_text-clause-done c = on_ok_of_err c.from_residual-in_err-new_text.result _ _ c.from_residual-in_err-new_text.ensures.1

pub returns-in_err-new_text-clause-kept : goal.returns-in_err-new_text-clause-kept
returns-in_err-new_text-clause-kept c = on_ok_of_err c.from_residual-in_err-new_text.result _ _ c.from_residual-in_err-new_text.ensures.1

pub returns-in_err-new_text-clause-there : goal.returns-in_err-new_text-clause-there
returns-in_err-new_text-clause-there c = on_ok_of_err c.from_residual-in_err-new_text.result _ _ c.from_residual-in_err-new_text.ensures.1

pub returns-in_err-from_slice-clause-right : goal.returns-in_err-from_slice-clause-right
returns-in_err-from_slice-clause-right c = on_ok_of_err c.from_residual-in_err-from_slice.result _ _ c.from_residual-in_err-from_slice.ensures.1

pub returns-in_err-from_slice-clause-done : goal.returns-in_err-from_slice-clause-done
returns-in_err-from_slice-clause-done c = on_ok_of_err c.from_residual-in_err-from_slice.result _ _ c.from_residual-in_err-from_slice.ensures.1

pub returns-in_err-from_slice-clause-kept : goal.returns-in_err-from_slice-clause-kept
returns-in_err-from_slice-clause-kept c = on_ok_of_err c.from_residual-in_err-from_slice.result _ _ c.from_residual-in_err-from_slice.ensures.1

pub returns-in_err-from_slice-clause-there : goal.returns-in_err-from_slice-clause-there
returns-in_err-from_slice-clause-there c = on_ok_of_err c.from_residual-in_err-from_slice.result _ _ c.from_residual-in_err-from_slice.ensures.1
