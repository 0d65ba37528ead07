use Rattle.std.proofs.Common.{◌≡◌, ℕ, ◌∙◌, ap}
use Rattle.std.specs.Prelude.{option_copied}
use Rattle.std.proofs.Common.{Vec, Global}
use Rattle.ae_base.proofs.Results.{on_ok_of_err, on_ok_both}
use Rattle.ae_store.specs.Batching.{is_state_name}
use Rattle.ae_store.proofs.BatchNames.{change_name_is}
use Rattle.ae_store.specs.Names.{change_file}
use Rattle.ae_store.specs.Changed.{text_of}
use Rattle.ae_store.proofs.BatchSteps.{step_right, step_done, step_kept}
use Rattle.ae_store.proofs.changed.put_change.Goals as goal

pub put_text-requires-clause-name : goal.put_text-requires-clause-name
put_text-requires-clause-name c =
    let name : c.of-name.result ≡ change_file c.args.number = c.of-name.ensures ∙ ap (λ (v : Vec ℕ Global). v.items) c.into_bytes.ensures.value ∙ c.in_ok-name.ensures.value in
    ap is_state_name name ∙ change_name_is c.args.number c.in_ok-name.ensures.high

pub returns-clause-right : goal.returns-clause-right
returns-clause-right c =
    let name : c.of-name.result ≡ change_file c.args.number = c.of-name.ensures ∙ ap (λ (v : Vec ℕ Global). v.items) c.into_bytes.ensures.value ∙ c.in_ok-name.ensures.value in
    let told : c.as_slice.result.now ≡ text_of (option_copied c.args.old) (change_file c.args.number) = c.as_slice.ensures.value ∙ c.in_ok-old_text.ensures.text in
    on_ok_both c.put_text.result _ _ _
    (step_right (option_copied c.args.old) c.args.new.now c.args.entries.now.items c.put_text.new.entries.items c.of-name.result (change_file c.args.number) c.as_slice.result.now c.in_ok-new_text.new_text.items name told c.in_ok-new_text.ensures.text c.requires.right)
    c.put_text.ensures.content c.put_text.ensures.ordered

pub returns-clause-done : goal.returns-clause-done
returns-clause-done c =
    let name : c.of-name.result ≡ change_file c.args.number = c.of-name.ensures ∙ ap (λ (v : Vec ℕ Global). v.items) c.into_bytes.ensures.value ∙ c.in_ok-name.ensures.value in
    let told : c.as_slice.result.now ≡ text_of (option_copied c.args.old) (change_file c.args.number) = c.as_slice.ensures.value ∙ c.in_ok-old_text.ensures.text in
    on_ok_both c.put_text.result _ _ _
    (step_done (option_copied c.args.old) c.args.new.now c.args.entries.now.items c.put_text.new.entries.items c.of-name.result (change_file c.args.number) c.as_slice.result.now c.in_ok-new_text.new_text.items name told c.in_ok-new_text.ensures.text c.requires.right)
    c.put_text.ensures.content c.put_text.ensures.ordered

pub returns-clause-kept : goal.returns-clause-kept
returns-clause-kept c =
    let name : c.of-name.result ≡ change_file c.args.number = c.of-name.ensures ∙ ap (λ (v : Vec ℕ Global). v.items) c.into_bytes.ensures.value ∙ c.in_ok-name.ensures.value in
    let told : c.as_slice.result.now ≡ text_of (option_copied c.args.old) (change_file c.args.number) = c.as_slice.ensures.value ∙ c.in_ok-old_text.ensures.text in
    on_ok_both c.put_text.result _ _ _
    (step_kept (option_copied c.args.old) c.args.new.now c.args.entries.now.items c.put_text.new.entries.items c.of-name.result (change_file c.args.number) c.as_slice.result.now c.in_ok-new_text.new_text.items name told c.in_ok-new_text.ensures.text)
    c.put_text.ensures.content c.put_text.ensures.ordered

-- ---- where memory runs out

pub returns-in_err-name-clause-right : goal.returns-in_err-name-clause-right
returns-in_err-name-clause-right c = on_ok_of_err c.from_residual.result _ _ c.from_residual.ensures.1

pub returns-in_err-name-clause-done : goal.returns-in_err-name-clause-done
returns-in_err-name-clause-done c = on_ok_of_err c.from_residual.result _ _ c.from_residual.ensures.1

pub returns-in_err-name-clause-kept : goal.returns-in_err-name-clause-kept
returns-in_err-name-clause-kept c = on_ok_of_err c.from_residual.result _ _ c.from_residual.ensures.1

pub returns-in_err-name-clause-written : goal.returns-in_err-name-clause-written
returns-in_err-name-clause-written c = on_ok_of_err c.from_residual.result _ _ c.from_residual.ensures.1

pub returns-in_err-name-clause-written_new : goal.returns-in_err-name-clause-written_new
returns-in_err-name-clause-written_new c = on_ok_of_err c.from_residual.result _ _ c.from_residual.ensures.1

pub returns-in_err-old_text-clause-right : goal.returns-in_err-old_text-clause-right
returns-in_err-old_text-clause-right c = on_ok_of_err c.from_residual-in_err-old_text.result _ _ c.from_residual-in_err-old_text.ensures.1

pub returns-in_err-old_text-clause-done : goal.returns-in_err-old_text-clause-done
returns-in_err-old_text-clause-done c = on_ok_of_err c.from_residual-in_err-old_text.result _ _ c.from_residual-in_err-old_text.ensures.1

pub returns-in_err-old_text-clause-kept : goal.returns-in_err-old_text-clause-kept
returns-in_err-old_text-clause-kept c = on_ok_of_err c.from_residual-in_err-old_text.result _ _ c.from_residual-in_err-old_text.ensures.1

pub returns-in_err-old_text-clause-written : goal.returns-in_err-old_text-clause-written
returns-in_err-old_text-clause-written c = on_ok_of_err c.from_residual-in_err-old_text.result _ _ c.from_residual-in_err-old_text.ensures.1

pub returns-in_err-old_text-clause-written_new : goal.returns-in_err-old_text-clause-written_new
returns-in_err-old_text-clause-written_new c = on_ok_of_err c.from_residual-in_err-old_text.result _ _ c.from_residual-in_err-old_text.ensures.1

pub returns-in_err-new_text-clause-right : goal.returns-in_err-new_text-clause-right
returns-in_err-new_text-clause-right c = on_ok_of_err c.from_residual-in_err-new_text.result _ _ c.from_residual-in_err-new_text.ensures.1

pub returns-in_err-new_text-clause-done : goal.returns-in_err-new_text-clause-done
returns-in_err-new_text-clause-done c = on_ok_of_err c.from_residual-in_err-new_text.result _ _ c.from_residual-in_err-new_text.ensures.1

pub returns-in_err-new_text-clause-kept : goal.returns-in_err-new_text-clause-kept
returns-in_err-new_text-clause-kept c = on_ok_of_err c.from_residual-in_err-new_text.result _ _ c.from_residual-in_err-new_text.ensures.1

pub returns-in_err-new_text-clause-written : goal.returns-in_err-new_text-clause-written
returns-in_err-new_text-clause-written c = on_ok_of_err c.from_residual-in_err-new_text.result _ _ c.from_residual-in_err-new_text.ensures.1

pub returns-in_err-new_text-clause-written_new : goal.returns-in_err-new_text-clause-written_new
returns-in_err-new_text-clause-written_new c = on_ok_of_err c.from_residual-in_err-new_text.result _ _ c.from_residual-in_err-new_text.ensures.1
