use Rattle.ae_base.proofs.Results.{on_ok_of_err}
use Rattle.std.proofs.Common.{◌≡◌, ◌<◌, ℕ, List, Some, length, get_or, ◌∙◌, subst, below_more, arith}
use Rattle.std.specs.Prelude.{option_copied}
use Rattle.std.proofs.lemmas.List.{get_or_default}
use Rattle.ae_store.specs.Names.{change_file}
use Rattle.ae_store.specs.Batching.{IsDone, ChangeIsWritten}
use Rattle.ae_store.proofs.changed.put_changes.Goals as goal

-- the item is the number at its place
at_zero : (numbers : List ℕ) (i item : ℕ) → i < length numbers → item ≡ get_or numbers i item → item ≡ get_or numbers i 0
at_zero numbers i item h is = is ∙ get_or_default numbers i item 0 h

pub loop-number-preserved : goal.loop-number-preserved
loop-number-preserved c =
    let inside : c.loop-number.number-index < length c.args.numbers.now = omega arith in
    let item = at_zero c.args.numbers.now c.loop-number.number-index c.number-item.result inside c.number-item.is in
    record {
      right = c.in_ok-put_change.ensures.right;
      done = below_more _ _ (λ k h. c.in_ok-put_change.ensures.kept (change_file (get_or c.args.numbers.now k 0)) (c.loop-number.invariant.done k h))
          (subst (λ (n : ℕ). IsDone (option_copied c.args.old) c.args.new.now c.put_change.new.entries.items (change_file n)) item c.in_ok-put_change.ensures.done);
      kept = λ name done. c.in_ok-put_change.ensures.kept name (c.loop-number.invariant.kept name done);
      written = below_more _ _ c.loop-number.invariant.written (subst (λ (n : ℕ). ChangeIsWritten (option_copied c.args.old) n) item c.in_ok-put_change.ensures.written);
      written_new = below_more _ _ c.loop-number.invariant.written_new (subst (λ (n : ℕ). ChangeIsWritten (Some c.args.new.now) n) item c.in_ok-put_change.ensures.written_new);
    }

-- ---- where memory runs out

pub returns-in_err-put_change-clause-right : goal.returns-in_err-put_change-clause-right
returns-in_err-put_change-clause-right c = on_ok_of_err c.from_residual.result _ _ c.from_residual.ensures.1

pub returns-in_err-put_change-clause-done : goal.returns-in_err-put_change-clause-done
returns-in_err-put_change-clause-done c = on_ok_of_err c.from_residual.result _ _ c.from_residual.ensures.1

pub returns-in_err-put_change-clause-kept : goal.returns-in_err-put_change-clause-kept
returns-in_err-put_change-clause-kept c = on_ok_of_err c.from_residual.result _ _ c.from_residual.ensures.1

pub returns-in_err-put_change-clause-written : goal.returns-in_err-put_change-clause-written
returns-in_err-put_change-clause-written c = on_ok_of_err c.from_residual.result _ _ c.from_residual.ensures.1

pub returns-in_err-put_change-clause-written_new : goal.returns-in_err-put_change-clause-written_new
returns-in_err-put_change-clause-written_new c = on_ok_of_err c.from_residual.result _ _ c.from_residual.ensures.1
