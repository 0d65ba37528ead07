use Rattle.std.proofs.Common.{◌≡◌, ℕ, ◌+◌, List, [], ◌∷◌, ◌++◌, take, Err, ap, sym, ◌∙◌, subst, arith}
use Rattle.std.proofs.lemmas.List.{take_more}
use Rattle.std.proofs.lemmas.Result.{err_from_is_err_and}
use Rattle.ae_outside.specs.Image.{Image}
use Rattle.ae_outside.specs.State.{reads}
use Rattle.ae_outside.specs.Time.{same_on, same_reads}
use Rattle.ae_types.specs.declared.blame.Blame.TheVariants as blame
use Rattle.ae_types.specs.declared.change.Change.{Change}
use Rattle.ae_store.specs.Damage.{ReadsChange, ReadsChanges}
use Rattle.ae_store.proofs.Reading.{reads_push}
use Rattle.ae_audit.specs.Files.{files_by}
use Rattle.ae_audit.specs.Steps.{IsRecordRead}
use Rattle.ae_audit.proofs.Reading.{first_unread}
use Rattle.ae_audit.proofs.files.load_changes.Goals as goal

pub loop-number-preserved : goal.loop-number-preserved
loop-number-preserved g c = record {
  change = λ t. same_on _ _ _ (c.loop-number.invariant.change t) (c.load_change.ensures.change t);
  later = let first = c.loop-number.invariant.later in let second = c.load_change.ensures.cause.later in omega arith;
  read = λ t.
      let start : Image = reads (g.D.Disk.state c.args.disk.now) in
      let here : Image = files_by c.args.redo.now start in
      let same = ap (files_by c.args.redo.now) (same_reads _ _ (c.loop-number.invariant.change t)) in
      let front : List ℕ = take c.loop-number.number-index c.args.numbers.now in
      let number : ℕ = c.number-item.result in
      let more : take (c.loop-number.number-index + 1) c.args.numbers.now ≡ front ++ number ∷ [] = take_more c.args.numbers.now c.loop-number.number-index number c.loop-number-test.true ∙ ap (λ (n : ℕ). front ++ n ∷ []) (sym c.number-item.is) in
      let loaded : ReadsChange c.args.format here number c.in_ok-change.change = subst (λ (f : Image). ReadsChange c.args.format f number c.in_ok-change.change) same (c.in_ok-change.ensures.loaded t) in
      subst (λ (ns : List ℕ). ReadsChanges c.args.format here ns c.push.new.self) (sym more)
      (subst (λ (cs : List Change). ReadsChanges c.args.format here (front ++ number ∷ []) cs) (sym c.in_ok-push.ensures.ok) (reads_push c.args.format here front c.loop-number.changes number c.in_ok-change.change (c.loop-number.invariant.read t) loaded));
}

pub returns-in_err-change-clause-loaded : goal.returns-in_err-change-clause-loaded
returns-in_err-change-clause-loaded g c = λ t.
    let here : Image = files_by c.args.redo.now (reads (g.D.Disk.state c.args.disk.now)) in
    let same = ap (files_by c.args.redo.now) (same_reads _ _ (c.loop-number.invariant.change t)) in
    let number : ℕ = c.number-item.result in
    let p = err_from_is_err_and c.from_residual.result c.from_residual.ensures.1 in
    let bad = subst (λ (f : Image). IsRecordRead (ReadsChange c.args.format f number) (blame.Change number) (Err c.in_err-change.field-0.0)) same (c.in_err-change.ensures.loaded t) in
    rw (p.1, p.2) (first_unread c.args.format here c.args.numbers.now c.loop-number.number-index number c.loop-number.changes c.in_err-change.field-0.0 c.loop-number-test.true c.number-item.is (c.loop-number.invariant.read t) bad)

pub returns-in_err-push-clause-change : goal.returns-in_err-push-clause-change
returns-in_err-push-clause-change g c = λ t. same_on _ _ _ (c.loop-number.invariant.change t) (c.load_change.ensures.change t)
