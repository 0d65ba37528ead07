-- A change that is made and taken away at once leaves the log the same.
use Rattle.std.proofs.Common.{◌≡◌, ℕ, ◌+◌, refl, sym, ◌∙◌, ap, subst, List, [], ◌∷◌, map, Option, Some, None, Bool, true, false, cond, not, nat_le, length}
use Rattle.std.specs.Prelude.{filter, IsSomeAnd}
use Rattle.std.proofs.lemmas.Bool.{false≢true}
use Rattle.ae_log.proofs.SoundQuiet.{not-some}
use Rattle.ae_base.specs.declared.refusal.Refusal.TheVariants.{Limit}
use Rattle.ae_base.specs.declared.words.Which.TheVariants.{Changes}
use Rattle.ae_policy.specs.Making.{refuses_making}
use Rattle.ae_types.specs.declared.change.Change.{Change}
use Rattle.ae_types.specs.declared.change.ChangeAttributes.{ChangeAttributes}
use Rattle.ae_types.specs.Found.{number_of_change, change_at, change_in, has_number}
use Rattle.ae_types.specs.Observation.{Observation}
use Rattle.ae_types.specs.Ordered.{itself}
use Rattle.ae_types.specs.Sound.{Sound}
use Rattle.ae_types.proofs.Keys.{by_number}
use Rattle.ae_types.proofs.Ordered.{Order, Ascends, at, put, at-put, put-ascends, at-filter, filter-ascends, if_so, ascending-is, found-key}
use Rattle.ae_log.specs.declared.event.Event.{Event}
use Rattle.ae_log.specs.declared.event.EventKind.TheVariants as on
use Rattle.ae_log.specs.After.{after, new_change}
use Rattle.ae_log.specs.Applies.{IsChangeNumber}
use Rattle.ae_log.specs.Files.{version_bytes}
use Rattle.ae_log.specs.Log.{followed}
use Rattle.ae_log.specs.Maker.{Maker, event_by}
use Rattle.ae_log.proofs.Steps.{of_change}
use Rattle.ae_words.specs.declared.table.Function.TheVariants as function
use Rattle.ae_machine.specs.declared.verdict.Verdict.TheVariants.{Accept}
use Rattle.ae_machine.specs.Call.{call_of, given_in}
use Rattle.ae_machine.specs.Laws.{ReversesOf, IsReversed}
use Rattle.ae_machine.specs.Legal.{MayCome, maker_at}
use Rattle.ae_machine.specs.Permission.{phase_is_right}
use Rattle.ae_machine.specs.Same.{without_history, without_histories}
use Rattle.ae_machine.specs.Verdict.{free_number, change_file, old_change_attributes}
use Rattle.ae_machine.proofs.Accepted.{tested, with_function}
use Rattle.ae_machine.proofs.AcceptedNumbers.{a-number-is-free}
use Rattle.ae_machine.proofs.LegalRightly.{legal-sound}
use Rattle.ae_machine.proofs.Reversing.{Reversal, reverses-of, given_at, first-passed, reversed-by, unrefused, same-bytes, occasion_of, project-still, change-still, on-named}

-- a row that is put where there was none, and taken out
put-back : {K A : Type 0} (o : Order K) (key : A → K) (a : A) (rows : List A) → Ascends o key rows → at o key (key a) rows ≡ None → filter (λ r. not (o.same (key a) (key r))) (put o key a rows) ≡ rows
put-back {K} {A} o key a rows up none = ascending-is o key (filter t (put o key a rows)) rows (filter-ascends o key t (put o key a rows) (put-ascends o key a rows up)) up
    (λ k. at-filter o key t k (put o key a rows) (put-ascends o key a rows up) ∙ ap (if_so o key t) (at-put o key k a rows) ∙ go k (o.same k (key a)) refl (at o key k rows) refl)
  where
    t : A → Bool
    t r = not (o.same (key a) (key r))

    other : (k : K) → o.same k (key a) ≡ false → o.same (key a) k ≡ false
    other k e = turned (o.same (key a) k) refl
      where
        turned : (b : Bool) → o.same (key a) k ≡ b → b ≡ false
        turned true is = absurd (false≢true (sym e ∙ ap (o.same k) (o.same_is (key a) k is) ∙ o.same_self k))
        turned false is = refl

    go : (k : K) (b : Bool) → o.same k (key a) ≡ b → (v : Option A) → at o key k rows ≡ v → if_so o key (λ r. not (o.same (key a) (key r))) (cond b (Some a) v) ≡ v
    go k true e v is = ap (λ b. cond (not b) (Some a) None) (o.same_self (key a)) ∙ sym (sym is ∙ ap (λ j. at o key j rows) (o.same_is k (key a) e) ∙ none)
    go k false e (Some r) is = ap (λ b. cond (not b) (Some r) None) (ap (o.same (key a)) (found-key o key k rows r is) ∙ other k e)
    go k false e None is = refl

-- no change has a number that isn't there
no-change : (o : Observation) → Sound o → (n : ℕ) → has_number o.numbers n ≡ false → change_in o.changes n ≡ None
no-change o s n free = go (change_in o.changes n) refl
  where
    go : (v : Option Change) → change_in o.changes n ≡ v → v ≡ None
    go (Some x) e = absurd (false≢true (sym free ∙ s.changes.numbered n x e))
    go None e = refl

-- the number that a new change gets
pub record IsFree (o : Observation) : Type 0 where
  pub n : ℕ
  pub is : free_number o ≡ Some n
  pub free : has_number o.numbers n ≡ false

a-free : (o : Observation) (v : Option ℕ) → free_number o ≡ v → IsSomeAnd v (λ n. IsChangeNumber n × (has_number o.numbers n ≡ false)) → IsFree o
a-free o (Some n) e h = record { n = n; is = e; free = h.1 }
a-free o None e h = absurd h

made-and-taken : (o : Observation) → Sound o → (n : ℕ) → has_number o.numbers n ≡ false → (maker undoing : Maker) (attributes : ChangeAttributes)
    → without_histories (after (after o (of_change maker n (on.New attributes))) (of_change undoing n on.NewUndo)) ≡ without_histories o
made-and-taken o s n free maker undoing attributes =
    let numbers = put-back by_number itself n o.numbers s.project.numbers_ascend (not-some _ free) in
    let changes = put-back by_number number_of_change (new_change maker n attributes) o.changes s.changes.ascend (no-change o s n free) in
    λ i. record (without_histories o) { numbers = numbers i; changes = map without_history (changes i) }

change-made : Reversal function.NewChange function.NewChangeUndo
change-made c d who by when then_ view sight log o events legal stood may accepted undo may_then differ copies =
    let done = occasion_of function.NewChange c who when view in
    let undone = occasion_of function.NewChangeUndo d by then_ sight in
    let p = first-passed log done o events stood accepted in
    let s : Sound o = legal-sound log o legal stood in
    let f = a-free o (free_number o) refl (a-number-is-free o (tested (nat_le (length o.numbers + 1) 1990) (Limit Changes 1990) p.before.1.1.1.0)) in
    let attributes : ChangeAttributes = given_in (change_file (given_at log o done)) (old_change_attributes o c.change) in
    let first = of_change (maker_at done) f.n (on.New attributes) in
    let second = of_change (maker_at undone) f.n on.NewUndo in
    let now = after o first in
    let x = new_change (maker_at done) f.n attributes in
    let at_x : change_at now f.n ≡ Some x = at-put by_number number_of_change f.n x o.changes ∙ ap (λ b. cond b (Some x) (change_in o.changes f.n)) (by_number.same_self f.n) in
    let dn : d.change ≡ Some f.n = undo.change ∙ f.is in
    let are : first ∷ [] ≡ events = ap (λ (m : Option ℕ). event_by (maker_at done) m (on.New attributes) ∷ []) (sym f.is) ∙ p.these in
    let call = call_of now (with_function function.NewChangeUndo d) by in
    subst (λ (es : List Event). IsReversed log (followed log es) o done undone) are
    (reversed-by log done undone o (first ∷ []) (second ∷ []) legal stood may (accepted ∙ ap (λ (es : List Event). Accept es) (sym are)) (subst (λ (es : List Event). MayCome (followed log es) undone) (sym are) may_then)
    (unrefused (given_at (first ∷ log) now undone) refl
    (project-still o now d refl undo.project, (change-still now d.change f.n x dn at_x, (on-named phase_is_right call f.n x dn at_x refl, (ap (refuses_making o.project) undo.who ∙ p.before.1.1.0, tt)))))
    refl
    (ap (λ (m : Option ℕ). event_by (maker_at undone) m on.NewUndo ∷ []) dn)
    (made-and-taken o s f.n f.free (maker_at done) (maker_at undone) attributes)
    (same-bytes (version_bytes log)))

pub reverses-new_change : ReversesOf function.NewChange
reverses-new_change = reverses-of function.NewChange function.NewChangeUndo refl change-made
