-- A change is made, or taken away, or gets other settings: the rules are kept.
use Rattle.std.proofs.Common.{◌≡◌, ℕ, refl, sym, ◌∙◌, ap, subst, List, [], Option, Some, None, Bool, true, false, cond, nat_eq, eqb-true, not, arith}
use Rattle.std.specs.Prelude.{is_some, filter, IfSome}
use Rattle.std.specs.List.{find}
use Rattle.std.specs.Option.{option_map}
use Rattle.std.specs.Ordering.{nat_cmp}
use Rattle.std.proofs.lemmas.List.Elements.{All-cons, All-nil}
use Rattle.std.proofs.lemmas.Bool.{false≢true}
use Rattle.std.proofs.lemmas.Option.{same_Some}
use Rattle.ae_base.specs.declared.words.Phase.{Phase}
use Rattle.ae_base.specs.declared.words.Phase.TheVariants as phase
use Rattle.ae_types.specs.declared.change.Change.{Change}
use Rattle.ae_types.specs.declared.change.ChangeAttributes.{ChangeAttributes}
use Rattle.ae_types.specs.declared.change.HistoryRow.{HistoryRow}
use Rattle.ae_types.specs.declared.project.DeltaRow.{DeltaRow}
use Rattle.ae_types.specs.declared.file_table.Lock.{Lock}
use Rattle.ae_types.specs.declared.version.VersionRef.{VersionRef}
use Rattle.ae_types.specs.Observation.{Observation}
use Rattle.ae_types.specs.Ordered.{itself, put_by}
use Rattle.ae_types.specs.Found.{number_of_change, change_in, lock_in, delta_in, delta_of, has_number, has_file}
use Rattle.ae_types.specs.Phases.{is_awaiting_development, is_integrating, is_completed, holds_locks}
use Rattle.ae_types.specs.Versions.{Place, in_table, in_change, version_at}
use Rattle.ae_types.specs.Sound.{Sound, IsMoment, IsGoodChange, EachChange}
use Rattle.ae_types.proofs.Keys.{by_number}
use Rattle.ae_types.proofs.Ordered.{at-put, put-ascends, at-filter, filter-ascends, if_so, found-key, member-with_key, none-some}
use Rattle.ae_log.specs.declared.event.EventKind.TheVariants as on
use Rattle.ae_log.specs.After.{after, new_change, change_after}
use Rattle.ae_log.specs.Maker.{Maker}
use Rattle.ae_log.proofs.Steps.{of_change}
use Rattle.ae_log.proofs.Still.{version_in}
use Rattle.ae_log.proofs.Quiet.{quiet-keeps}

-- ---- a change is made

module _ (o : Observation) (s : Sound o) (maker : Maker) (c : ℕ) (a : ChangeAttributes) (moment : IsMoment maker.when) (fresh : has_number o.numbers c ≡ false) where
  abbrev pub made : Change
  made = new_change maker c a

  abbrev pub with_made : List Change
  with_made = put_by nat_cmp number_of_change made o.changes

  new : change_in o.changes c ≡ None
  new = go (change_in o.changes c) refl
    where
      go : (v : Option Change) → change_in o.changes c ≡ v → v ≡ None
      go (Some x) e = absurd (false≢true (sym fresh ∙ s.changes.numbered c x e))
      go None e = refl

  then_in : (n : ℕ) → change_in with_made n ≡ cond (nat_eq n c) (Some made) (change_in o.changes n)
  then_in n = at-put by_number number_of_change n made o.changes

  numbered_then : (n : ℕ) → has_number o.numbers n ≡ true → has_number (put_by nat_cmp itself c o.numbers) n ≡ true
  numbered_then n e = member-with_key by_number n c o.numbers ∙ go (nat_eq n c)
    where
      go : (b : Bool) → cond b true (has_number o.numbers n) ≡ true
      go true = refl
      go false = e

  numbered_new : has_number (put_by nat_cmp itself c o.numbers) c ≡ true
  numbered_new = member-with_key by_number c c o.numbers ∙ ap (λ b. cond b true (has_number o.numbers c)) (by_number.same_self c)

  -- what is so of the new change and of those before
  each : (P : ℕ → Change → Type 0) → P c made → EachChange o.changes P → EachChange with_made P
  each P own all n y e = go (nat_eq n c) refl (sym (then_in n) ∙ e)
    where
      go : (b : Bool) → nat_eq n c ≡ b → cond b (Some made) (change_in o.changes n) ≡ Some y → P n y
      go true is f = subst (λ m. P m y) (sym (eqb-true n c is)) (subst (P c) (same_Some made y f) own)
      go false is f = all n y f

  -- a change of a number that was there is one that was there
  there-before : (n : ℕ) → has_number o.numbers n ≡ true → change_in with_made n ≡ change_in o.changes n
  there-before n e = then_in n ∙ go (nat_eq n c) refl
    where
      go : (b : Bool) → nat_eq n c ≡ b → cond b (Some made) (change_in o.changes n) ≡ change_in o.changes n
      go true is = absurd (false≢true (sym fresh ∙ ap (has_number o.numbers) (sym (eqb-true n c is)) ∙ e))
      go false is = refl

  version-same : (q : Place) → version_at o.files with_made q ≡ version_at o.files o.changes q
  version-same (in_table path delta) = refl
  version-same (in_change n path) = ap (version_in path) (then_in n) ∙ go (nat_eq n c) refl
    where
      go : (b : Bool) → nat_eq n c ≡ b → version_in path (cond b (Some made) (change_in o.changes n)) ≡ version_in path (change_in o.changes n)
      go true is = sym (ap (version_in path) (ap (change_in o.changes) (eqb-true n c is) ∙ new))
      go false is = refl

  -- one that is integrated was there before
  older : (n : ℕ) (y : Change) → change_in with_made n ≡ Some y → is_integrating y.phase ≡ true → change_in o.changes n ≡ Some y
  older = each (λ n y. is_integrating y.phase ≡ true → change_in o.changes n ≡ Some y) (λ i. absurd (false≢true i)) (λ n y e i. e)

  made-good : IsGoodChange made
  made-good = record {
    people = record { developer = refl; reviewer = refl; reviewing = λ _. refl; integrator = refl };
    files = record { few = omega arith; ascend = tt; frozen = λ q f e. none-some f e; lengths = λ q f e. none-some f e; none_yet = λ _. refl };
    runs = record { ascend = tt; moments = λ k r e. none-some r e };
    history = All-cons (λ (row : HistoryRow). IsMoment row.when) _ [] moment (All-nil (λ (row : HistoryRow). IsMoment row.when));
  }

  pub sound-new : Sound (after o (of_change maker c (on.New a)))
  sound-new = record {
    project = record {
      roles = s.project.roles;
      administrator = s.project.administrator;
      numbers_ascend = put-ascends by_number itself c o.numbers s.project.numbers_ascend;
      numbered = s.project.numbered;
      moments = s.project.moments;
      next = s.project.next;
    };
    rows = s.rows;
    changes = record {
      ascend = put-ascends by_number number_of_change made o.changes s.changes.ascend;
      numbered = each (λ n y. has_number (put_by nat_cmp itself c o.numbers) n ≡ true) numbered_new (λ n y e. numbered_then n (s.changes.numbered n y e));
      good = each (λ n y. IsGoodChange y) made-good s.changes.good;
    };
    integrating = record {
      one = λ m n y z ey ez iy iz. s.integrating.one m n y z (older m y ey iy) (older n z ez iz) iy iz;
      room = λ n y e i. s.integrating.room n y (older n y e i) i;
    };
    deltas = record {
      numbered = λ n d e. numbered_then d.change (s.deltas.numbered n d e);
      completed = λ n d e. subst (λ v. IfSome v (λ (change : Change). is_completed change.phase ≡ true)) (sym (there-before d.change (s.deltas.numbered n d e))) (s.deltas.completed n d e);
      once = λ m n d e ed ee same there. s.deltas.once m n d e ed ee same (ap (λ (v : Option Change). is_some v) (sym (there-before d.change (s.deltas.numbered m d ed))) ∙ there);
      named = each (λ n y. is_completed y.phase ≡ true → is_some (delta_of o.project.deltas n) ≡ true) (λ i. absurd (false≢true i)) s.deltas.named;
    };
    versions = record {
      below = λ p v e. s.versions.below p v (sym (version-same p) ∙ e);
      apart = λ p q v w ev ew same. s.versions.apart p q v w (sym (version-same p) ∙ ev) (sym (version-same q) ∙ ew) same;
      inside = λ p v e. s.versions.inside p v (sym (version-same p) ∙ e);
      unshared = λ p q v w ev ew m. s.versions.unshared p q v w (sym (version-same p) ∙ ev) (sym (version-same q) ∙ ew) m;
    };
    entries = λ n d e y ey. s.entries n d e y (sym (there-before d.change (s.deltas.numbered n d e)) ∙ ey);
    locks = record {
      ascend = s.locks.ascend;
      numbered = λ p l e. numbered_then l.change (s.locks.numbered p l e);
      held = λ p l e. subst (λ v. IfSome v (λ (change : Change). (holds_locks change.phase ≡ true) × (has_file change p ≡ true))) (sym (there-before l.change (s.locks.numbered p l e))) (s.locks.held p l e);
      taken = each (λ n y. holds_locks y.phase ≡ true → (p : List ℕ) → has_file y p ≡ true → option_map (λ (lock : Lock). lock.change) (lock_in o.locks p) ≡ Some n) (λ i. absurd (false≢true i)) s.locks.taken;
    };
    candidate = λ n y e i. s.candidate n y (older n y e i) i;
  }

-- ---- a change is taken away

awaits-not-completed : (p : Phase) → is_awaiting_development p ≡ true → is_completed p ≡ false
awaits-not-completed phase.AwaitingDevelopment e = refl
awaits-not-completed _ e = cc

awaits-not-holding : (p : Phase) → is_awaiting_development p ≡ true → holds_locks p ≡ false
awaits-not-holding phase.AwaitingDevelopment e = refl
awaits-not-holding _ e = cc

module _ (o : Observation) (s : Sound o) (maker : Maker) (c : ℕ) (x : Change) (at_c : change_in o.changes c ≡ Some x) (awaits : is_awaiting_development x.phase ≡ true) where
  abbrev pub others : List Change
  others = filter (λ change. not (nat_eq c (number_of_change change))) o.changes

  abbrev pub other_numbers : List ℕ
  other_numbers = filter (λ other. not (nat_eq c other)) o.numbers

  -- a change that is there still is another one, and was there
  record Stays (n : ℕ) (y : Change) : Type 0 where
    was : change_in o.changes n ≡ Some y
    other : nat_eq c n ≡ false

  stays : (n : ℕ) (y : Change) → change_in others n ≡ Some y → Stays n y
  stays n y e = go (change_in o.changes n) refl (sym (at-filter by_number number_of_change (λ change. not (nat_eq c (number_of_change change))) n o.changes s.changes.ascend) ∙ e)
    where
      keep : (z : Change) → change_in o.changes n ≡ Some z → (b : Bool) → nat_eq c (number_of_change z) ≡ b → cond (not b) (Some z) None ≡ Some y → Stays n y
      keep z ez true is f = none-some y f
      keep z ez false is f = record { was = ez ∙ f; other = ap (nat_eq c) (sym (found-key by_number number_of_change n o.changes z ez)) ∙ is }

      go : (v : Option Change) → change_in o.changes n ≡ v → if_so by_number number_of_change (λ change. not (nat_eq c (number_of_change change))) v ≡ Some y → Stays n y
      go (Some z) ez f = keep z ez (nat_eq c (number_of_change z)) refl f
      go None ez f = none-some y f

  numbered_still : (n : ℕ) → nat_eq c n ≡ false → has_number o.numbers n ≡ true → has_number other_numbers n ≡ true
  numbered_still n other e = ap (λ (v : Option ℕ). is_some v) (at-filter by_number itself (λ other. not (nat_eq c other)) n o.numbers s.project.numbers_ascend) ∙ go (find (λ m. nat_eq n m) o.numbers) refl e
    where
      go : (v : Option ℕ) → find (λ m. nat_eq n m) o.numbers ≡ v → is_some v ≡ true → is_some (if_so by_number itself (λ other. not (nat_eq c other)) v) ≡ true
      go (Some m) is f = ap (λ b. is_some (cond (not b) (Some m) None)) (ap (nat_eq c) (found-key by_number itself n o.numbers m is) ∙ other)
      go None is f = f

  -- none of a delta or of a lock is the one that goes
  its : (y : Change) → (P : Change → Type 0) → IfSome (change_in o.changes c) P → P x
  its y P i = subst (λ v. IfSome v P) at_c i

  apart-of : (n : ℕ) → (nat_eq c n ≡ true → ⊥) → nat_eq c n ≡ false
  apart-of n h = go (nat_eq c n) refl
    where
      go : (b : Bool) → nat_eq c n ≡ b → b ≡ false
      go true e = absurd (h e)
      go false e = refl

  delta-other : (n : ℕ) (d : DeltaRow) → delta_in o.project.deltas n ≡ Some d → nat_eq c d.change ≡ false
  delta-other n d e = apart-of d.change (λ is. absurd (false≢true (sym (awaits-not-completed x.phase awaits)
      ∙ its x (λ (change : Change). is_completed change.phase ≡ true) (subst (λ m. IfSome (change_in o.changes m) (λ (change : Change). is_completed change.phase ≡ true)) (sym (eqb-true c d.change is)) (s.deltas.completed n d e)))))

  lock-other : (p : List ℕ) (l : Lock) → lock_in o.locks p ≡ Some l → nat_eq c l.change ≡ false
  lock-other p l e = apart-of l.change (λ is. absurd (false≢true (sym (awaits-not-holding x.phase awaits)
      ∙ (its x (λ (change : Change). (holds_locks change.phase ≡ true) × (has_file change p ≡ true)) (subst (λ m. IfSome (change_in o.changes m) (λ (change : Change). (holds_locks change.phase ≡ true) × (has_file change p ≡ true))) (sym (eqb-true c l.change is)) (s.locks.held p l e))).0)))

  version-was : (q : Place) (v : VersionRef) → version_at o.files others q ≡ Some v → version_at o.files o.changes q ≡ Some v
  version-was (in_table path delta) v e = e
  version-was (in_change n path) v e = go (change_in others n) refl e
    where
      go : (y : Option Change) → change_in others n ≡ y → version_in path y ≡ Some v → version_in path (change_in o.changes n) ≡ Some v
      go (Some y) ey f = ap (version_in path) (stays n y ey).was ∙ f
      go None ey f = none-some v f

  -- what was so of a change that was found is so of one that is found still
  if-still : (n : ℕ) (P : Change → Type 0) → IfSome (change_in o.changes n) P → (y : Option Change) → change_in others n ≡ y → IfSome y P
  if-still n P i (Some y) e = subst (λ v. IfSome v P) (stays n y e).was i
  if-still n P i None e = tt

  was-there : (n : ℕ) → is_some (change_in others n) ≡ true → is_some (change_in o.changes n) ≡ true
  was-there n e = go (change_in others n) refl e
    where
      go : (y : Option Change) → change_in others n ≡ y → is_some y ≡ true → is_some (change_in o.changes n) ≡ true
      go (Some y) ey f = ap (λ (v : Option Change). is_some v) (stays n y ey).was
      go None ey f = absurd (false≢true f)

  pub sound-undo : Sound (after o (of_change maker c on.NewUndo))
  sound-undo = record {
    project = record {
      roles = s.project.roles;
      administrator = s.project.administrator;
      numbers_ascend = filter-ascends by_number itself (λ other. not (nat_eq c other)) o.numbers s.project.numbers_ascend;
      numbered = s.project.numbered;
      moments = s.project.moments;
      next = s.project.next;
    };
    rows = s.rows;
    changes = record {
      ascend = filter-ascends by_number number_of_change (λ change. not (nat_eq c (number_of_change change))) o.changes s.changes.ascend;
      numbered = λ n y e. let t = stays n y e in numbered_still n t.other (s.changes.numbered n y t.was);
      good = λ n y e. s.changes.good n y (stays n y e).was;
    };
    integrating = record {
      one = λ m n y z ey ez iy iz. s.integrating.one m n y z (stays m y ey).was (stays n z ez).was iy iz;
      room = λ n y e i. s.integrating.room n y (stays n y e).was i;
    };
    deltas = record {
      numbered = λ n d e. numbered_still d.change (delta-other n d e) (s.deltas.numbered n d e);
      completed = λ n d e. if-still d.change (λ (change : Change). is_completed change.phase ≡ true) (s.deltas.completed n d e) (change_in others d.change) refl;
      once = λ m n d e ed ee same there. s.deltas.once m n d e ed ee same (was-there d.change there);
      named = λ n y e i. s.deltas.named n y (stays n y e).was i;
    };
    versions = record {
      below = λ p v e. s.versions.below p v (version-was p v e);
      apart = λ p q v w ev ew same. s.versions.apart p q v w (version-was p v ev) (version-was q w ew) same;
      inside = λ p v e. s.versions.inside p v (version-was p v e);
      unshared = λ p q v w ev ew m. s.versions.unshared p q v w (version-was p v ev) (version-was q w ew) m;
    };
    entries = λ n d e y ey. s.entries n d e y (stays d.change y ey).was;
    locks = record {
      ascend = s.locks.ascend;
      numbered = λ p l e. numbered_still l.change (lock-other p l e) (s.locks.numbered p l e);
      held = λ p l e. if-still l.change (λ (change : Change). (holds_locks change.phase ≡ true) × (has_file change p ≡ true)) (s.locks.held p l e) (change_in others l.change) refl;
      taken = λ n y e i p has. s.locks.taken n y (stays n y e).was i p has;
    };
    candidate = λ n y e i. s.candidate n y (stays n y e).was i;
  }

-- ---- its settings

pub sound-settings : (o : Observation) → Sound o → (maker : Maker) (c : ℕ) (a : ChangeAttributes) (x : Change) → change_in o.changes c ≡ Some x → Sound (after o (of_change maker c (on.ChangeAttributes a)))
sound-settings o s maker c a x at_c =
    let good = s.changes.good c x at_c in
    quiet-keeps o s c (change_after o.project.next_version (of_change maker c (on.ChangeAttributes a))) (λ _. refl) x at_c
    (record { calm = record { integrating = refl; completed = refl; files = λ _. refl }; holds = refl; files = λ _. refl; frozen = λ _. refl })
    (record {
      people = record { developer = good.people.developer; reviewer = good.people.reviewer; reviewing = good.people.reviewing; integrator = good.people.integrator };
      files = good.files;
      runs = good.runs;
      history = good.history;
    })
