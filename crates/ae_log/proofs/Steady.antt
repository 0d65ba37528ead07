-- Events after which no change is completed that wasn't: what the rules ask of deltas stays.
use Rattle.std.proofs.Common.{◌≡◌, ℕ, refl, sym, ◌∙◌, ap, subst, List, map, Option, Some, None, Bool, true, false, cond, nat_eq, eqb-true}
use Rattle.std.specs.Prelude.{IfSome}
use Rattle.std.proofs.lemmas.Option.{same_Some}
use Rattle.ae_types.specs.declared.change.Change.{Change}
use Rattle.ae_types.specs.declared.project.DeltaRow.{DeltaRow}
use Rattle.ae_types.specs.Observation.{Observation}
use Rattle.ae_types.specs.Found.{change_in, delta_in}
use Rattle.ae_types.specs.Phases.{is_completed}
use Rattle.ae_types.specs.Sound.{Sound, AreDeltas, IsDelta}
use Rattle.ae_log.specs.After.{where_number}
use Rattle.ae_log.proofs.OneChange.{Keeps, was, own-there}

-- a change after the event is related to what it was, where the event's change is so to what it was, and each to itself
pub related : (R : Change → Change → Type 0) → ((z : Change) → R z z) → (xs : List Change) (c : ℕ) (h : Change → Change) (keeps : Keeps h) (x : Change) → change_in xs c ≡ Some x → R x (h x)
    → (n : ℕ) (y : Change) → change_in (map (where_number c h) xs) n ≡ Some y → (z : Change) × (change_in xs n ≡ Some z) × R z y
related R self xs c h keeps x at_c own n y e = let w = was c h keeps xs n y e in (w.old, w.there, go (nat_eq c n) refl w.old w.there w.now)
  where
    go : (b : Bool) → nat_eq c n ≡ b → (z : Change) → change_in xs n ≡ Some z → y ≡ cond (nat_eq c n) (h z) z → R z y
    go true is z f same =
        let zx : z ≡ x = same_Some z x (sym f ∙ ap (change_in xs) (sym (eqb-true c n is)) ∙ at_c) in
        subst (λ v. R v y) (sym zx) (subst (R x) (sym (same ∙ ap (λ b. cond b (h z) z) is ∙ ap h zx)) own)
    go false is z f same = subst (R z) (sym (same ∙ ap (λ b. cond b (h z) z) is)) (self z)

pub record Steady (x y : Change) : Type 0 where
  pub completed : is_completed y.phase ≡ is_completed x.phase
  pub files : is_completed x.phase ≡ true → y.files ≡ x.files

pub steady-self : (x : Change) → Steady x x
steady-self x = record { completed = refl; files = λ _. refl }

module _ (o : Observation) (s : Sound o) (c : ℕ) (h : Change → Change) (keeps : Keeps h) (x : Change) (at_c : change_in o.changes c ≡ Some x) (steady : Steady x (h x)) where
  abbrev pub later : List Change
  later = map (where_number c h) o.changes

  before : (n : ℕ) (y : Change) → change_in later n ≡ Some y → (z : Change) × (change_in o.changes n ≡ Some z) × Steady z y
  before = related Steady steady-self o.changes c h keeps x at_c steady

  finished : (d : ℕ) → IfSome (change_in o.changes d) (λ (z : Change). is_completed z.phase ≡ true) → (y : Option Change) → change_in later d ≡ y → IfSome y (λ (z : Change). is_completed z.phase ≡ true)
  finished d i (Some y) e = let b = before d y e in b.2.completed ∙ subst (λ v. IfSome v (λ (z : Change). is_completed z.phase ≡ true)) b.1 i
  finished d i None e = tt

  pub steady-deltas : AreDeltas o.project.deltas o.numbers later
  steady-deltas = record {
    numbered = s.deltas.numbered;
    completed = λ n d e. finished d.change (s.deltas.completed n d e) (change_in later d.change) refl;
    once = λ m n d e ed ee same there. s.deltas.once m n d e ed ee same (sym (own-there c h keeps o.changes d.change) ∙ there);
    named = λ n y e i. let b = before n y e in s.deltas.named n b.0 b.1 (sym b.2.completed ∙ i);
  }

  pub steady-entries : (n : ℕ) (d : DeltaRow) → delta_in o.project.deltas n ≡ Some d → (y : Change) → change_in later d.change ≡ Some y → IsDelta o.files n y
  steady-entries n d e y ey =
      let b = before d.change y ey in
      let done : is_completed b.0.phase ≡ true = subst (λ v. IfSome v (λ (z : Change). is_completed z.phase ≡ true)) b.1 (s.deltas.completed n d e) in
      moved b.0 (b.2.files done) (s.entries n d e b.0 b.1)
    where
      moved : (z : Change) → y.files ≡ z.files → IsDelta o.files n z → IsDelta o.files n y
      moved z same i = let again : IsDelta o.files n (record y { files = z.files }) = record { entered = i.entered; no_other = i.no_other } in subst (λ fs. IsDelta o.files n (record y { files = fs })) (sym same) again
