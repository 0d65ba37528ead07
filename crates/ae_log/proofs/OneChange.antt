-- One change is made another, and the others stay: what is found then.
use Rattle.std.proofs.Common.{◌≡◌, ℕ, refl, sym, ◌∙◌, ap, subst, List, map, Option, Some, None, Bool, true, false, cond, nat_eq, eqb-true}
use Rattle.std.specs.Prelude.{is_some}
use Rattle.std.specs.Option.{option_map}
use Rattle.std.proofs.lemmas.Option.{same_Some}
use Rattle.ae_types.specs.declared.change.Change.{Change}
use Rattle.ae_types.specs.Found.{number_of_change, change_in}
use Rattle.ae_types.specs.Sound.{EachChange, IsGoodChange, AreChanges}
use Rattle.ae_types.proofs.Keys.{by_number}
use Rattle.ae_types.proofs.Ordered.{Ascends, at-map, map-ascends, found-key, none-some}
use Rattle.ae_log.specs.After.{where_number}

-- a change that keeps its number
abbrev pub Keeps : (Change → Change) → Type 0
Keeps h = (x : Change) → number_of_change (h x) ≡ number_of_change x

-- a change that was there, and what it is now
pub record Was (changes : List Change) (c : ℕ) (h : Change → Change) (n : ℕ) (y : Change) : Type 0 where
  pub old : Change
  pub there : change_in changes n ≡ Some old
  pub now : y ≡ cond (nat_eq c n) (h old) old

module _ (c : ℕ) (h : Change → Change) (keeps : Keeps h) where
  own-keeps : (x : Change) → number_of_change (where_number c h x) ≡ number_of_change x
  own-keeps x = go (nat_eq c (number_of_change x))
    where
      go : (b : Bool) → number_of_change (cond b (h x) x) ≡ number_of_change x
      go true = keeps x
      go false = refl

  pub in-own : (xs : List Change) (n : ℕ) → change_in (map (where_number c h) xs) n ≡ option_map (where_number c h) (change_in xs n)
  in-own xs n = at-map by_number number_of_change (where_number c h) own-keeps n xs

  pub own-ascends : (xs : List Change) → Ascends by_number number_of_change xs → Ascends by_number number_of_change (map (where_number c h) xs)
  own-ascends xs a = map-ascends by_number number_of_change (where_number c h) own-keeps xs a

  -- as many are there
  pub own-there : (xs : List Change) (n : ℕ) → is_some (change_in (map (where_number c h) xs) n) ≡ is_some (change_in xs n)
  own-there xs n = ap (λ (v : Option Change). is_some v) (in-own xs n) ∙ go (change_in xs n)
    where
      go : (v : Option Change) → is_some (option_map (where_number c h) v) ≡ is_some v
      go (Some x) = refl
      go None = refl

  -- each change after it was a change before it
  pub was : (xs : List Change) (n : ℕ) (y : Change) → change_in (map (where_number c h) xs) n ≡ Some y → Was xs c h n y
  was xs n y e = go (change_in xs n) refl (sym (in-own xs n) ∙ e)
    where
      go : (v : Option Change) → change_in xs n ≡ v → option_map (where_number c h) v ≡ Some y → Was xs c h n y
      go (Some x) is f = record { old = x; there = is; now = sym (same_Some (where_number c h x) y f) ∙ ap (λ m. cond (nat_eq c m) (h x) x) (found-key by_number number_of_change n xs x is) }
      go None is f = none-some y f

  -- what is so of each change after it
  pub each-own : (xs : List Change) (P : ℕ → Change → Type 0) → ((x : Change) → change_in xs c ≡ Some x → P c (h x)) → ((n : ℕ) (x : Change) → nat_eq c n ≡ false → change_in xs n ≡ Some x → P n x) → EachChange (map (where_number c h) xs) P
  each-own xs P own other n y e = let w = was xs n y e in go (nat_eq c n) refl w.old w.there w.now
    where
      go : (b : Bool) → nat_eq c n ≡ b → (x : Change) → change_in xs n ≡ Some x → y ≡ cond (nat_eq c n) (h x) x → P n y
      go true is x f same =
          let cn : c ≡ n = eqb-true c n is in
          subst (λ m. P m y) cn (subst (P c) (sym (same ∙ ap (λ b. cond b (h x) x) is)) (own x (ap (change_in xs) cn ∙ f)))
      go false is x f same = subst (P n) (sym (same ∙ ap (λ b. cond b (h x) x) is)) (other n x is f)

  -- the changes are good still
  pub own-good : (numbers : List ℕ) (xs : List Change) (x : Change) → AreChanges numbers xs → change_in xs c ≡ Some x → IsGoodChange (h x) → AreChanges numbers (map (where_number c h) xs)
  own-good numbers xs x a at_c good = record {
    ascend = own-ascends xs a.ascend;
    numbered = λ n y e. let w = was xs n y e in a.numbered n w.old w.there;
    good = each-own xs (λ n y. IsGoodChange y) (λ z e. subst (λ v. IsGoodChange (h v)) (same_Some x z (sym at_c ∙ e)) good) (λ n z _ e. a.good n z e);
  }
