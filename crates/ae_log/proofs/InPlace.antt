-- Rows whose keys are numbers, ascending: the one of a number is changed in its place.
use Rattle.std.proofs.Common.{◌≡◌, ℕ, zero, suc, ◌<◌, refl, sym, ◌∙◌, ap, subst, List, [], ◌∷◌, map, Some, None, Bool, true, false, cond, nat_eq, get_or, slice_set, arith}
use Rattle.std.specs.Prelude.{length}
use Rattle.std.specs.Ordering.{nat_cmp}
use Rattle.std.specs.declared.cmp.Ordering.TheVariants.{Less}
use Rattle.ae_types.proofs.Keys.{by_number, less-is}
use Rattle.ae_types.proofs.Ordered.{Ascends, Above, at, less-apart, apart}

module _ {A : Type 0} (key : A → ℕ) where
  above-get : (k : ℕ) (xs : List A) → Above by_number key k xs → (j : ℕ) (d : A) → j < length xs → k < key (get_or xs j d)
  above-get k [] a j d h = absurd (omega (arith, h))
  above-get k (x ∷ xs) a zero d h = less-is k (key x) a.0
  above-get k (x ∷ xs) a (suc j) d h = above-get k xs a.1 j d (omega (arith, h))

  -- those above a number aren't changed
  same-above : (k : ℕ) (h : A → A) (xs : List A) → Above by_number key k xs → map (λ x. cond (nat_eq k (key x)) (h x) x) xs ≡ xs
  same-above k h [] a = refl
  same-above k h (x ∷ xs) a = λ i. cond (unlike k (key x) a.0 i) (h x) x ∷ same-above k h xs a.1 i
    where
      unlike : (j k : ℕ) → nat_cmp j k ≡ Less → nat_eq j k ≡ false
      unlike j k l = less-apart by_number j k l

  pub set-where : (k : ℕ) (h : A → A) (xs : List A) (i : ℕ) (d : A) → Ascends by_number key xs → i < length xs → key (get_or xs i d) ≡ k → slice_set xs i (h (get_or xs i d)) ≡ map (λ x. cond (nat_eq k (key x)) (h x) x) xs
  set-where k h [] i d a high e = absurd (omega (arith, high))
  set-where k h (x ∷ xs) zero d a high e = λ i. cond (alike i) (h x) x ∷ sym (same-above k h xs (subst (λ j. Above by_number key j xs) e a.0)) i
    where
      alike : true ≡ nat_eq k (key x)
      alike = sym (ap (nat_eq k) e ∙ by_number.same_self k)
  set-where k h (x ∷ xs) (suc j) d a high e = λ i. cond (unlike i) (h x) x ∷ set-where k h xs j d a.1 (omega (arith, high)) e i
    where
      below : key x < k
      below = subst (λ m. key x < m) e (above-get (key x) xs a.0 j d (omega (arith, high)))

      unlike : false ≡ nat_eq k (key x)
      unlike = sym (apart by_number k (key x) (λ is. absurd (omega (arith, below, is))))

  -- where none is found, none is changed
  pub same-none : (k : ℕ) (h : A → A) (xs : List A) → at by_number key k xs ≡ None → map (λ x. cond (nat_eq k (key x)) (h x) x) xs ≡ xs
  same-none k h [] e = refl
  same-none k h (x ∷ xs) e = go (nat_eq k (key x)) e (same-none k h xs)
    where
      go : (b : Bool) → cond b (Some x) (at by_number key k xs) ≡ None → (at by_number key k xs ≡ None → map (λ x. cond (nat_eq k (key x)) (h x) x) xs ≡ xs) → cond b (h x) x ∷ map (λ x. cond (nat_eq k (key x)) (h x) x) xs ≡ x ∷ xs
      go true e rest = cc
      go false e rest = ap (λ ys. x ∷ ys) (rest e)
