-- What a binary search of ascending rows answers is the row that the key finds.
use Rattle.std.proofs.Common.{◌≡◌, inl, inr, ℕ, zero, suc, ◌+◌, ◌<◌, ◌≤◌, refl, sym, ◌∙◌, ap, subst, List, [], ◌∷◌, Option, Some, None, Bool, true, false, get_or, arith, Result, Ok, Err}
use Rattle.std.specs.Prelude.{length, is_ok, is_some}
use Rattle.std.specs.Ordering.{is_lt, ordering_index, ordering_reverse}
use Rattle.std.specs.declared.cmp.Ordering.{Ordering}
use Rattle.std.specs.declared.cmp.Ordering.TheVariants.{Less, Equal, Greater}
use Rattle.std.specs.List.{HoldsAt}
use Rattle.std.specs.List.Sorted.{IsPartitionPoint, IsSearchInRange, IsBinarySearchResult, IsNonDecreasingBy, IsSortedBy}
use Rattle.std.proofs.lemmas.List.Sorted.{searchable_from_sorted}
use Rattle.ae_types.proofs.Members.{In}
use Rattle.ae_types.proofs.Ordered.{Order, at, Ascends, less-other, greater-less, found-key}
use Rattle.ae_types.proofs.Searched.{found-in, in-found}

-- ---- members by their places

pub in-place : {A : Type 0} (xs : List A) (x : A) → In xs x → (i : ℕ) × (i < length xs) × (get_or xs i x ≡ x)
in-place [] x h = absurd h
in-place (y ∷ ys) x (inl e) = (0, omega arith, e)
in-place (y ∷ ys) x (inr h) = let r = in-place ys x h in (suc r.0, omega (arith, r.1), r.2)

pub place-in : {A : Type 0} (xs : List A) (i : ℕ) (d : A) → i < length xs → In xs (get_or xs i d)
place-in [] i d h = absurd (omega (arith, h))
place-in (y ∷ ys) zero d h = inl refl
place-in (y ∷ ys) (suc i) d h = inr (place-in ys i d (omega (arith, h)))

module _ {K : Type 0} (o : Order K) {A : Type 0} (key : A → K) where
  abbrev compared : K → A → Ordering
  compared k row = o.cmp (key row) k

  next-below : (xs : List A) → Ascends o key xs → (i : ℕ) (d : A) → suc i < length xs → o.cmp (key (get_or xs i d)) (key (get_or xs (suc i) d)) ≡ Less
  next-below [] a i d h = absurd (omega (arith, h))
  next-below (x ∷ []) a i d h = absurd (omega (arith, h))
  next-below (x ∷ y ∷ ys) a zero d h = a.0.0
  next-below (x ∷ y ∷ ys) a (suc i) d h = next-below (y ∷ ys) a.1 i d (omega (arith, h))

  sorted : (xs : List A) → Ascends o key xs → IsSortedBy (λ x y. is_lt (o.cmp (key x) (key y))) xs
  sorted xs a i d low high =
      let less : o.cmp (key (get_or xs i d)) (key (get_or xs (i + 1) d)) ≡ Less = subst (λ n. o.cmp (key (get_or xs i d)) (key (get_or xs n d)) ≡ Less) (omega arith) (next-below xs a i d (omega (arith, high))) in
      ap is_lt (o.total.antisymm (key (get_or xs (i + 1) d)) (key (get_or xs i d)) ∙ ap ordering_reverse less)

  equal-key : (k j : K) → o.cmp j k ≡ Equal → j ≡ k
  equal-key k j e = o.anti j k e

  pub search-at : (k : K) (xs : List A) (i : ℕ) (d : A) → Ascends o key xs → i < length xs → HoldsAt (λ y. compared k y ≡ Equal) xs i → at o key k xs ≡ Some (get_or xs i d)
  search-at k xs i d a h holds =
      let same : key (get_or xs i d) ≡ k = equal-key k (key (get_or xs i d)) (holds d) in
      ap (λ j. at o key j xs) (sym same) ∙ in-found o key xs a (get_or xs i d) (place-in xs i d h)

  pub search-ok : (k : K) (xs : List A) (i : ℕ) (x : A) → Ascends o key xs → i < length xs → HoldsAt (λ y. compared k y ≡ Equal) xs i → x ≡ get_or xs i x → at o key k xs ≡ Some x
  search-ok k xs i x a h holds is = search-at k xs i x a h holds ∙ ap (λ (y : A). Some y) (sym is)

  pub search-err : (k : K) (xs : List A) (i : ℕ) → Ascends o key xs → (IsNonDecreasingBy (λ y. ordering_index (compared k y)) xs → IsPartitionPoint (λ y. compared k y ≡ Less) (λ y. compared k y ≡ Greater) xs i) → at o key k xs ≡ None
  search-err k xs i a parted = go (at o key k xs) refl
    where
      point : IsPartitionPoint (λ y. compared k y ≡ Less) (λ y. compared k y ≡ Greater) xs i
      point = parted (searchable_from_sorted o.total key xs k (sorted xs a))

      go : (v : Option A) → at o key k xs ≡ v → at o key k xs ≡ None
      go None e = e
      go (Some x) e =
          let same = found-key o key k xs x e in
          let p = in-place xs x (found-in o key xs k x e) in
          cases x same p.0 p.2 (Rattle.std.proofs.lemmas.Bool.ltb-true p.0 i) (Rattle.std.proofs.lemmas.Bool.ltb-false p.0 i) p.1 (Rattle.std.specs.Prelude.nat_lt p.0 i) refl
        where
          cases : (x : A) → key x ≡ k → (j : ℕ) → get_or xs j x ≡ x → (Rattle.std.specs.Prelude.nat_lt j i ≡ true → j < i) → (Rattle.std.specs.Prelude.nat_lt j i ≡ false → i ≤ j) → j < length xs → (b : Bool) → Rattle.std.specs.Prelude.nat_lt j i ≡ b → at o key k xs ≡ None
          cases x same j is low high inside true t = absurd (less-other o (key x) k (ap (compared k) (sym is) ∙ point.0 j x (omega arith) (low t)) same)
          cases x same j is low high inside false f = absurd (less-other o k (key x) (greater-less o (key x) k (ap (compared k) (sym is) ∙ point.1 j x (high f) inside)) (sym same))

  -- whether one is found
  pub search-any : (k : K) (xs : List A) (r : Result ℕ ℕ) (d : A) → Ascends o key xs → IsSearchInRange r (length xs) → IsBinarySearchResult (compared k) xs r → is_ok r ≡ is_some (at o key k xs)
  search-any k xs (Ok i) d a h found = sym (ap (λ v. is_some v) (search-at k xs i d a h found))
  search-any k xs (Err i) d a h found = sym (ap (λ v. is_some v) (search-err k xs i a found))
