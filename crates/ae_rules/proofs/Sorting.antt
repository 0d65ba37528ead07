-- Whether no two of a list are related is seen at neighbours once the list is sorted.
use Rattle.std.proofs.Common.{◌≡◌, inl, inr, ℕ, zero, suc, ◌<◌, ◌≤◌, refl, sym, ◌∙◌, ap, subst, List, [], ◌∷◌, Bool, true, false, ◌&&◌, not, get_or, nat_eq, eqb-true, arith}
use Rattle.std.specs.Prelude.{length}
use Rattle.std.specs.List.{list_any, list_all, swap}
use Rattle.std.specs.List.Sorted.{IsPermutation, IsNonDecreasingBy}
use Rattle.std.proofs.lemmas.List.Edits.{swapped_from_swap, length-swap}
use Rattle.std.proofs.lemmas.List.Sorted.{IsPermutation-keeps, IsPermutation-sym, list_any-IsPermutation}
use Rattle.std.proofs.lemmas.Bool.{false≢true, and_parts, false_from_ne_true, not_from_false}
use Rattle.ae_types.specs.Versions.{no_two}
use Rattle.ae_types.proofs.BinarySearch.{in-place, place-in}
use Rattle.ae_types.proofs.Members.{In, any-in, in-any, all-in, in-all}
use Rattle.ae_types.proofs.Splits.{not-is, same-true}
use Rattle.ae_types.proofs.Adjacent.{each_next}

eqb-false : (m n : ℕ) → nat_eq m n ≡ false → m ≡ n → ⊥
eqb-false m n e is = Rattle.std.proofs.lemmas.Bool.eqb-false m n e is

module _ {V : Type 0} (related : V → V → Bool) (both_ways : (v w : V) → related v w ≡ related w v) where
  -- those at two places aren't related
  abbrev Apart : List V → Type 0
  Apart xs = (i j : ℕ) (d : V) → i < length xs → j < length xs → (i ≡ j → ⊥) → related (get_or xs i d) (get_or xs j d) ≡ false

  first-apart : (x : V) (xs : List V) → no_two related (x ∷ xs) ≡ true → (j : ℕ) (d : V) → j < length xs → related x (get_or xs j d) ≡ false
  first-apart x xs e j d h = false_from_ne_true (related x (get_or xs j d)) (λ is. not-is (list_any (related x) xs) (and_parts (not (list_any (related x) xs)) (no_two related xs) e).0 (in-any (related x) xs (get_or xs j d) (place-in xs j d h) is))

  no_two-places : (xs : List V) → no_two related xs ≡ true → Apart xs
  no_two-places [] e i j d h m ne = absurd (omega (arith, h))
  no_two-places (x ∷ xs) e zero zero d h m ne = absurd (ne refl)
  no_two-places (x ∷ xs) e zero (suc j) d h m ne = first-apart x xs e j d (omega (arith, m))
  no_two-places (x ∷ xs) e (suc i) zero d h m ne = both_ways (get_or xs i d) x ∙ first-apart x xs e i d (omega (arith, h))
  no_two-places (x ∷ xs) e (suc i) (suc j) d h m ne = no_two-places xs (and_parts (not (list_any (related x) xs)) (no_two related xs) e).1 i j d (omega (arith, h)) (omega (arith, m)) (λ is. ne (ap suc is))

  places-no_two : (xs : List V) → Apart xs → no_two related xs ≡ true
  places-no_two [] a = refl
  places-no_two (x ∷ xs) a = λ i. not_from_false (list_any (related x) xs) (false_from_ne_true (list_any (related x) xs) none) i && places-no_two xs (λ i j d h m ne. a (suc i) (suc j) d (omega (arith, h)) (omega (arith, m)) (λ is. ne (omega (arith, is)))) i
    where
      none : list_any (related x) xs ≡ true → ⊥
      none e =
          let r = any-in (related x) xs e in
          let p = in-place xs r.0 r.1 in
          (absurd (false≢true (sym (a 0 (suc p.0) r.0 (omega arith) (omega (arith, p.1)) (λ is. absurd (omega (arith, is)))) ∙ ap (related x) p.2 ∙ r.2)))

  swap-apart : (xs : List V) (a b : ℕ) → a < length xs → b < length xs → Apart xs → Apart (swap xs a b)
  swap-apart xs a b ha hb apart i j d hi hj ne = go (nat_eq i a) refl (nat_eq i b) refl (nat_eq j a) refl (nat_eq j b) refl
    where
      s : (get_or (swap xs a b) a d ≡ get_or xs b d) × (get_or (swap xs a b) b d ≡ get_or xs a d) × ((m : ℕ) → (m ≡ a → ⊥) → (m ≡ b → ⊥) → get_or (swap xs a b) m d ≡ get_or xs m d)
      s = swapped_from_swap xs (swap xs a b) a b d ha hb refl

      ki : i < length xs
      ki = subst (λ n. i < n) (length-swap xs a b) hi

      kj : j < length xs
      kj = subst (λ n. j < n) (length-swap xs a b) hj

      ys : ℕ → V
      ys k = get_or (swap xs a b) k d

      at_a : (k : ℕ) → nat_eq k a ≡ true → get_or (swap xs a b) k d ≡ get_or xs b d
      at_a k e = ap (λ n. get_or (swap xs a b) n d) (eqb-true k a e) ∙ s.0

      at_b : (k : ℕ) → nat_eq k b ≡ true → get_or (swap xs a b) k d ≡ get_or xs a d
      at_b k e = ap (λ n. get_or (swap xs a b) n d) (eqb-true k b e) ∙ s.1

      other : (k : ℕ) → nat_eq k a ≡ false → nat_eq k b ≡ false → get_or (swap xs a b) k d ≡ get_or xs k d
      other k e f = s.2 k (eqb-false k a e) (eqb-false k b f)

      pair : (m n : ℕ) → m < length xs → n < length xs → (m ≡ n → ⊥) → get_or (swap xs a b) i d ≡ get_or xs m d → get_or (swap xs a b) j d ≡ get_or xs n d → related (get_or (swap xs a b) i d) (get_or (swap xs a b) j d) ≡ false
      pair m n hm hn differ im jn = (λ k. related (im k) (jn k)) ∙ apart m n d hm hn differ

      go : (p : Bool) → nat_eq i a ≡ p → (q : Bool) → nat_eq i b ≡ q → (t : Bool) → nat_eq j a ≡ t → (u : Bool) → nat_eq j b ≡ u → related (get_or (swap xs a b) i d) (get_or (swap xs a b) j d) ≡ false
      go true p q eq true t u eu = absurd (ne (eqb-true i a p ∙ sym (eqb-true j a t)))
      go true p q eq false t true u = pair b a hb ha (λ is. ne (eqb-true i a p ∙ sym is ∙ sym (eqb-true j b u))) (at_a i p) (at_b j u)
      go true p q eq false t false u = pair b j hb kj (λ is. eqb-false j b u (sym is)) (at_a i p) (other j t u)
      go false p true q true t u eu = pair a b ha hb (λ is. ne (eqb-true i b q ∙ sym is ∙ sym (eqb-true j a t))) (at_b i q) (at_a j t)
      go false p true q false t true u = absurd (ne (eqb-true i b q ∙ sym (eqb-true j b u)))
      go false p true q false t false u = pair a j ha kj (λ is. eqb-false j a t (sym is)) (at_b i q) (other j t u)
      go false p false q true t u eu = pair i b ki hb (eqb-false i b q) (other i p q) (at_a j t)
      go false p false q false t true u = pair i a ki ha (eqb-false i a p) (other i p q) (at_b j u)
      go false p false q false t false u = pair i j ki kj ne (other i p q) (other j t u)

  permuted : (xs ys : List V) → IsPermutation xs ys → no_two related xs ≡ true → no_two related ys ≡ true
  permuted xs ys p e = places-no_two ys (IsPermutation-keeps xs Apart (no_two-places xs e) swap-apart ys p)

  -- the order of a list doesn't matter
  pub no_two-permuted : (xs ys : List V) → IsPermutation xs ys → no_two related ys ≡ no_two related xs
  no_two-permuted xs ys p = same-true (no_two related ys) (no_two related xs) (permuted ys xs (IsPermutation-sym xs ys p)) (permuted xs ys p)

  -- ---- neighbours

  module _ (before : V → V → Bool) (fits : V → Bool) (key : V → ℕ)
      (chains : (x y z : V) → fits y ≡ true → before x y ≡ true → before y z ≡ true → before x z ≡ true)
      (apart : (x y : V) → before x y ≡ true → related x y ≡ false)
      (stands : (x y : V) → fits x ≡ true → fits y ≡ true → key x ≤ key y → related x y ≡ false → before x y ≡ true) where
    all-before : (x : V) (xs : List V) → each_next before (x ∷ xs) ≡ true → list_all fits xs ≡ true → (z : V) → In xs z → before x z ≡ true
    all-before x [] e f z h = absurd h
    all-before x (y ∷ ys) e f z (inl is) = subst (λ w. before x w ≡ true) is (and_parts (before x y) (each_next before (y ∷ ys)) e).0
    all-before x (y ∷ ys) e f z (inr h) =
        let a = and_parts (before x y) (each_next before (y ∷ ys)) e in
        let b = and_parts (fits y) (list_all fits ys) f in
        chains x y z b.0 a.0 (all-before y ys a.1 b.1 z h)

    rest-next : (x : V) (xs : List V) → each_next before (x ∷ xs) ≡ true → each_next before xs ≡ true
    rest-next x [] e = refl
    rest-next x (y ∷ ys) e = (and_parts (before x y) (each_next before (y ∷ ys)) e).1

    next-apart : (xs : List V) → list_all fits xs ≡ true → each_next before xs ≡ true → no_two related xs ≡ true
    next-apart [] f e = refl
    next-apart (x ∷ xs) f e = λ i. not_from_false (list_any (related x) xs) (false_from_ne_true (list_any (related x) xs) none) i && next-apart xs parts.1 (rest-next x xs e) i
      where
        parts : (fits x ≡ true) × (list_all fits xs ≡ true)
        parts = and_parts (fits x) (list_all fits xs) f

        none : list_any (related x) xs ≡ true → ⊥
        none is = let r = any-in (related x) xs is in (absurd (false≢true (sym (apart x r.0 (all-before x xs e parts.1 r.0 r.1)) ∙ r.2)))

    apart-next : (xs : List V) → list_all fits xs ≡ true → IsNonDecreasingBy key xs → no_two related xs ≡ true → each_next before xs ≡ true
    apart-next [] f up e = refl
    apart-next (x ∷ []) f up e = refl
    apart-next (x ∷ y ∷ ys) f up e = λ i. stands x y parts.0 (and_parts (fits y) (list_all fits ys) parts.1).0 (up 0 1 x (omega arith) (omega arith)) away i
        && apart-next (y ∷ ys) parts.1 (λ i j d h m. up (suc i) (suc j) d (omega (arith, h)) (omega (arith, m))) rest.1 i
      where
        parts : (fits x ≡ true) × (list_all fits (y ∷ ys) ≡ true)
        parts = and_parts (fits x) (list_all fits (y ∷ ys)) f

        rest : (not (list_any (related x) (y ∷ ys)) ≡ true) × (no_two related (y ∷ ys) ≡ true)
        rest = and_parts (not (list_any (related x) (y ∷ ys))) (no_two related (y ∷ ys)) e

        away : related x y ≡ false
        away = false_from_ne_true (related x y) (λ is. not-is (list_any (related x) (y ∷ ys)) rest.0 (in-any (related x) (y ∷ ys) y (inl refl) is))

    all-permuted : (xs ys : List V) → IsPermutation xs ys → list_all fits xs ≡ true → list_all fits ys ≡ true
    all-permuted xs ys p f = in-all fits ys (λ y m. go y m (fits y) refl)
      where
        abbrevd : (b : Bool) → not b ≡ true → b ≡ false
        abbrevd true e = absurd (false≢true e)
        abbrevd false e = refl

        go : (y : V) → In ys y → (b : Bool) → fits y ≡ b → fits y ≡ true
        go y m true e = e
        go y m false e =
            let any = list_any-IsPermutation (λ w. not (fits w)) xs ys p ∙ in-any (λ w. not (fits w)) ys y m (not_from_false (fits y) e) in
            let r = any-in (λ w. not (fits w)) xs any in
            (absurd (false≢true (sym (abbrevd (fits r.0) r.2) ∙ all-in fits xs f r.0 r.1)))

    -- once sorted, neighbours tell
    pub sorted-tells : (xs ys : List V) → IsPermutation xs ys → IsNonDecreasingBy key ys → list_all fits xs ≡ true → each_next before ys ≡ no_two related xs
    sorted-tells xs ys p up f =
        let g = all-permuted xs ys p f in
        same-true (each_next before ys) (no_two related ys) (next-apart ys g) (apart-next ys g up) ∙ no_two-permuted xs ys p
