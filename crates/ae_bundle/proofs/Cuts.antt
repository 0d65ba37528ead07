-- Texts cut at a byte that doesn't stand in their first part, and texts of equal length.
use Rattle.std.proofs.Common.{◌≡◌, ℕ, zero, suc, ◌+◌, ◌<◌, ◌≤◌, Bool, true, false, not, List, [], ◌∷◌, ◌++◌, Some, None, length, take, drop, get_or, refl, sym, ap, subst, ◌∙◌, arith}
use Rattle.std.specs.List.{position, position_or_len, list_all}
use Rattle.std.proofs.lemmas.Bool.{and_parts}
use Rattle.std.specs.Prelude.{nat_eq}
use Rattle.std.proofs.lemmas.Bool.Decides.{nat_tests}
use Rattle.std.proofs.lemmas.Grind.{common_steps}
use Rattle.ae_types.proofs.Clashing.{heads, tails}
use Rattle.ae_bundle.specs.Reading.{Without}
use Rattle.std.proofs.lemmas.List.{take-append-drop, drop_more}
use Rattle.std.proofs.lemmas.List.Quantifiers.{position-Some}
use Rattle.std.proofs.lemmas.List.Sums.{fails_before_first}

differs : (b c : ℕ) → (nat_eq b c ≡ false) → b ≡ c → ⊥
differs b c other is = grind (arith, nat_tests)

-- so says a test, for a text that is written out
pub literal-without : (c : ℕ) (xs : List ℕ) → list_all (λ b. not (nat_eq b c)) xs ≡ true → Without c xs
literal-without c [] all = tt
literal-without c (x ∷ xs) all = (differs x c (not-true (nat_eq x c) ((and_parts (not (nat_eq x c)) _ all).0)), literal-without c xs ((and_parts (not (nat_eq x c)) _ all).1))
  where
    not-true : (b : Bool) → not b ≡ true → b ≡ false
    not-true true e = absurd (cc e)
    not-true false e = refl

pub Without-append : (c : ℕ) (xs ys : List ℕ) → Without c xs → Without c ys → Without c (xs ++ ys)
Without-append c [] ys a b = b
Without-append c (x ∷ xs) ys a b = (a.0, Without-append c xs ys a.1 b)

pub Without-front : (c : ℕ) (xs ys : List ℕ) → Without c (xs ++ ys) → Without c xs
Without-front c [] ys a = tt
Without-front c (x ∷ xs) ys a = (a.0, Without-front c xs ys a.1)

-- up to the first such byte two equal texts are equal, and after it
pub cut_once : (c : ℕ) (a b t u : List ℕ) → Without c a → Without c b → a ++ c ∷ t ≡ b ++ c ∷ u → (a ≡ b) × (t ≡ u)
cut_once c [] [] t u p q e = (refl, tails c c t u e)
cut_once c [] (b ∷ bs) t u p q e = absurd (q.0 (sym (heads c b t (bs ++ c ∷ u) e)))
cut_once c (a ∷ ls) [] t u p q e = absurd (p.0 (heads a c (ls ++ c ∷ t) u e))
cut_once c (a ∷ ls) (b ∷ bs) t u p q e =
    let rest = cut_once c ls bs t u p.1 q.1 (tails a b (ls ++ c ∷ t) (bs ++ c ∷ u) e) in
    let first : a ≡ b = heads a b (ls ++ c ∷ t) (bs ++ c ∷ u) e in
    let same : ls ≡ bs = rest.0 in
    (cc, rest.1)

-- such a byte stands within the longer one of two fronts
pub cut_within : (c : ℕ) (a x t u : List ℕ) → a ++ c ∷ t ≡ x ++ u → length a < length x → Without c x → ⊥
cut_within c a [] t u e short none = absurd (omega (arith, short))
cut_within c [] (x ∷ xs) t u e short none = none.0 (sym (heads c x t (xs ++ u) e))
cut_within c (a ∷ ls) (x ∷ xs) t u e short none = cut_within c ls xs t u (tails a x (ls ++ c ∷ t) (xs ++ u) e) (omega (arith, short)) none.1

-- and where it does not it stands nowhere
pub cut_nowhere : (c : ℕ) (a x t : List ℕ) → a ++ c ∷ t ≡ x → Without c x → ⊥
cut_nowhere c [] [] t e none = absurd (cc e)
cut_nowhere c [] (x ∷ xs) t e none = none.0 (sym (heads c x t xs e))
cut_nowhere c (a ∷ ls) [] t e none = absurd (cc e)
cut_nowhere c (a ∷ ls) (x ∷ xs) t e none = cut_nowhere c ls xs t (tails a x (ls ++ c ∷ t) xs e) none.1

-- fronts of one length are equal, and so is what is after them
pub fronts_once : (a b t u : List ℕ) → length a ≡ length b → a ++ t ≡ b ++ u → (a ≡ b) × (t ≡ u)
fronts_once [] [] t u l e = (refl, e)
fronts_once [] (b ∷ bs) t u l e = absurd (omega (arith, l))
fronts_once (a ∷ ls) [] t u l e = absurd (omega (arith, l))
fronts_once (a ∷ ls) (b ∷ bs) t u l e =
    let rest = fronts_once ls bs t u (omega (arith, l)) (tails a b (ls ++ t) (bs ++ u) e) in
    let first : a ≡ b = heads a b (ls ++ t) (bs ++ u) e in
    let same : ls ≡ bs = rest.0 in
    (cc, rest.1)

-- ---- the place of the first such byte

pub before_place : (c : ℕ) (xs : List ℕ) (k : ℕ) → ((i : ℕ) → i < k → nat_eq (get_or xs i 0) c ≡ false) → Without c (take k xs)
before_place c xs zero none = tt
before_place c [] (suc k) none = tt
before_place c (x ∷ xs) (suc k) none = (differs x c (none 0 (omega arith)), before_place c xs k (λ i below. none (suc i) (omega (arith, below))))

pub none_place : (c : ℕ) (xs : List ℕ) → position (λ b. nat_eq b c) xs ≡ None → Without c xs
none_place c xs is = subst (Without c) (take_whole xs) (before_place c xs (length xs) (λ i below. fails_before_first (λ b. nat_eq b c) xs i 0 (omega (arith, below, no_place xs is))))
  where
    take_whole : (xs : List ℕ) → take (length xs) xs ≡ xs
    take_whole [] = refl
    take_whole (x ∷ xs) = ap (λ (ys : List ℕ). x ∷ ys) (take_whole xs)

    no_place : (xs : List ℕ) → position (λ b. nat_eq b c) xs ≡ None → length xs ≤ position_or_len (λ b. nat_eq b c) xs
    no_place xs none = grind (arith, common_steps, none)

-- a text with such a byte: what stands before the first one, and after it
pub some_place : (c : ℕ) (xs : List ℕ) (k : ℕ) → position (λ b. nat_eq b c) xs ≡ Some k → Without c (take k xs) × (xs ≡ take k xs ++ c ∷ drop (k + 1) xs) × (k < length xs)
some_place c xs k is =
    let found = position-Some (λ b. nat_eq b c) xs k 0 is in
    let at : get_or xs k 0 ≡ c = grind (arith, nat_tests, found.1) in
    (before_place c xs k found.2, sym (take-append-drop k xs) ∙ ap (λ (ys : List ℕ). take k xs ++ ys) (drop_more xs k 0 found.0 ∙ ap (λ (b : ℕ). b ∷ drop (k + 1) xs) at), found.0)
