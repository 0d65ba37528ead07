-- The first place of a list that passes a test, where the list is seen by a function, and what stands at a place.
use Rattle.std.proofs.Common.{◌≡◌, ◌+◌, ℕ, suc, Bool, cond, not, List, [], ◌∷◌, map, length, Option, Some, None, refl, sym, ap, ◌<◌, ◌≤◌, Bor, get_or}
use Rattle.std.specs.Prelude.{position, slice_get, IfSome, MatchOption, option_copied}
use Rattle.std.specs.List.{position_or_len, HoldsAt}
use Rattle.std.proofs.lemmas.Option.{slice_get_past, slice_get_read}

before-map : {A B : Type 0} (f : A → B) (test : B → Bool) (xs : List A) → position_or_len test (map f xs) ≡ position_or_len (λ x. test (f x)) xs
before-map f test [] = refl
before-map f test (x ∷ xs) = ap (λ (n : ℕ). cond (not (test (f x))) (1 + n) 0) (before-map f test xs)

length-map : {A B : Type 0} (f : A → B) (xs : List A) → length (map f xs) ≡ length xs
length-map f [] = refl
length-map f (x ∷ xs) = ap suc (length-map f xs)

pub position-map : {A B : Type 0} (f : A → B) (test : B → Bool) (xs : List A) → position test (map f xs) ≡ position (λ x. test (f x)) xs
position-map f test xs = rw (before-map f test xs, length-map f xs) refl

-- the number that a look-up finds
pub found_number : (o : Option (Bor ℕ)) (xs : List ℕ) (i : ℕ) → IfSome o (λ x. x.now ≡ get_or xs i x.now) → MatchOption o (length xs ≤ i) (λ x. (i < length xs) × HoldsAt (λ y. x.now ≡ y) xs i) → option_copied o ≡ slice_get xs i
found_number None xs i is past = sym (slice_get_past xs i past)
found_number (Some x) xs i is within = sym (slice_get_read xs (length xs) i x.now refl within.0 is)
