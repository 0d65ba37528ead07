-- Versions without units share none, and the versions of one row more.
use Rattle.std.proofs.Common.{◌≡◌, ℕ, ◌+◌, ◌<◌, sym, refl, ◌∙◌, ap, List, [], ◌∷◌, ◌++◌, Option, Some, None, Bool, true, false, cond, ◌&&◌, ◌||◌, not, get_or, take}
use Rattle.std.specs.Prelude.{length, nat_lt, filter}
use Rattle.std.specs.Option.{option_to_list}
use Rattle.std.specs.List.{list_any, list_all, filter_map}
use Rattle.std.proofs.lemmas.List.{take_more}
use Rattle.std.proofs.lemmas.List.Elements.{filter_map-append}
use Rattle.ae_types.specs.declared.version.VersionRef.{VersionRef}
use Rattle.ae_types.specs.Versions.{has_units, end_of, meet, no_two}
use Rattle.ae_types.proofs.RulesTogether.{meet-swaps}

meets-none : (v w : VersionRef) → has_units v ≡ false → meet v w ≡ false
meets-none v w e = ap (λ b. b && has_units w && nat_lt v.at (end_of w) && nat_lt w.at (end_of v)) e

none-meets : (v w : VersionRef) → has_units w ≡ false → meet v w ≡ false
none-meets v w e = meet-swaps v w ∙ meets-none w v e

any-with : (v : VersionRef) (xs : List VersionRef) → list_any (meet v) (filter has_units xs) ≡ list_any (meet v) xs
any-with v [] = refl
any-with v (x ∷ xs) = go (has_units x) refl (any-with v xs)
  where
    go : (b : Bool) → has_units x ≡ b → list_any (meet v) (filter has_units xs) ≡ list_any (meet v) xs → list_any (meet v) (cond b (x ∷ filter has_units xs) (filter has_units xs)) ≡ (meet v x || list_any (meet v) xs)
    go true e rest = ap (λ b. meet v x || b) rest
    go false e rest = rest ∙ sym (ap (λ b. b || list_any (meet v) xs) (none-meets v x e))

any-none : (v : VersionRef) (xs : List VersionRef) → has_units v ≡ false → list_any (meet v) xs ≡ false
any-none v [] e = refl
any-none v (x ∷ xs) e = λ i. meets-none v x e i || any-none v xs e i

pub meet-with : (xs : List VersionRef) → no_two meet (filter has_units xs) ≡ no_two meet xs
meet-with [] = refl
meet-with (x ∷ xs) = go (has_units x) refl (meet-with xs)
  where
    go : (b : Bool) → has_units x ≡ b → no_two meet (filter has_units xs) ≡ no_two meet xs → no_two meet (cond b (x ∷ filter has_units xs) (filter has_units xs)) ≡ (not (list_any (meet x) xs) && no_two meet xs)
    go true e rest = λ i. not (any-with x xs i) && rest i
    go false e rest = rest ∙ sym (ap (λ b. not b && no_two meet xs) (any-none x xs e))

pub all-with : (xs : List VersionRef) → list_all has_units (filter has_units xs) ≡ true
all-with [] = refl
all-with (x ∷ xs) = go (has_units x) refl (all-with xs)
  where
    go : (b : Bool) → has_units x ≡ b → list_all has_units (filter has_units xs) ≡ true → list_all has_units (cond b (x ∷ filter has_units xs) (filter has_units xs)) ≡ true
    go true e rest = λ i. e i && rest i
    go false e rest = rest

-- ---- one row more

pub some-more : {A B : Type 0} (f : A → Option B) (xs : List A) (i : ℕ) (x : A) → i < length xs → x ≡ get_or xs i x → filter_map f (take (i + 1) xs) ≡ filter_map f (take i xs) ++ option_to_list (f x)
some-more {A} {B} f xs i x h is = ap (filter_map f) (take_more xs i x h) ∙ filter_map-append f (take i xs) (get_or xs i x ∷ []) ∙ ap (λ y. filter_map f (take i xs) ++ filter_map f (y ∷ [])) (sym is) ∙ ap (λ ys. filter_map f (take i xs) ++ ys) (one (f x))
  where
    one : (v : Option B) → Rattle.std.specs.List.cons_option v [] ≡ option_to_list v
    one None = refl
    one (Some w) = refl
