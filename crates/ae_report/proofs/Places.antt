-- The rows from a place on.
use Rattle.std.proofs.Common.{◌≡◌, ℕ, zero, suc, ◌+◌, ◌<◌, ◌≤◌, ◌∙◌, List, [], ◌∷◌, ◌++◌, map, length, drop, refl, sym, ap, arith}
use Rattle.std.specs.Prelude.{true, false, Option, Some, None, is_some, slice_get}
use Rattle.std.specs.List.{filter_map, flat_map, cons_option}
use Rattle.std.specs.Option.{option_map, option_and_then, unwrap_or}
use Rattle.std.proofs.lemmas.List.{drop_all}
use Rattle.ae_types.specs.declared.change.Change.{Change}
use Rattle.ae_report.specs.Rows.{Row, no_row}
use Rattle.ae_report.specs.Frames.{parts_from}

suc-more : (i : ℕ) → suc i + 1 ≡ suc (i + 1)
suc-more i = omega arith

-- ---- a row for each of a list

pub map-goes : {X : Type 0} (f : X → Row) (xs : List X) (i : ℕ) → i < length xs → map f (drop i xs) ≡ unwrap_or (option_map f (slice_get xs i)) no_row ∷ map f (drop (i + 1) xs)
map-goes f [] i h = absurd (omega (arith, h))
map-goes f (x ∷ xs) zero h = refl
map-goes f (x ∷ xs) (suc i) h =
    map-goes f xs i (omega (arith, h)) ∙ ap (λ (n : ℕ). unwrap_or (option_map f (slice_get xs i)) no_row ∷ map f (drop n (x ∷ xs))) (sym (suc-more i))

pub map-ends : {X : Type 0} (f : X → Row) (xs : List X) (i : ℕ) → length xs ≤ i → map f (drop i xs) ≡ []
map-ends f xs i h = ap (map f) (drop_all i xs h)

-- ---- a row for some of a list

-- where there is one for this
pub filter-goes : {X : Type 0} (f : X → Option Row) (xs : List X) (i : ℕ) (x : X) → slice_get xs i ≡ Some x → is_some (f x) ≡ true
    → filter_map f (drop i xs) ≡ unwrap_or (option_and_then f (slice_get xs i)) no_row ∷ filter_map f (drop (i + 1) xs)
filter-goes f [] i x is there = let no : None ≡ Some x = is in cc
filter-goes f (y ∷ xs) zero x is there = let same : y ≡ x = cc in go (f y) (ap (λ z. is_some (f z)) same ∙ there)
  where
    go : (r : Option Row) → is_some r ≡ true → cons_option r (filter_map f xs) ≡ unwrap_or r no_row ∷ filter_map f xs
    go (Some r) h = refl
    go None h = cc
filter-goes f (y ∷ xs) (suc i) x is there =
    filter-goes f xs i x is there ∙ ap (λ (n : ℕ). unwrap_or (option_and_then f (slice_get xs i)) no_row ∷ filter_map f (drop n (y ∷ xs))) (sym (suc-more i))

-- where there is none
pub filter-passes : {X : Type 0} (f : X → Option Row) (xs : List X) (i : ℕ) (x : X) → slice_get xs i ≡ Some x → is_some (f x) ≡ false → filter_map f (drop i xs) ≡ filter_map f (drop (i + 1) xs)
filter-passes f [] i x is there = let no : None ≡ Some x = is in cc
filter-passes f (y ∷ xs) zero x is there = let same : y ≡ x = cc in go (f y) (ap (λ z. is_some (f z)) same ∙ there)
  where
    go : (r : Option Row) → is_some r ≡ false → cons_option r (filter_map f xs) ≡ filter_map f xs
    go (Some r) h = cc
    go None h = refl
filter-passes f (y ∷ xs) (suc i) x is there = filter-passes f xs i x is there ∙ ap (λ (n : ℕ). filter_map f (drop n (y ∷ xs))) (sym (suc-more i))

pub filter-ends : {X : Type 0} (f : X → Option Row) (xs : List X) (i : ℕ) → length xs ≤ i → filter_map f (drop i xs) ≡ []
filter-ends f xs i h = ap (filter_map f) (drop_all i xs h)

-- ---- rows of changes

pub all-parts : (rows_of : Change → List Row) (cs : List Change) → parts_from rows_of 0 cs ≡ flat_map rows_of cs
all-parts rows_of [] = refl
all-parts rows_of (c ∷ cs) = refl

-- a place in a list, and what follows
front-goes : (rs more : List Row) (w : ℕ) → w < length rs → drop w rs ++ more ≡ unwrap_or (slice_get rs w) no_row ∷ (drop (w + 1) rs ++ more)
front-goes [] more w h = absurd (omega (arith, h))
front-goes (r ∷ rs) more zero h = refl
front-goes (r ∷ rs) more (suc w) h =
    front-goes rs more w (omega (arith, h)) ∙ ap (λ (n : ℕ). unwrap_or (slice_get rs w) no_row ∷ (drop n (r ∷ rs) ++ more)) (sym (suc-more w))

-- a change with a row there
pub parts-go : (rows_of : Change → List Row) (cs : List Change) (i w : ℕ) (c : Change) → slice_get cs i ≡ Some c → w < length (rows_of c)
    → parts_from rows_of w (drop i cs) ≡ unwrap_or (option_and_then (λ (d : Change). slice_get (rows_of d) w) (slice_get cs i)) no_row ∷ parts_from rows_of (w + 1) (drop i cs)
parts-go rows_of [] i w c is h = let no : None ≡ Some c = is in cc
parts-go rows_of (d ∷ cs) zero w c is h =
    let same : d ≡ c = cc in front-goes (rows_of d) (flat_map rows_of cs) w (let e : length (rows_of d) ≡ length (rows_of c) = ap (λ (x : Change). length (rows_of x)) same in omega (arith, e, h))
parts-go rows_of (d ∷ cs) (suc i) w c is h = parts-go rows_of cs i w c is h

-- one without
pub parts-pass : (rows_of : Change → List Row) (cs : List Change) (i w : ℕ) (c : Change) → slice_get cs i ≡ Some c → length (rows_of c) ≤ w
    → parts_from rows_of w (drop i cs) ≡ parts_from rows_of 0 (drop (i + 1) cs)
parts-pass rows_of [] i w c is h = let no : None ≡ Some c = is in cc
parts-pass rows_of (d ∷ cs) zero w c is h =
    let same : d ≡ c = cc in
    let e : length (rows_of d) ≡ length (rows_of c) = ap (λ (x : Change). length (rows_of x)) same in
    ap (λ (rs : List Row). rs ++ flat_map rows_of cs) (drop_all w (rows_of d) (omega (arith, e, h))) ∙ sym (all-parts rows_of cs)
parts-pass rows_of (d ∷ cs) (suc i) w c is h = parts-pass rows_of cs i w c is h ∙ ap (λ (n : ℕ). parts_from rows_of 0 (drop n (d ∷ cs))) (sym (suc-more i))

pub parts-end : (rows_of : Change → List Row) (cs : List Change) (i w : ℕ) → length cs ≤ i → parts_from rows_of w (drop i cs) ≡ []
parts-end rows_of cs i w h = ap (parts_from rows_of w) (drop_all i cs h)
