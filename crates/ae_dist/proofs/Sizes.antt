-- The rows of a change whose sizes are added up.
use Rattle.std.proofs.Common.{◌≡◌, ℕ, ◌+◌, ◌<◌, ◌≤◌, Bool, true, false, ◌&&◌, List, [], ◌∷◌, ◌++◌, map, length, drop, take, get_or, sym, ap, ◌∙◌, arith}
use Rattle.std.specs.Prelude.{nat_le}
use Rattle.std.specs.List.{list_all}
use Rattle.std.proofs.lemmas.List.{drop_more, drop_all, map-append, take_more}
use Rattle.std.proofs.lemmas.Bool.{and_parts, leb-true}
use Rattle.ae_base.specs.Limits.{most_frozen_bytes}
use Rattle.ae_base.specs.declared.words.Action.{Action}
use Rattle.ae_base.specs.declared.words.Action.TheVariants.{Create, Modify, Remove}
use Rattle.ae_bundle.specs.Bundled.{most_bytes_of, is_config}
use Rattle.std.specs.Str.{bytes_eq}
use Rattle.ae_types.specs.Rules.{same_bool}
use Rattle.std.specs.Prelude.{codes}
use Rattle.ae_dist.specs.declared.rows.Row.{Row}
use Rattle.ae_dist.specs.Sending.{row_fits, size_of, sizes_of}

-- each fits, and with so many bytes before them they are within the limit
abbrev pub fit_from : ℕ → List Row → Bool
fit_from sum rows = list_all row_fits rows && nat_le (sum + sizes_of rows) most_frozen_bytes

-- the next one fits
pub fit_next : (rows : List Row) (i sum next : ℕ) (row : Row) → i < length rows → row ≡ get_or rows i row → row_fits row ≡ true → next ≡ sum + size_of row
    → fit_from next (drop (i + 1) rows) ≡ fit_from sum (drop i rows)
fit_next rows i sum next row below is fits made =
    let at : drop i rows ≡ row ∷ drop (i + 1) rows = drop_more rows i row below ∙ ap (λ (r : Row). r ∷ drop (i + 1) rows) (sym is) in
    let added : next + sizes_of (drop (i + 1) rows) ≡ sum + (size_of row + sizes_of (drop (i + 1) rows)) = omega (arith, made) in
    ap (λ (n : ℕ). list_all row_fits (drop (i + 1) rows) && nat_le n most_frozen_bytes) added
    ∙ sym (ap (λ (b : Bool). (b && list_all row_fits (drop (i + 1) rows)) && nat_le (sum + (size_of row + sizes_of (drop (i + 1) rows))) most_frozen_bytes) fits)
    ∙ sym (ap (fit_from sum) at)

-- the next one doesn't
pub fit_not : (rows : List Row) (i sum : ℕ) (row : Row) → i < length rows → row ≡ get_or rows i row → row_fits row ≡ false → false ≡ fit_from sum (drop i rows)
fit_not rows i sum row below is not =
    let at : drop i rows ≡ row ∷ drop (i + 1) rows = drop_more rows i row below ∙ ap (λ (r : Row). r ∷ drop (i + 1) rows) (sym is) in
    sym (ap (λ (b : Bool). (b && list_all row_fits (drop (i + 1) rows)) && nat_le (sum + (size_of row + sizes_of (drop (i + 1) rows))) most_frozen_bytes) not)
    ∙ sym (ap (fit_from sum) at)

-- there is none left
pub fit_end : (rows : List Row) (i sum : ℕ) → length rows ≤ i → nat_le sum most_frozen_bytes ≡ fit_from sum (drop i rows)
fit_end rows i sum all =
    let none : sum ≡ sum + 0 = omega arith in
    ap (λ (n : ℕ). nat_le n most_frozen_bytes) none ∙ sym (ap (fit_from sum) (drop_all i rows all))

most_of_any : (action : Action) → most_bytes_of action ≤ 4194304
most_of_any Create = omega arith
most_of_any Modify = omega arith
most_of_any Remove = omega arith

-- one that fits is no longer than a file may be
pub size_below : (row : Row) → row_fits row ≡ true → size_of row ≤ 4194304
size_below row fits =
    let within : size_of row ≤ most_bytes_of row.action = leb-true (size_of row) (most_bytes_of row.action) (and_parts (same_bool (is_config row.usage) (bytes_eq row.path (codes "aegis.conf"))) (nat_le (size_of row) (most_bytes_of row.action)) fits).1 in
    omega (arith, within, most_of_any row.action)

-- nothing is before the first
pub fit_zero : (rows : List Row) → fit_from 0 rows ≡ (list_all row_fits rows && nat_le (sizes_of rows) most_frozen_bytes)
fit_zero rows = let same : 0 + sizes_of rows ≡ sizes_of rows = omega arith in ap (λ (n : ℕ). list_all row_fits rows && nat_le n most_frozen_bytes) same

-- what is made of the items up to the next
pub map_next : {A B : Type 0} (f : A → B) (xs : List A) (i : ℕ) (x : A) (old new : List B) → i < length xs → x ≡ get_or xs i x → old ≡ map f (take i xs) → new ≡ old ++ f x ∷ [] → new ≡ map f (take (i + 1) xs)
map_next f xs i x old new below is was made =
    made ∙ ap (λ ys. ys ++ f x ∷ []) was ∙ ap (λ y. map f (take i xs) ++ f y ∷ []) is ∙ sym (map-append f (take i xs) (get_or xs i x ∷ [])) ∙ sym (ap (map f) (take_more xs i x below))
