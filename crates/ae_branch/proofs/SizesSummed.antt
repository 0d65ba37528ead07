-- The sizes of rows that are added up, one after another.
use Rattle.std.specs.Prelude.{◌≡◌, ℕ, ◌+◌, ◌<◌, ◌≤◌, List, ◌∷◌, length, drop}
use Rattle.std.proofs.Common.{sym, ap, ◌∙◌, arith}
use Rattle.std.proofs.Math.ListN.{get_or}
use Rattle.std.proofs.lemmas.List.{drop_all, drop_more}
use Rattle.ae_dist.specs.declared.rows.Row.{Row}
use Rattle.ae_dist.specs.Sending.{size_of, sizes_of}

-- the next one is added
pub sum_next : (rows : List Row) (i sum next : ℕ) (row : Row) → i < length rows → row ≡ get_or rows i row → next ≡ sum + size_of row → sum + sizes_of (drop i rows) ≡ sizes_of rows → next + sizes_of (drop (i + 1) rows) ≡ sizes_of rows
sum_next rows i sum next row below is added so_far =
    let first : sizes_of (drop i rows) ≡ size_of row + sizes_of (drop (i + 1) rows) = ap sizes_of (drop_more rows i row below ∙ ap (λ (r : Row). r ∷ drop (i + 1) rows) (sym is)) in
    omega (arith, first, added, so_far)

-- there is none left
pub sum_all : (rows : List Row) (i sum : ℕ) → length rows ≤ i → sum + sizes_of (drop i rows) ≡ sizes_of rows → sum ≡ sizes_of rows
sum_all rows i sum all so_far =
    let none : sizes_of (drop i rows) ≡ 0 = ap sizes_of (drop_all i rows all) in
    omega (arith, none, so_far)
