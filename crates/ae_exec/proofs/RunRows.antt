-- The files of rows are read one after another.
use Rattle.std.specs.Prelude.{◌≡◌, ℕ, ◌+◌, ◌<◌, List, [], ◌∷◌, ◌++◌, take, length, Option, Some, All}
use Rattle.std.proofs.Common.{refl, sym, subst, ◌∙◌, get_or}
use Rattle.std.proofs.lemmas.List.{map_more}
use Rattle.std.proofs.lemmas.List.Elements.{All-get_or}
use Rattle.ae_base.specs.Rows.{Rows}
use Rattle.ae_outside.specs.Image.{Image}
use Rattle.ae_types.specs.Trees.{TreeRow}
use Rattle.ae_exec.specs.Bytes.{bytes_at, rows_at}
use Rattle.ae_exec.specs.Reading.{IsInside, versions_of}

pub rows-step : (row : TreeRow) (rows : List TreeRow) → versions_of (row ∷ rows) ≡ versions_of (row ∷ []) ++ versions_of rows
rows-step row rows = refl

pub row-more : (x y : Option Image) (rows : List TreeRow) (i : ℕ) (row : TreeRow) (old new : Rows) → i < length rows → row ≡ get_or rows i row → x ≡ y → old ≡ rows_at y (take i rows)
    → new ≡ old ++ rows_at x (row ∷ []) → new ≡ rows_at y (take (i + 1) rows)
row-more x y rows i row old new below is same so_far made =
    made ∙ (λ j. so_far j ++ rows_at (same j) (is j ∷ [])) ∙ sym (map_more (λ (r : TreeRow). (r.path, Some (bytes_at y r.version))) rows i row below)

pub one-inside : (rows : List TreeRow) (i : ℕ) (row : TreeRow) → i < length rows → row ≡ get_or rows i row → All (λ (row : TreeRow). IsInside row.version) rows → IsInside row.version
one-inside rows i row below is all = subst (λ (r : TreeRow). IsInside r.version) (sym is) (All-get_or (λ (row : TreeRow). IsInside row.version) rows i row below all)
