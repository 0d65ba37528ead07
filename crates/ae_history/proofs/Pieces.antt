-- Pieces at places that are given one after another.
use Rattle.std.proofs.Common.{◌≡◌, ℕ, ◌≤◌, List, [], ◌∷◌, ◌++◌, sym, ◌∙◌, ap, refl}
use Rattle.std.specs.Option.{option_to_list}
use Rattle.std.specs.Prelude.{Some, None, All}
use Rattle.std.proofs.lemmas.List.Elements.{All-tail}
use Rattle.ae_base.specs.Rows.{Row, Rows}
use Rattle.ae_vault.specs.declared.piece.Piece.{Piece}
use Rattle.ae_types.specs.Frozen.{present, other_places}
use Rattle.ae_history.specs.Placing.{pieces_at}

pub low-others : (places : List ℕ) → All (λ at. at ≤ 16777216) places → All (λ at. at ≤ 16777216) (other_places places)
low-others [] low = low
low-others (place ∷ places) low = All-tail (λ at. at ≤ 16777216) place places low

-- the bytes of a tree are those of its first row, if it has some, and those of the others
pub first-row : (row : Row) (rows : Rows) → present (row ∷ rows) ≡ option_to_list row.1 ++ present rows
first-row (path, None) rows = refl
first-row (path, Some bytes) rows = refl

-- the pieces before a row and of its bytes, with those of the rows after it
pub row-more : (rows rest : Rows) (row : Row) (places others : List ℕ) (before after all : List Piece) → rows ≡ row ∷ rest
    → before ++ pieces_at places (present rows) ≡ all
    → ((more : List (List ℕ)) → after ++ pieces_at others more ≡ before ++ pieces_at places (option_to_list row.1 ++ more))
    → after ++ pieces_at others (present rest) ≡ all
row-more rows rest row places others before after all is so_far one =
    one (present rest)
    ∙ ap (λ more. before ++ pieces_at places more) (sym (first-row row rest))
    ∙ ap (λ (r : Rows). before ++ pieces_at places (present r)) (sym is)
    ∙ so_far
