-- Whether the trunk takes what a branch brings, row by row.
use Rattle.std.specs.Prelude.{◌≡◌, ◌+◌, ◌<◌, ◌≤◌, ℕ, Bool, true, false, not, if◌then◌else◌, List, [], ◌∷◌, map, drop, length, nat_eq, nat_le, Option, Some, None, Ok, Err}
use Rattle.std.specs.List.{find}
use Rattle.std.specs.Option.{option_map}
use Rattle.std.proofs.Common.{refl, sym, ap, ◌∙◌, arith}
use Rattle.std.proofs.Math.ListN.{get_or}
use Rattle.std.proofs.lemmas.Bool.Decides.{nat_tests}
use Rattle.std.proofs.lemmas.List.{drop_more, drop_all}
use Rattle.ae_base.specs.declared.outcome.Outcome.TheVariants as outcome
use Rattle.ae_base.specs.declared.refusal.Refusal.{Refusal}
use Rattle.ae_base.specs.declared.refusal.Refusal.TheVariants.{OutOfDate}
use Rattle.ae_types.specs.Observation.{Observation}
use Rattle.ae_types.specs.Trees.{edit_of, last_delta}
use Rattle.ae_dist.specs.declared.rows.Row.{Row}
use Rattle.ae_dist.specs.Sending.{or_refuses, path_of_row}
use Rattle.ae_branch.specs.Finish.{HasDelta, edit_at, is_out_of_date, refuses_paths}
use Rattle.ae_branch.specs.Origin.{origin_file}

-- ---- paths

-- the first of these paths, and then the others
pub first_path : (o : Observation) (delta : ℕ) (path : List ℕ) (paths : List (List ℕ)) → refuses_paths o delta (path ∷ paths) ≡ or_refuses (refuses_paths o delta (path ∷ [])) (refuses_paths o delta paths)
first_path o delta path paths = go (is_out_of_date o delta path)
  where
    go : (late : Bool) → option_map (λ (p : List ℕ). OutOfDate p (edit_at o delta p) (edit_of o p)) (if late then Some path else find (is_out_of_date o delta) paths)
        ≡ or_refuses (option_map (λ (p : List ℕ). OutOfDate p (edit_at o delta p) (edit_of o p)) (if late then Some path else None)) (refuses_paths o delta paths)
    go true = refl
    go false = refl

module _ (o : Observation) (delta : ℕ) (rows : List Row) (i : ℕ) where
  abbrev rest_refuses : ℕ → Option Refusal
  rest_refuses n = refuses_paths o delta (map path_of_row (drop n rows))

  next_row : (row : Row) → i < length rows → row ≡ get_or rows i row → rest_refuses i ≡ or_refuses (refuses_paths o delta (row.path ∷ [])) (rest_refuses (i + 1))
  next_row row below is =
      let at : drop i rows ≡ row ∷ drop (i + 1) rows = drop_more rows i row below ∙ ap (λ (r : Row). r ∷ drop (i + 1) rows) (sym is) in
      ap (λ (r : List Row). refuses_paths o delta (map path_of_row r)) at ∙ first_path o delta row.path (map path_of_row (drop (i + 1) rows))

  -- the next row is taken, or refused
  pub row_taken : (row : Row) → i < length rows → row ≡ get_or rows i row → refuses_paths o delta (row.path ∷ []) ≡ None → rest_refuses (i + 1) ≡ rest_refuses i
  row_taken row below is free = sym (next_row row below is ∙ ap (λ (r : Option Refusal). or_refuses r (rest_refuses (i + 1))) free)

  pub row_refused : (row : Row) (refusal : Refusal) → i < length rows → row ≡ get_or rows i row → refuses_paths o delta (row.path ∷ []) ≡ Some refusal → rest_refuses i ≡ Some refusal
  row_refused row refusal below is why = next_row row below is ∙ ap (λ (r : Option Refusal). or_refuses r (rest_refuses (i + 1))) why

  -- none is left
  pub rows_end : length rows ≤ i → rest_refuses i ≡ None
  rows_end all = ap (λ (r : List Row). refuses_paths o delta (map path_of_row r)) (drop_all i rows all)

-- one path
pub path_same : (o : Observation) (delta : ℕ) (path : List ℕ) → edit_at o delta path ≡ edit_of o path → refuses_paths o delta (path ∷ []) ≡ None
path_same o delta path same =
    let fits : is_out_of_date o delta path ≡ false = ap (λ (n : ℕ). not (nat_eq n (edit_of o path))) same ∙ ap not (self (edit_of o path)) in
    ap (λ (late : Bool). option_map (λ (p : List ℕ). OutOfDate p (edit_at o delta p) (edit_of o p)) (if late then Some path else None)) fits
  where
    self : (n : ℕ) → nat_eq n n ≡ true
    self n = grind (arith, nat_tests)

pub path_differs : (o : Observation) (delta : ℕ) (path : List ℕ) → (edit_at o delta path ≡ edit_of o path → ⊥) → refuses_paths o delta (path ∷ []) ≡ Some (OutOfDate path (edit_at o delta path) (edit_of o path))
path_differs o delta path differs =
    ap (λ (late : Bool). option_map (λ (p : List ℕ). OutOfDate p (edit_at o delta p) (edit_of o p)) (if late then Some path else None)) (ap not (apart (edit_at o delta path) (edit_of o path) differs))
  where
    apart : (m n : ℕ) → (m ≡ n → ⊥) → nat_eq m n ≡ false
    apart m n other = grind (arith, nat_tests)

-- ---- the delta

pub delta_there : (o : Observation) (delta : ℕ) → nat_le delta (last_delta o) ≡ true → HasDelta o delta (Ok tt)
delta_there o delta is = sym (ap (λ (b : Bool). if b then Ok tt else Err (outcome.Damaged origin_file)) is)

pub delta_missing : (o : Observation) (delta : ℕ) → nat_le delta (last_delta o) ≡ false → HasDelta o delta (Err (outcome.Damaged origin_file))
delta_missing o delta is = sym (ap (λ (b : Bool). if b then Ok tt else Err (outcome.Damaged origin_file)) is)
