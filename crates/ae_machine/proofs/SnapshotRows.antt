-- Rows made of ascending keys are those of a snapshot.
use Rattle.std.specs.Prelude.{ℕ, List, [], ◌∷◌, Bool, true, false, T, ◌&&◌, map, Option}
use Rattle.std.specs.FinMap.Entries.{is_sorted, below_all}
use Rattle.std.specs.Ordering.{is_lt}
use Rattle.std.proofs.Common.{sym, subst}
use Rattle.ae_base.specs.Rows.{Rows, text_cmp}
use Rattle.ae_base.specs.Rows as base
use Rattle.ae_types.specs.Ordered.{Above, Ascends, itself}

pub both : (a b : Bool) → T a → T b → T (a && b)
both true b x y = y
both false b x y = x

module _ {A : Type 0} (key : A → List ℕ) (bytes : A → Option (List ℕ)) where
  abbrev pub rows_of : List A → Rows
  rows_of xs = map (λ x. (key x, bytes x)) xs

  below : (k : List ℕ) (xs : List A) → Above text_cmp key k xs → T (below_all text_cmp k (rows_of xs))
  below k [] a = tt
  below k (x ∷ xs) a = both (is_lt (text_cmp k (key x))) (below_all text_cmp k (rows_of xs)) (subst (λ o. T (is_lt o)) (sym a.0) tt) (below k xs a.1)

  pub rows-ascend : (xs : List A) → Ascends text_cmp key xs → base.Ascends (rows_of xs)
  rows-ascend [] a = tt
  rows-ascend (x ∷ xs) a = both (below_all text_cmp (key x) (rows_of xs)) (is_sorted text_cmp (rows_of xs)) (below (key x) xs a.0) (rows-ascend xs a.1)

under : (k : List ℕ) (rows : Rows) → Above text_cmp itself k (base.paths_of rows) → T (below_all text_cmp k rows)
under k [] a = tt
under k (row ∷ rows) a = both (is_lt (text_cmp k row.0)) (below_all text_cmp k rows) (subst (λ o. T (is_lt o)) (sym a.0) tt) (under k rows a.1)

-- and so do rows whose paths ascend
pub paths-ascend : (rows : Rows) → Ascends text_cmp itself (base.paths_of rows) → base.Ascends rows
paths-ascend [] a = tt
paths-ascend (row ∷ rows) a = both (below_all text_cmp row.0 rows) (is_sorted text_cmp rows) (under row.0 rows a.0) (paths-ascend rows a.1)
