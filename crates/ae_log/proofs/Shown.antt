-- Which paths of a frozen tree have a version.
use Rattle.std.proofs.Common.{◌≡◌, ℕ, ◌+◌, ◌≤◌, refl, ap, List, [], ◌∷◌, Option, Some, None, Bool, true, false, cond, arith, not}
use Rattle.std.specs.Prelude.{length, is_some}
use Rattle.std.specs.List.{find}
use Rattle.std.specs.Str.{bytes_eq}
use Rattle.std.proofs.lemmas.Option.{same_Some}
use Rattle.ae_base.specs.Rows.{Rows}
use Rattle.ae_types.specs.declared.change.ChangeFile.{ChangeFile}
use Rattle.ae_types.specs.Found.{file_in}
use Rattle.ae_types.specs.Phases.{is_remove}
use Rattle.ae_types.proofs.Ordered.{none-some}
use Rattle.ae_types.specs.Frozen.{numbered, present, frozen_file, version_of, other_places}
use Rattle.ae_types.proofs.Numbered.{frozen_at, new_version, version_at}
use Rattle.ae_log.specs.Applies.{tree_shape, files_shape}

-- a path of a shape that isn't removed
pub shown : Option (List ℕ × Bool) → Bool
shown (Some row) = not row.1
shown None = false

pub version-shown : (n : ℕ) (tree : Rows) (places : List ℕ) (p : List ℕ) → is_some (version_at n tree places p) ≡ shown (find (λ (row : List ℕ × Bool). bytes_eq p row.0) (tree_shape tree))
unfolding shown
version-shown n [] places p = refl
version-shown n ((q, None) ∷ rows) places p = go (bytes_eq p q) (version-shown n rows places p)
  where
    go : (b : Bool) → is_some (version_at n rows places p) ≡ shown (find (λ (row : List ℕ × Bool). bytes_eq p row.0) (tree_shape rows))
        → is_some (version_of (cond b (Some (frozen_at q None)) (frozen_file (numbered n rows places) p))) ≡ shown (cond b (Some (q, true)) (find (λ (row : List ℕ × Bool). bytes_eq p row.0) (tree_shape rows)))
    go true r = refl
    go false r = r
version-shown n ((q, Some bytes) ∷ rows) places p = go (bytes_eq p q) (version-shown (n + 1) rows (other_places places) p)
  where
    go : (b : Bool) → is_some (version_at (n + 1) rows (other_places places) p) ≡ shown (find (λ (row : List ℕ × Bool). bytes_eq p row.0) (tree_shape rows))
        → is_some (version_of (cond b (Some (frozen_at q (Some (new_version n places bytes)))) (frozen_file (numbered (n + 1) rows (other_places places)) p)))
        ≡ shown (cond b (Some (q, false)) (find (λ (row : List ℕ × Bool). bytes_eq p row.0) (tree_shape rows)))
    go true r = refl
    go false r = r

pub files-shown : (fs : List ChangeFile) (p : List ℕ) (f : ChangeFile) → file_in fs p ≡ Some f → shown (find (λ (row : List ℕ × Bool). bytes_eq p row.0) (files_shape fs)) ≡ not (is_remove f.action)
unfolding shown
files-shown [] p f e = none-some f e
files-shown (g ∷ fs) p f e = go (bytes_eq p g.path) e (files-shown fs p f)
  where
    go : (b : Bool) → cond b (Some g) (file_in fs p) ≡ Some f → (file_in fs p ≡ Some f → shown (find (λ (row : List ℕ × Bool). bytes_eq p row.0) (files_shape fs)) ≡ not (is_remove f.action))
        → shown (cond b (Some (g.path, is_remove g.action)) (find (λ (row : List ℕ × Bool). bytes_eq p row.0) (files_shape fs))) ≡ not (is_remove f.action)
    go true e rest = ap (λ (k : ChangeFile). not (is_remove k.action)) (same_Some g f e)
    go false e rest = rest e

pub present-few : (tree : Rows) → length (present tree) ≤ length (tree_shape tree)
present-few [] = omega arith
present-few ((q, None) ∷ rows) = let r = present-few rows in omega (arith, r)
present-few ((q, Some bytes) ∷ rows) = let r = present-few rows in omega (arith, r)
