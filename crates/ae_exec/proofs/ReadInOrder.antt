-- Versions that are read one after another.
use Rattle.std.specs.Prelude.{◌≡◌, ℕ, ◌+◌, ◌<◌, List, [], ◌∷◌, ◌++◌, Option, Some, None, drop, length}
use Rattle.std.specs.List.{cons_option}
use Rattle.std.specs.Option.{option_map}
use Rattle.std.proofs.Common.{refl, sym, ◌∙◌, ap, subst}
use Rattle.std.proofs.Math.ListN.{get_or}
use Rattle.std.proofs.lemmas.List.{drop_more}
use Rattle.ae_outside.specs.Image.{Image}
use Rattle.ae_types.specs.declared.file_table.FileRow.{FileRow}
use Rattle.ae_types.specs.declared.version.VersionRef.{VersionRef}
use Rattle.ae_types.specs.Trees.{TreeRow, tree_at, tree_row}
use Rattle.ae_files.specs.InTree.{row_at}
use Rattle.ae_exec.specs.Bytes.{row_version}
use Rattle.ae_exec.specs.Reading.{AreKept, FirstIsLost, here, later, versions_at, versions_of}

module _ (x : Option Image) where
  pub kept-append : (a b : List VersionRef) → AreKept x a → AreKept x b → AreKept x (a ++ b)
  kept-append [] b first second = second
  kept-append (v ∷ a) b first second = (first.0, kept-append a b first.1 second)

  pub lost-left : (a b : List VersionRef) → FirstIsLost x a → FirstIsLost x (a ++ b)
  lost-left _ b (here v a other) = here v (a ++ b) other
  lost-left _ b (later v a kept lost) = later v (a ++ b) kept (lost-left a b lost)

  pub lost-right : (a b : List VersionRef) → AreKept x a → FirstIsLost x b → FirstIsLost x (a ++ b)
  lost-right [] b kept lost = lost
  lost-right (v ∷ a) b kept lost = later v (a ++ b) kept.0 (lost-right a b kept.1 lost)

  -- none is lost where all are kept
  pub kept-not-lost : (a : List VersionRef) → AreKept x a → FirstIsLost x a → ⊥
  kept-not-lost _ kept (here v a other) = other kept.0
  kept-not-lost _ kept (later v a is lost) = kept-not-lost a kept.1 lost

  -- ---- one item after another

  module _ {A : Type 0} (read : List A → List VersionRef) (one : A → List VersionRef) (step : (item : A) (items : List A) → read (item ∷ items) ≡ one item ++ read items) where
    next : (items : List A) (i : ℕ) (item : A) → i < length items → item ≡ get_or items i item → read (drop i items) ≡ one item ++ read (drop (i + 1) items)
    next items i item below is =
        ap read (drop_more items i item below) ∙ ap (λ (y : A). read (y ∷ drop (i + 1) items)) (sym is) ∙ step item (drop (i + 1) items)

    pub kept-next : (items : List A) (i : ℕ) (item : A) → i < length items → item ≡ get_or items i item → (AreKept x (read (drop i items)) → AreKept x (read items)) → AreKept x (one item)
        → AreKept x (read (drop (i + 1) items)) → AreKept x (read items)
    kept-next items i item below is before kept rest = before (subst (AreKept x) (sym (next items i item below is)) (kept-append (one item) (read (drop (i + 1) items)) kept rest))

    pub lost-next : (items : List A) (i : ℕ) (item : A) → i < length items → item ≡ get_or items i item → (FirstIsLost x (read (drop i items)) → FirstIsLost x (read items)) → AreKept x (one item)
        → FirstIsLost x (read (drop (i + 1) items)) → FirstIsLost x (read items)
    lost-next items i item below is before kept rest = before (subst (FirstIsLost x) (sym (next items i item below is)) (lost-right (one item) (read (drop (i + 1) items)) kept rest))

    pub lost-now : (items : List A) (i : ℕ) (item : A) → i < length items → item ≡ get_or items i item → (FirstIsLost x (read (drop i items)) → FirstIsLost x (read items)) → FirstIsLost x (one item)
        → FirstIsLost x (read items)
    lost-now items i item below is before lost = before (subst (FirstIsLost x) (sym (next items i item below is)) (lost-left (one item) (read (drop (i + 1) items)) lost))

-- ---- the rows of a tree, and paths

pub tree-step : (delta : ℕ) (row : FileRow) (rows : List FileRow) → versions_of (tree_at delta (row ∷ rows)) ≡ versions_of (cons_option (tree_row delta row) []) ++ versions_of (tree_at delta rows)
tree-step delta row rows = go (tree_row delta row)
  where
    go : (r : Option TreeRow) → versions_of (cons_option r (tree_at delta rows)) ≡ versions_of (cons_option r []) ++ versions_of (tree_at delta rows)
    go (Some r) = refl
    go None = refl

pub paths-step : (tree : List TreeRow) (path : List ℕ) (paths : List (List ℕ)) → versions_at tree (path ∷ paths) ≡ versions_at tree (path ∷ []) ++ versions_at tree paths
paths-step tree path paths = go (option_map row_version (row_at tree path))
  where
    go : (v : Option VersionRef) → cons_option v (versions_at tree paths) ≡ cons_option v [] ++ versions_at tree paths
    go (Some v) = refl
    go None = refl
