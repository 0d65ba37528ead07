-- Which paths stand in a tree and in a candidate.
use Rattle.std.proofs.Common.{◌≡◌, ℕ, refl, sym, ◌∙◌, ap, List, [], ◌∷◌, Option, Some, None, Bool, true, false, cond, ◌&&◌, ◌||◌, not}
use Rattle.std.specs.Prelude.{filter, is_some}
use Rattle.std.specs.List.{find, filter_map}
use Rattle.std.specs.Option.{option_map, option_and_then}
use Rattle.std.specs.Str.{bytes_eq}
use Rattle.std.proofs.lemmas.Option.{same_Some}
use Rattle.ae_types.specs.declared.change.Change.{Change}
use Rattle.ae_types.specs.declared.change.ChangeFile.{ChangeFile}
use Rattle.ae_types.specs.declared.file_table.FileRow.{FileRow}
use Rattle.ae_types.specs.declared.file_table.FileVersion.{FileVersion}
use Rattle.ae_types.specs.declared.version.VersionRef.{VersionRef}
use Rattle.ae_types.specs.Clashes.{has_path}
use Rattle.ae_types.specs.Found.{file_path, row_path, file_in, row_in, has_file}
use Rattle.ae_types.specs.Ordered.{put_by}
use Rattle.ae_types.specs.Trees.{TreeRow, tree_path, entry_row, last_up_to, tree_row, tree_at, frozen_row, put_rows, overlaid, paths_of}
use Rattle.ae_base.specs.Rows.{text_cmp}
use Rattle.ae_types.proofs.Keys.{by_text}
use Rattle.ae_types.proofs.Ordered.{Ascends, at, at-put, at-rows, none-some}

pub has-at : (rows : List TreeRow) (path : List ℕ) → has_path (paths_of rows) path ≡ is_some (at by_text tree_path path rows)
has-at [] path = refl
has-at (row ∷ rows) path = go (bytes_eq path row.path) (has-at rows path)
  where
    go : (b : Bool) → has_path (paths_of rows) path ≡ is_some (at by_text tree_path path rows) → is_some (cond b (Some row.path) (find (λ other. bytes_eq path other) (paths_of rows))) ≡ is_some (cond b (Some row) (at by_text tree_path path rows))
    go true rest = refl
    go false rest = rest

-- ---- the files at a delta

pub entry-path : (path : List ℕ) (entry : FileVersion) (row : TreeRow) → entry_row path entry ≡ Some row → row.path ≡ path
entry-path path entry row e = go entry.version e
  where
    go : (v : Option VersionRef) → option_map (λ version. record { path = path; usage = entry.usage; version = version }) v ≡ Some row → row.path ≡ path
    go (Some w) e = sym (ap tree_path (same_Some (record { path = path; usage = entry.usage; version = w }) row e))
    go None e = none-some row e

pub tree-path : (deltas : ℕ) (row : FileRow) (made : TreeRow) → tree_row deltas row ≡ Some made → made.path ≡ row.path
tree-path n row made e = go (last_up_to n row.past) e
  where
    go : (v : Option FileVersion) → option_and_then (entry_row row.path) v ≡ Some made → made.path ≡ row.path
    go (Some y) e = entry-path row.path y made e
    go None e = none-some made e

abbrev pub stands : ℕ → List FileRow → List ℕ → Bool
stands deltas rows path = is_some (option_and_then (tree_row deltas) (row_in rows path))

pub tree-has : (deltas : ℕ) (rows : List FileRow) → Ascends by_text row_path rows → (path : List ℕ) → has_path (paths_of (tree_at deltas rows)) path ≡ stands deltas rows path
tree-has n rows up path = has-at (tree_at n rows) path ∙ ap (λ v. is_some v) (at-rows by_text row_path tree_path (tree_row n) (tree-path n) path rows up)

-- ---- the candidate

pub frozen-path : (file : ChangeFile) (made : TreeRow) → frozen_row file ≡ Some made → made.path ≡ file.path
frozen-path file made e = go file.frozen e
  where
    go : (v : Option VersionRef) → option_map (λ version. record { path = file.path; usage = file.usage; version = version }) v ≡ Some made → made.path ≡ file.path
    go (Some w) e = sym (ap tree_path (same_Some (record { path = file.path; usage = file.usage; version = w }) made e))
    go None e = none-some made e

pub frozen-some : (file : ChangeFile) → is_some (frozen_row file) ≡ is_some file.frozen
frozen-some file = go file.frozen
  where
    go : (v : Option VersionRef) → is_some {T = TreeRow} (option_map (λ version. record { path = file.path; usage = file.usage; version = version }) v) ≡ is_some v
    go (Some w) = refl
    go None = refl

abbrev found : List ℕ → List TreeRow → Bool
found path rows = is_some (at by_text tree_path path rows)

some-cond : (b : Bool) (row : TreeRow) (v : Option TreeRow) → is_some (cond b (Some row) v) ≡ (b || is_some v)
some-cond true row v = refl
some-cond false row v = refl

put-found : (path : List ℕ) (more rows : List TreeRow) → found path (put_rows more rows) ≡ (found path more || found path rows)
put-found path [] rows = refl
put-found path (row ∷ more) rows =
    put-found path more (put_by text_cmp tree_path row rows)
    ∙ ap (λ v. found path more || is_some v) (at-put by_text tree_path path row rows)
    ∙ go (bytes_eq path row.path) (found path more) (at by_text tree_path path rows)
    ∙ ap (λ b. b || found path rows) (sym (some-cond (bytes_eq path row.path) row (at by_text tree_path path more)))
  where
    go : (b m : Bool) (v : Option TreeRow) → (m || is_some (cond b (Some row) v)) ≡ (b || m || is_some v)
    go true true v = refl
    go true false v = refl
    go false true v = refl
    go false false v = refl

filter-found : (change : Change) (path : List ℕ) (rows : List TreeRow) → found path (filter (λ (row : TreeRow). not (has_file change row.path)) rows) ≡ (not (has_file change path) && found path rows)
filter-found change path [] = none (not (has_file change path))
  where
    none : (b : Bool) → false ≡ (b && false)
    none true = refl
    none false = refl
filter-found change path (row ∷ rows) = go (bytes_eq path row.path) refl (not (has_file change row.path)) refl (filter-found change path rows)
  where
    go : (b : Bool) → bytes_eq path row.path ≡ b → (c : Bool) → not (has_file change row.path) ≡ c
        → found path (filter (λ (row : TreeRow). not (has_file change row.path)) rows) ≡ (not (has_file change path) && found path rows)
        → found path (cond c (row ∷ filter (λ (row : TreeRow). not (has_file change row.path)) rows) (filter (λ (row : TreeRow). not (has_file change row.path)) rows)) ≡ (not (has_file change path) && is_some (cond b (Some row) (at by_text tree_path path rows)))
    go true is true e rest = ap (λ b. is_some (cond b (Some row) (at by_text tree_path path (filter (λ (row : TreeRow). not (has_file change row.path)) rows)))) is
        ∙ sym (ap (λ b. b && true) (ap (λ p. not (has_file change p)) (by_text.same_is path row.path is) ∙ e))
    go true is false e rest = rest ∙ ap (λ b. b && found path rows) away ∙ sym (ap (λ b. b && true) away)
      where
        away : not (has_file change path) ≡ false
        away = ap (λ p. not (has_file change p)) (by_text.same_is path row.path is) ∙ e
    go false is true e rest = ap (λ b. is_some (cond b (Some row) (at by_text tree_path path (filter (λ (row : TreeRow). not (has_file change row.path)) rows)))) is ∙ rest
    go false is false e rest = rest

-- the path has a frozen file in the change, or isn't in it and stands in the tree
abbrev pub overlaid_stands : ℕ → List FileRow → Change → List ℕ → Bool
overlaid_stands deltas rows change path = is_some (option_and_then frozen_row (file_in change.files path)) || (not (has_file change path) && stands deltas rows path)

pub overlaid-has : (deltas : ℕ) (rows : List FileRow) (change : Change) → Ascends by_text row_path rows → Ascends by_text file_path change.files → (path : List ℕ)
    → has_path (paths_of (overlaid (tree_at deltas rows) change)) path ≡ overlaid_stands deltas rows change path
overlaid-has n rows x up files path =
    has-at (overlaid (tree_at n rows) x) path
    ∙ put-found path (filter_map frozen_row x.files) (filter (λ (row : TreeRow). not (has_file x row.path)) (tree_at n rows))
    ∙ ap (λ v. is_some v || found path (filter (λ (row : TreeRow). not (has_file x row.path)) (tree_at n rows))) (at-rows by_text file_path tree_path frozen_row frozen-path path x.files files)
    ∙ ap (λ b. is_some (option_and_then frozen_row (file_in x.files path)) || b) (filter-found x path (tree_at n rows))
    ∙ ap (λ b. is_some (option_and_then frozen_row (file_in x.files path)) || (not (has_file x path) && b)) (sym (has-at (tree_at n rows) path) ∙ tree-has n rows up path)
