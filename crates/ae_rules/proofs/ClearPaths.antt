-- The tests of clashes go over the rows of the file table and the files of the change.
use Rattle.std.proofs.Common.{◌≡◌, ◌⊎◌, inl, inr, ℕ, refl, sym, ◌∙◌, ap, subst, List, [], ◌∷◌, ◌++◌, map, Option, Some, None, Bool, true, false, ◌&&◌, ◌||◌, not, if◌then◌else◌}
use Rattle.std.specs.Prelude.{is_some, nat_le}
use Rattle.std.specs.List.{list_all}
use Rattle.std.specs.Option.{option_map, option_and_then}
use Rattle.std.proofs.lemmas.Bool.{or_left, or_right, or_cases, not-true, false≢true, and_parts}
use Rattle.ae_base.specs.Names.{is_slash}
use Rattle.ae_types.specs.declared.change.Change.{Change}
use Rattle.ae_types.specs.declared.change.ChangeFile.{ChangeFile}
use Rattle.ae_types.specs.declared.file_table.FileRow.{FileRow}
use Rattle.ae_types.specs.declared.file_table.FileVersion.{FileVersion}
use Rattle.ae_types.specs.declared.version.VersionRef.{VersionRef}
use Rattle.ae_types.specs.Clashes.{has_path, none_clash, folders_of}
use Rattle.ae_types.specs.Found.{file_path, row_path, file_in, row_in, has_file}
use Rattle.ae_types.specs.Trees.{TreeRow, entry_row, unless_later, last_up_to, tree_row, frozen_row}
use Rattle.ae_types.proofs.Clashing.{has-in, in-has}
use Rattle.ae_types.proofs.Keys.{by_text}
use Rattle.ae_types.proofs.Members.{In, all-in, in-all}
use Rattle.ae_types.proofs.Ordered.{found-key}
use Rattle.ae_types.proofs.Searched.{found-in, in-found}
use Rattle.ae_types.proofs.Splits.{where-so, so-where, same-true}
use Rattle.ae_types.proofs.TreePaths.{tree-has, overlaid-has, frozen-some, stands, overlaid_stands}
use Rattle.ae_rules.specs.Overlay.{paths_over, AreOrdered, is_in, is_clear, row_is_clear, file_is_clear}

-- ---- the last entry of a past

-- whether the file stands after these entries, where it did or didn't before
abbrev pub stands_after : ℕ → Bool → List FileVersion → Bool
stands_after deltas there [] = there
stands_after deltas there (entry ∷ past) = stands_after deltas (if nat_le entry.delta deltas then is_some entry.version else there) past

abbrev of_last : Bool → Option FileVersion → Bool
of_last there None = there
of_last there (Some entry) = is_some entry.version

of-later : (there : Bool) (entry : FileVersion) (v : Option FileVersion) → of_last there (unless_later entry v) ≡ of_last (is_some entry.version) v
of-later there entry None = refl
of-later there entry (Some later) = refl

last-after : (deltas : ℕ) (there : Bool) (past : List FileVersion) → of_last there (last_up_to deltas past) ≡ stands_after deltas there past
last-after n there [] = refl
last-after n there (y ∷ ys) = go (nat_le y.delta n) (last-after n (is_some y.version) ys) (last-after n there ys)
  where
    go : (b : Bool) → of_last (is_some y.version) (last_up_to n ys) ≡ stands_after n (is_some y.version) ys → of_last there (last_up_to n ys) ≡ stands_after n there ys
        → of_last there (if b then unless_later y (last_up_to n ys) else last_up_to n ys) ≡ stands_after n (if b then is_some y.version else there) ys
    go true e f = of-later there y (last_up_to n ys) ∙ e
    go false e f = f

row-last : (row : FileRow) (v : Option FileVersion) → is_some (option_and_then (entry_row row.path) v) ≡ of_last false v
row-last row None = refl
row-last row (Some y) = go y.version
  where
    go : (v : Option VersionRef) → is_some {T = TreeRow} (option_map (λ version. record { path = row.path; usage = y.usage; version = version }) v) ≡ is_some v
    go (Some w) = refl
    go None = refl

pub row-stands : (deltas : ℕ) (row : FileRow) → is_some (tree_row deltas row) ≡ stands_after deltas false row.past
row-stands n row = row-last row (last_up_to n row.past) ∙ last-after n false row.past

-- ---- the folders of a path, from the front

abbrev pub folders_from : List ℕ → List ℕ → List (List ℕ)
folders_from front [] = []
folders_from front (b ∷ bs) = (if is_slash b then front ∷ [] else []) ++ folders_from (front ++ b ∷ []) bs

from-front : (front path : List ℕ) (t : List ℕ → Bool) → list_all t (map (λ folder. front ++ folder) (folders_of path)) ≡ list_all t (folders_from front path)
from-front front [] t = refl
from-front front (b ∷ bs) t = go (is_slash b) (from-front (front ++ b ∷ []) bs t)
  where
    shifted : (fs : List (List ℕ)) → map (λ folder. front ++ folder) (map (λ folder. b ∷ folder) fs) ≡ map (λ folder. (front ++ b ∷ []) ++ folder) fs
    shifted [] = refl
    shifted (f ∷ fs) = λ i. assoc front i ∷ shifted fs i
      where
        assoc : (front : List ℕ) → front ++ (b ∷ f) ≡ (front ++ b ∷ []) ++ f
        assoc [] = refl
        assoc (a ∷ front) = ap (λ xs. a ∷ xs) (assoc front)

    empty : (front : List ℕ) → front ++ [] ≡ front
    empty [] = refl
    empty (a ∷ front) = ap (λ xs. a ∷ xs) (empty front)

    go : (c : Bool) → list_all t (map (λ folder. (front ++ b ∷ []) ++ folder) (folders_of bs)) ≡ list_all t (folders_from (front ++ b ∷ []) bs)
        → list_all t (map (λ folder. front ++ folder) ((if c then [] ∷ [] else []) ++ map (λ folder. b ∷ folder) (folders_of bs))) ≡ list_all t ((if c then front ∷ [] else []) ++ folders_from (front ++ b ∷ []) bs)
    go true rest = λ i. t (empty front i) && (ap (list_all t) (shifted (folders_of bs)) ∙ rest) i
    go false rest = ap (list_all t) (shifted (folders_of bs)) ∙ rest

pub folders-front : (path : List ℕ) (t : List ℕ → Bool) → list_all t (folders_of path) ≡ list_all t (folders_from [] path)
folders-front path t = ap (list_all t) (sym (same (folders_of path))) ∙ from-front [] path t
  where
    same : (fs : List (List ℕ)) → map (λ folder. [] ++ folder) fs ≡ fs
    same [] = refl
    same (f ∷ fs) = ap (λ gs. f ∷ gs) (same fs)

-- ---- a path of the tree is that of a row or of a frozen file

abbrev pub stands_over : ℕ → List FileRow → Option Change → List ℕ → Bool
stands_over deltas rows None path = stands deltas rows path
stands_over deltas rows (Some change) path = overlaid_stands deltas rows change path

pub over-has : (deltas : ℕ) (rows : List FileRow) (change : Option Change) → AreOrdered rows change → (path : List ℕ) → has_path (paths_over deltas rows change) path ≡ stands_over deltas rows change path
over-has n rows None a path = tree-has n rows a.0 path
over-has n rows (Some x) a path = overlaid-has n rows x a.0 a.1 path

or3 : (a b c : Bool) → (a ≡ true → b ≡ false → c ≡ true) → (not a || b || c) ≡ true
or3 true true c h = refl
or3 true false c h = h refl refl
or3 false b c h = refl

in3 : (a b c : Bool) → (not a || b || c) ≡ true → a ≡ true → b ≡ false → c ≡ true
in3 a b c e is away = sym (λ i. not (is i) || away i || c) ∙ e

module _ (n : ℕ) (rows : List FileRow) where
  -- each path that stands is clear, said of rows and files
  row-clear : (change : Option Change) → AreOrdered rows change → none_clash (paths_over n rows change) ≡ true → (row : FileRow) → In rows row → row_is_clear n rows change row ≡ true
  row-clear change a e row m = or3 (is_some (tree_row n row)) (is_in change row.path) (is_clear (paths_over n rows change) row.path) (λ there out.
      all-in (is_clear (paths_over n rows change)) (paths_over n rows change) e row.path (has-in (paths_over n rows change) row.path (over-has n rows change a row.path ∙ stood change there out)))
    where
      at_row : stands n rows row.path ≡ is_some (tree_row n row)
      at_row = ap (λ v. is_some (option_and_then (tree_row n) v)) (in-found by_text row_path rows a.0 row m)

      stood : (change : Option Change) → is_some (tree_row n row) ≡ true → is_in change row.path ≡ false → stands_over n rows change row.path ≡ true
      stood None there out = at_row ∙ there
      stood (Some x) there out = or_right (is_some (option_and_then frozen_row (file_in x.files row.path))) (not (has_file x row.path) && stands n rows row.path) (ap (λ b. not b && stands n rows row.path) out ∙ at_row ∙ there)

  file-clear : (x : Change) → AreOrdered rows (Some x) → none_clash (paths_over n rows (Some x)) ≡ true → (file : ChangeFile) → In x.files file → file_is_clear n rows x file ≡ true
  file-clear x a e file m = so-where (is_some file.frozen) (is_clear (paths_over n rows (Some x)) file.path) (λ there.
      all-in (is_clear (paths_over n rows (Some x))) (paths_over n rows (Some x)) e file.path (has-in (paths_over n rows (Some x)) file.path (over-has n rows (Some x) a file.path
      ∙ or_left (is_some (option_and_then frozen_row (file_in x.files file.path))) (not (has_file x file.path) && stands n rows file.path)
      (ap (λ v. is_some (option_and_then frozen_row v)) (in-found by_text file_path x.files a.1 file m) ∙ frozen-some file ∙ there))))

  -- a path that stands is that of such a row or file
  abbrev clear_in : Option Change → List ℕ → Bool
  clear_in change path = is_clear (paths_over n rows change) path

  row-path : (change : Option Change) → list_all (row_is_clear n rows change) rows ≡ true → (path : List ℕ) → stands n rows path ≡ true → is_in change path ≡ false → clear_in change path ≡ true
  row-path change e path there out = go (row_in rows path) refl there
    where
      go : (v : Option FileRow) → row_in rows path ≡ v → is_some (option_and_then (tree_row n) v) ≡ true → clear_in change path ≡ true
      go (Some row) is there =
          let same : row.path ≡ path = found-key by_text row_path path rows row is in
          subst (λ q. clear_in change q ≡ true) same (in3 (is_some (tree_row n row)) (is_in change row.path) (clear_in change row.path)
          (all-in (row_is_clear n rows change) rows e row (found-in by_text row_path rows path row is)) there (ap (is_in change) same ∙ out))
      go None is there = absurd (false≢true there)

  file-path : (x : Change) → list_all (file_is_clear n rows x) x.files ≡ true → (path : List ℕ) → is_some (option_and_then frozen_row (file_in x.files path)) ≡ true → clear_in (Some x) path ≡ true
  file-path x e path there = go (file_in x.files path) refl there
    where
      go : (v : Option ChangeFile) → file_in x.files path ≡ v → is_some (option_and_then frozen_row v) ≡ true → clear_in (Some x) path ≡ true
      go (Some file) is there = subst (λ q. clear_in (Some x) q ≡ true) (found-key by_text file_path path x.files file is)
          (where-so (is_some file.frozen) (clear_in (Some x) file.path) (all-in (file_is_clear n rows x) x.files e file (found-in by_text file_path x.files path file is)) (sym (frozen-some file) ∙ there))
      go None is there = absurd (false≢true there)

  pub clear-tree : AreOrdered rows None → none_clash (paths_over n rows None) ≡ list_all (row_is_clear n rows None) rows
  clear-tree a = same-true (none_clash (paths_over n rows None)) (list_all (row_is_clear n rows None) rows)
      (λ e. in-all (row_is_clear n rows None) rows (λ row m. row-clear None a e row m))
      (λ e. in-all (clear_in None) (paths_over n rows None) (λ path m. row-path None e path (sym (over-has n rows None a path) ∙ in-has (paths_over n rows None) path m) refl))

  pub clear-candidate : (x : Change) → AreOrdered rows (Some x) → none_clash (paths_over n rows (Some x)) ≡ (list_all (row_is_clear n rows (Some x)) rows && list_all (file_is_clear n rows x) x.files)
  clear-candidate x a = same-true (none_clash (paths_over n rows (Some x))) (list_all (row_is_clear n rows (Some x)) rows && list_all (file_is_clear n rows x) x.files)
      (λ e i. in-all (row_is_clear n rows (Some x)) rows (λ row m. row-clear (Some x) a e row m) i && in-all (file_is_clear n rows x) x.files (λ file m. file-clear x a e file m) i)
      (λ e. let p = and_parts (list_all (row_is_clear n rows (Some x)) rows) (list_all (file_is_clear n rows x) x.files) e in
      in-all (clear_in (Some x)) (paths_over n rows (Some x)) (λ path m.
      go p.0 p.1 path (or_cases (is_some (option_and_then frozen_row (file_in x.files path))) (not (has_file x path) && stands n rows path) (sym (over-has n rows (Some x) a path) ∙ in-has (paths_over n rows (Some x)) path m))))
    where
      go : list_all (row_is_clear n rows (Some x)) rows ≡ true → list_all (file_is_clear n rows x) x.files ≡ true → (path : List ℕ)
          → (is_some (option_and_then frozen_row (file_in x.files path)) ≡ true) ⊎ ((not (has_file x path) && stands n rows path) ≡ true) → clear_in (Some x) path ≡ true
      go rs fs path (inl there) = file-path x fs path there
      go rs fs path (inr there) = let p = and_parts (not (has_file x path)) (stands n rows path) there in row-path (Some x) rs path p.1 (not-true (has_file x path) p.0)

-- ---- as the code asks

or-false : (b : Bool) → (b || false) ≡ b
or-false true = refl
or-false false = refl

module _ (n : ℕ) (rows : List FileRow) (path : List ℕ) where
  pub there-file : (change : Option Change) (x : Change) (file : ChangeFile) → change ≡ Some x → AreOrdered rows change → file_in x.files path ≡ Some file → is_some file.frozen ≡ has_path (paths_over n rows change) path
  there-file change x file e a found = sym (over-has n rows change a path ∙ ap (λ v. stands_over n rows v path) e
      ∙ ap (λ v. is_some (option_and_then frozen_row v) || (not (is_some v) && stands n rows path)) found ∙ or-false (is_some (frozen_row file)) ∙ frozen-some file)

  pub there-row : (change : Option Change) (x : Change) → change ≡ Some x → AreOrdered rows change → file_in x.files path ≡ None → stands n rows path ≡ has_path (paths_over n rows change) path
  there-row change x e a found = sym (over-has n rows change a path ∙ ap (λ v. stands_over n rows v path) e
      ∙ ap (λ v. is_some (option_and_then frozen_row v) || (not (is_some v) && stands n rows path)) found)

  pub there-tree : (change : Option Change) → change ≡ None → AreOrdered rows change → stands n rows path ≡ has_path (paths_over n rows change) path
  there-tree change e a = sym (over-has n rows change a path ∙ ap (λ v. stands_over n rows v path) e)

-- the files of the change are clear
abbrev pub files_clear : ℕ → List FileRow → Option Change → Bool
files_clear deltas rows None = true
files_clear deltas rows (Some change) = list_all (file_is_clear deltas rows change) change.files

and-true : (b : Bool) → b ≡ (b && true)
and-true true = refl
and-true false = refl

pub clear-over : (deltas : ℕ) (rows : List FileRow) (change : Option Change) → AreOrdered rows change → none_clash (paths_over deltas rows change) ≡ (list_all (row_is_clear deltas rows change) rows && files_clear deltas rows change)
clear-over n rows None a = clear-tree n rows a ∙ and-true (list_all (row_is_clear n rows None) rows)
clear-over n rows (Some x) a = clear-candidate n rows x a

pub clash-row : (deltas : ℕ) (rows : List FileRow) (change : Option Change) → AreOrdered rows change → list_all (row_is_clear deltas rows change) rows ≡ false → none_clash (paths_over deltas rows change) ≡ false
clash-row n rows change a e = clear-over n rows change a ∙ ap (λ b. b && files_clear n rows change) e

pub clash-files : (deltas : ℕ) (rows : List FileRow) (change : Option Change) (v : Option Change) → change ≡ v → AreOrdered rows change → list_all (row_is_clear deltas rows change) rows ≡ true → none_clash (paths_over deltas rows change) ≡ files_clear deltas rows v
clash-files n rows change v is a e = clear-over n rows change a ∙ ap (λ b. b && files_clear n rows change) e ∙ ap (files_clear n rows) is
