-- What the definitions that put row after row make is what the rules say.
use Rattle.std.specs.Prelude.{◌≡◌, ℕ, Bool, true, false, ◌&&◌, ◌||◌, not, List, [], ◌∷◌, map, filter, Option, Some, None, is_some}
use Rattle.std.specs.List.{find, list_any, filter_map}
use Rattle.std.specs.Option.{option_map, option_and_then, option_or}
use Rattle.std.specs.Str.{bytes_eq}
use Rattle.std.specs.FinMap.Entries.{by_order}
use Rattle.std.specs.declared.cmp.Ordering.{Ordering}
use Rattle.std.specs.declared.cmp.Ordering.TheVariants.{Less, Equal, Greater}
use Rattle.std.proofs.Common.{refl, sym, ap, subst, ◌∙◌, cond}
use Rattle.ae_files.proofs.Laid.{puts-ascend}
use Rattle.ae_base.specs.Rows.{Row, Rows, put_row, text_cmp}
use Rattle.ae_types.specs.declared.change.Change.{Change}
use Rattle.ae_types.specs.declared.change.ChangeFile.{ChangeFile}
use Rattle.ae_types.specs.Clashes.{has_path}
use Rattle.ae_types.specs.Found.{file_path, row_path, file_in, has_file}
use Rattle.ae_types.specs.Ordered.{put_by, itself}
use Rattle.ae_types.specs.Phases.{is_remove, is_integrating}
use Rattle.ae_types.specs.Runs.{tests_of}
use Rattle.ae_types.specs.Trees.{TreeRow, tree_path, frozen_row, baseline_of, candidate_of, paths_of}
use Rattle.ae_types.proofs.Keys.{by_text}
use Rattle.ae_types.proofs.Ordered.{Above, Ascends, at, at-above, at-filter, at-put, at-rows, filter-ascends, found-key, if_so, put-ascends, rows-ascend}
use Rattle.ae_types.proofs.TreePaths.{has-at}
use Rattle.ae_log.proofs.PassedTree.{frozen_own, at-put_rows}
use Rattle.ae_machine.specs.declared.view.View.{View}
use Rattle.ae_machine.specs.Call.{Call, Given}
use Rattle.ae_machine.specs.Rules.{PathsWithRule, PathsEverRule, CandidateRule, BaseTreeRule, there_by, row_by, path_of_row, bytes_row_at, row_with_bytes, is_test_read, row_of_base}
use Rattle.ae_files.specs.InTree.{row_at}
use Rattle.ae_machine.specs.Sight.{with_bytes, kept_paths, read_at, tree_read, paths_read, overlaid, only_tests, base_tree}
use Rattle.ae_evidence.specs.Directories.{bytes_of}
use Rattle.ae_machine.proofs.PathsThere.{keys-has, paths-by, with-has}
use Rattle.ae_machine.proofs.PathsUp.{baseline-up, keys-up, paths-with-ascend, with-up}

-- ---- the paths that the project would have, and those that it has or had

pub paths-with-rule : PathsWithRule
paths-with-rule o files table a = record {
  there = λ path. paths-by o files path a ∙ ap (there_by (file_in files path)) (has-at (baseline_of o) path);
  ascend = paths-with-ascend o files table;
}

pub paths-ever-rule : PathsEverRule
paths-ever-rule o change table = record {
  there = λ path.
      with-has (map file_path change.files) (map row_path o.files) path ∙ (λ i. keys-has file_path change.files path i || keys-has row_path o.files path i);
  ascend = with-up (map file_path change.files) (map row_path o.files) (keys-up row_path o.files table);
}

-- ---- the candidate

or-none : (v : Option TreeRow) → option_or v None ≡ v
or-none (Some row) = refl
or-none None = refl

abbrev outside : Change → TreeRow → Bool
outside change row = not (has_file change row.path)

-- the change's row, or what is left of the baseline's
by-file : (change : Change) (path : List ℕ) (f : Option ChangeFile) → file_in change.files path ≡ f → (r : Option TreeRow) → ((row : TreeRow) → r ≡ Some row → tree_path row ≡ path)
    → option_or (option_and_then frozen_row f) (if_so by_text tree_path (outside change) r) ≡ row_by f r
by-file change path (Some file) e (Some row) own =
    ap (λ b. option_or (frozen_row file) (cond (not b) (Some row) None)) (ap (has_file change) (own row refl) ∙ ap (λ (v : Option ChangeFile). is_some v) e) ∙ or-none (frozen_row file)
by-file change path (Some file) e None own = or-none (frozen_row file)
by-file change path None e (Some row) own = ap (λ b. cond (not b) (Some row) None) (ap (has_file change) (own row refl) ∙ ap (λ (v : Option ChangeFile). is_some v) e)
by-file change path None e None own = refl

pub candidate-rule : CandidateRule
candidate-rule o change table a = record {
  rows = λ path.
      at-put_rows (filter_map frozen_row change.files) (filter (outside change) (baseline_of o)) path (rows-ascend by_text file_path tree_path frozen_row frozen_own change.files a)
      ∙ (λ i. option_or (at-rows by_text file_path tree_path frozen_row frozen_own path change.files a i) (at-filter by_text tree_path (outside change) path (baseline_of o) (baseline-up o table) i))
      ∙ by-file change path (file_in change.files path) refl (row_at (baseline_of o) path) (found-key by_text tree_path path (baseline_of o));
  ascend = puts-ascend (filter_map frozen_row change.files) (filter (outside change) (baseline_of o)) (filter-ascends by_text tree_path (outside change) (baseline_of o) (baseline-up o table));
}

-- ---- rows with bytes, one over another

pub put-is : (path : List ℕ) (bytes : Option (List ℕ)) (rows : Rows) → put_row path bytes rows ≡ put_by text_cmp path_of_row (path, bytes) rows
put-is path bytes [] = refl
put-is path bytes (row ∷ rows) = go (text_cmp path row.0) refl (put-is path bytes rows)
  where
    go : (r : Ordering) → text_cmp path row.0 ≡ r → put_row path bytes rows ≡ put_by text_cmp path_of_row (path, bytes) rows
        → by_order r ((path, bytes) ∷ row ∷ rows) ((row.0, bytes) ∷ rows) (row ∷ put_row path bytes rows) ≡ by_order r ((path, bytes) ∷ row ∷ rows) ((path, bytes) ∷ rows) (row ∷ put_by text_cmp path_of_row (path, bytes) rows)
    go Less e rest = refl
    go Equal e rest = ap (λ (p : List ℕ). (p, bytes) ∷ rows) (sym (by_text.anti path row.0 e))
    go Greater e rest = ap (λ (rs : Rows). row ∷ rs) rest

at-overlaid : (tree rows : Rows) (path : List ℕ) → Ascends by_text path_of_row rows → at by_text path_of_row path (overlaid tree rows) ≡ option_or (at by_text path_of_row path rows) (at by_text path_of_row path tree)
at-overlaid tree [] path a = refl
at-overlaid tree (row ∷ rows) path a =
    at-overlaid (put_row row.0 row.1 tree) rows path a.1
    ∙ ap (λ (rs : Rows). option_or (at by_text path_of_row path rows) (at by_text path_of_row path rs)) (put-is row.0 row.1 tree)
    ∙ ap (option_or (at by_text path_of_row path rows)) (at-put by_text path_of_row path row tree)
    ∙ go (bytes_eq path row.0) refl
  where
    go : (b : Bool) → bytes_eq path row.0 ≡ b → option_or (at by_text path_of_row path rows) (cond b (Some row) (at by_text path_of_row path tree)) ≡ option_or (cond b (Some row) (at by_text path_of_row path rows)) (at by_text path_of_row path tree)
    go true e = ap (λ (v : Option Row). option_or v (Some row)) (at-above by_text path_of_row path rows (subst (λ p. Above by_text path_of_row p rows) (sym (by_text.same_is path row.0 e)) a.0))
    go false e = refl

pub overlaid-up : (tree rows : Rows) → Ascends by_text path_of_row tree → Ascends by_text path_of_row (overlaid tree rows)
overlaid-up tree [] a = a
overlaid-up tree (row ∷ rows) a =
    overlaid-up (put_row row.0 row.1 tree) rows (subst (λ (rs : Rows). Ascends by_text path_of_row rs) (sym (put-is row.0 row.1 tree)) (put-ascends by_text path_of_row row tree a))

-- ---- what was read, and the baseline with its bytes

abbrev row_read : View → List ℕ → Row
row_read view path = (path, bytes_of (read_at view path))

at-read : (view : View) (paths : List (List ℕ)) (path : List ℕ) → at by_text path_of_row path (map (row_read view) paths) ≡ cond (has_path paths path) (Some (row_read view path)) None
at-read view [] path = refl
at-read view (p ∷ paths) path = go (bytes_eq path p) refl (at-read view paths path)
  where
    go : (b : Bool) → bytes_eq path p ≡ b → at by_text path_of_row path (map (row_read view) paths) ≡ cond (has_path paths path) (Some (row_read view path)) None
        → cond b (Some (row_read view p)) (at by_text path_of_row path (map (row_read view) paths)) ≡ cond (is_some (cond b (Some p) (find (λ other. bytes_eq path other) paths))) (Some (row_read view path)) None
    go true e rest = ap (λ q. Some (row_read view q)) (sym (by_text.same_is path p e))
    go false e rest = rest

above-read : (view : View) (k : List ℕ) (paths : List (List ℕ)) → Above by_text itself k paths → Above by_text path_of_row k (map (row_read view) paths)
above-read view k [] a = tt
above-read view k (p ∷ paths) a = (a.0, above-read view k paths a.1)

read-up : (view : View) (paths : List (List ℕ)) → Ascends by_text itself paths → Ascends by_text path_of_row (map (row_read view) paths)
read-up view [] a = tt
read-up view (p ∷ paths) a = (above-read view p paths a.0, read-up view paths a.1)

at-bytes : (bytes : ℕ → List ℕ) (rows : List TreeRow) (path : List ℕ) → at by_text path_of_row path (with_bytes bytes rows) ≡ option_map (row_with_bytes bytes) (row_at rows path)
at-bytes bytes [] path = refl
at-bytes bytes (row ∷ rows) path = go (bytes_eq path row.path) (at-bytes bytes rows path)
  where
    go : (b : Bool) → at by_text path_of_row path (with_bytes bytes rows) ≡ option_map (row_with_bytes bytes) (row_at rows path)
        → cond b (Some (row_with_bytes bytes row)) (at by_text path_of_row path (with_bytes bytes rows)) ≡ option_map (row_with_bytes bytes) (cond b (Some row) (row_at rows path))
    go true rest = refl
    go false rest = rest

pub above-bytes : (bytes : ℕ → List ℕ) (k : List ℕ) (rows : List TreeRow) → Above by_text tree_path k rows → Above by_text path_of_row k (with_bytes bytes rows)
above-bytes bytes k [] a = tt
above-bytes bytes k (row ∷ rows) a = (a.0, above-bytes bytes k rows a.1)

pub bytes-up : (bytes : ℕ → List ℕ) (rows : List TreeRow) → Ascends by_text tree_path rows → Ascends by_text path_of_row (with_bytes bytes rows)
bytes-up bytes [] a = tt
bytes-up bytes (row ∷ rows) a = (above-bytes bytes row.path rows a.0, bytes-up bytes rows a.1)

-- ---- the tree that tests on the baseline run on

-- the paths that are read ascend
paths-read-up : (call : Call) (change : Change) → Ascends by_text row_path call.stands.files → Ascends by_text file_path change.files → Ascends by_text itself (paths_read call change)
paths-read-up call change table a = go (is_integrating change.phase)
  where
    go : (b : Bool) → Ascends by_text itself (cond b (paths_of (candidate_of call.stands change)) (kept_paths change))
    go true = keys-up tree_path (candidate_of call.stands change) ((candidate-rule call.stands change table a).ascend)
    go false = keys-up file_path (filter (λ (file : ChangeFile). not (is_remove file.action)) change.files) (filter-ascends by_text file_path (λ (file : ChangeFile). not (is_remove file.action)) change.files a)

abbrev of_tests : Change → Row → Bool
of_tests change row = list_any (bytes_eq row.0) (tests_of change)

-- what was read of a path that is a test
test-row : (change : Change) (row : Row) (b : Bool) → if_so by_text path_of_row (of_tests change) (cond b (Some row) None) ≡ cond (b && of_tests change row) (Some row) None
test-row change row true = refl
test-row change row false = refl

first-row : (b : Bool) (row : Row) (below : Option Row) → option_or (cond b (Some row) None) below ≡ cond b (Some row) below
first-row true row below = refl
first-row false row below = refl

module _ (given : Given) (change : Change) (table : Ascends by_text row_path given.call.stands.files) (a : Ascends by_text file_path change.files) where
  abbrev paths : List (List ℕ)
  paths = paths_read given.call change

  abbrev read : Rows
  read = tree_read given change

  abbrev below : Rows
  below = with_bytes given.bytes (baseline_of given.call.stands)

  abbrev from_baseline : List ℕ → Option Row
  from_baseline path = option_map (row_with_bytes given.bytes) (row_at (baseline_of given.call.stands) path)

  read-ascends : Ascends by_text path_of_row read
  read-ascends = read-up given.view paths (paths-read-up given.call change table a)

  base-row : (path : List ℕ) → bytes_row_at (base_tree given change) path ≡ row_of_base given change path
  base-row path =
      at-overlaid below (only_tests change read) path (filter-ascends by_text path_of_row (of_tests change) read read-ascends)
      ∙ (λ i. option_or (at-filter by_text path_of_row (of_tests change) path read read-ascends i) (at-bytes given.bytes (baseline_of given.call.stands) path i))
      ∙ ap (λ (v : Option Row). option_or (if_so by_text path_of_row (of_tests change) v) (from_baseline path)) (at-read given.view paths path)
      ∙ ap (λ (v : Option Row). option_or v (from_baseline path)) (test-row change (row_read given.view path) (has_path paths path))
      ∙ first-row (is_test_read given.call change path) (row_read given.view path) (from_baseline path)

  base-ascends : Ascends by_text path_of_row (base_tree given change)
  base-ascends = overlaid-up below (only_tests change read) (bytes-up given.bytes (baseline_of given.call.stands) (baseline-up given.call.stands table))

pub base-tree-rule : BaseTreeRule
base-tree-rule given change table a = record { rows = base-row given change table a; ascend = base-ascends given change table a }
