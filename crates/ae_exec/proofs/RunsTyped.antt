-- What a build or a test sees is of its types: the paths that stand are paths and ascend, and its runs are of bytes.
use Rattle.std.specs.Prelude.{◌≡◌, ◌⊎◌, ℕ, Bool, true, false, not, ◌&&◌, nat_le, if◌then◌else◌, List, [], ◌∷◌, map, filter, length, All, Option, Some, None, IfSome}
use Rattle.std.specs.List.{list_any}
use Rattle.std.specs.FinMap.Entries.{by_order}
use Rattle.std.specs.declared.cmp.Ordering.{Ordering}
use Rattle.std.specs.declared.cmp.Ordering.TheVariants as ordering
use Rattle.std.specs.Str.{bytes_eq}
use Rattle.std.proofs.Common.{refl, sym, subst, inl, inr}
use Rattle.std.proofs.lemmas.List.Elements.{All-cons, All-head, All-nil, All-tail}
use Rattle.ae_machine.proofs.PathsUp.{keys-up}
use Rattle.ae_base.specs.Bytes.{AreBytes}
use Rattle.ae_base.specs.Names.{IsPath}
use Rattle.ae_base.specs.Rows.{Row, Rows, paths_of, put_row, text_cmp}
use Rattle.ae_base.specs.declared.words.Kind.{Kind}
use Rattle.ae_base.specs.declared.words.Kind.TheVariants as kind
use Rattle.ae_outside.specs.Site.{RunMade}
use Rattle.ae_outside.specs.Trees.{Tree, parts, within}
use Rattle.ae_types.specs.declared.change.Change.{Change}
use Rattle.ae_types.specs.declared.change.ChangeFile.{ChangeFile}
use Rattle.ae_types.specs.Found.{file_path, has_file, row_path}
use Rattle.ae_types.specs.Observation.{Observation}
use Rattle.ae_types.specs.Phases.{is_integrating, is_remove, is_test}
use Rattle.ae_types.specs.Runs.{Needed, needed, regression_tests, tests_of}
use Rattle.ae_types.specs.Trees.{TreeRow, baseline_of, candidate_of, last_delta, tree_path, tree_row}
use Rattle.ae_types.proofs.Keys.{by_text}
use Rattle.ae_types.proofs.Members.{In, in-map, map-in, some-in}
use Rattle.ae_types.proofs.Ordered.{filter-ascends}
use Rattle.ae_log.proofs.PassedTree.{tree_own}
use Rattle.ae_words.specs.declared.table.Function.{Function}
use Rattle.ae_words.specs.declared.table.Function.TheVariants as function
use Rattle.ae_machine.specs.Call.{Call, Given}
use Rattle.ae_machine.specs.Called.{row_of, rows_of}
use Rattle.ae_machine.specs.Rules.{FilesAscend, PathsAscend, TableAscends}
use Rattle.ae_machine.specs.Runs.{group, group_of, kind_of, test_kind, tests_asked, tracked, tracked_by}
use Rattle.ae_machine.specs.Sight.{base_tree, kept_paths, only_tests, overlaid, paths_read, read_at, tree_read, with_bytes}
use Rattle.ae_evidence.specs.Directories.{bytes_of}
use Rattle.ae_machine.specs.Typed.{AreTrackedFiles, IsRun, IsTrackedFile}
use Rattle.ae_machine.proofs.Lists.{all-members, filter-in}
use Rattle.ae_dirs.specs.Runs.{AreByteRuns, HasBytes, IsByteRun}
use Rattle.ae_exec.proofs.RowsUp.{base-up, candidate-up, paths-ascend}

abbrev pub ArePathsAll : List (List ℕ) → Type 0
ArePathsAll paths = (path : List ℕ) → In paths path → IsPath path

of-all : (paths : List (List ℕ)) → All IsPath paths → ArePathsAll paths
of-all paths all path there = all-members IsPath paths all path there

-- ---- the tests

of-change : (change : Change) → ArePathsAll (map file_path change.files) → ArePathsAll (tests_of change)
of-change change files path there =
    let made = map-in (λ (file : ChangeFile). file.path) (filter (λ (file : ChangeFile). is_test file.usage && not (is_remove file.action)) change.files) path there in
    let from = filter-in (λ (file : ChangeFile). is_test file.usage && not (is_remove file.action)) change.files made.0 made.1 in
    files path (subst (In (map file_path change.files)) made.2 (in-map file_path change.files made.0 from.0))

-- a file of the baseline has a row in the table
of-baseline : (o : Observation) → ArePathsAll (map row_path o.files) → (row : TreeRow) → In (baseline_of o) row → IsPath row.path
of-baseline o table row there =
    let from = some-in (tree_row (last_delta o)) o.files row there in
    subst IsPath (sym (tree_own (last_delta o) from.0 row from.2)) (table (row_path from.0) (in-map row_path o.files from.0 from.1))

of-regression : (o : Observation) (change : Change) → ArePathsAll (map row_path o.files) → ArePathsAll (regression_tests o change)
of-regression o change table path there =
    let made = map-in (λ (row : TreeRow). row.path) (filter (λ (row : TreeRow). is_test row.usage && not (has_file change row.path)) (baseline_of o)) path there in
    let from = filter-in (λ (row : TreeRow). is_test row.usage && not (has_file change row.path)) (baseline_of o) made.0 made.1 in
    subst IsPath made.2 (of-baseline o table made.0 from.0)

-- the runs that are asked for are of paths
abbrev pub AreNeeded : List Needed → Type 0
AreNeeded [] = Unit {0}
AreNeeded (run ∷ runs) = IfSome run.path IsPath × AreNeeded runs

of-tests : (k : Kind) (paths : List (List ℕ)) → ArePathsAll paths → AreNeeded (map (needed k) paths)
of-tests k [] are = tt
of-tests k (path ∷ paths) are = (are path (inl refl), of-tests k paths (λ p there. are p (inr there)))

pub of-group : (call : Call) (change : Change) → ArePathsAll (map row_path call.stands.files) → ArePathsAll (map file_path change.files) → AreNeeded (group call change)
of-group call change table files = go call.command.function
  where
    asked : (k : Kind) → ArePathsAll (tests_asked k call change)
    asked kind.RegressionTest = of-regression call.stands change table
    asked kind.Build = of-change change files
    asked kind.Test = of-change change files
    asked kind.BaselineTest = of-change change files

    go : (f : Function) → AreNeeded (group_of f call change)
    go function.Build = (tt, tt)
    go function.Test = of-tests (test_kind call.command) (tests_asked (test_kind call.command) call change) (asked (test_kind call.command))
    go _ = tt

-- ---- the tracked files

-- a row that is put has its path, or was there
put-in : (path : List ℕ) (bytes : Option (List ℕ)) (rows : Rows) (p : List ℕ) → In (paths_of (put_row path bytes rows)) p → (path ≡ p) ⊎ In (paths_of rows) p
put-in path bytes [] p there = there
put-in path bytes (row ∷ rows) p there = go (text_cmp path row.0) there (put-in path bytes rows p)
  where
    go : (r : Ordering) → In (paths_of (by_order r ((path, bytes) ∷ row ∷ rows) ((row.0, bytes) ∷ rows) (row ∷ put_row path bytes rows))) p
        → (In (paths_of (put_row path bytes rows)) p → (path ≡ p) ⊎ In (paths_of rows) p) → (path ≡ p) ⊎ In (paths_of (row ∷ rows)) p
    go ordering.Less there rest = there
    go ordering.Equal there rest = inr there
    go ordering.Greater (inl is) rest = inr (inl is)
    go ordering.Greater (inr there) rest = elim (rest there) [ inl is ↦ inl is | inr m ↦ inr (inr m) ]

of-overlaid : (rows tree : Rows) → ArePathsAll (paths_of tree) → ArePathsAll (paths_of rows) → ArePathsAll (paths_of (overlaid tree rows))
of-overlaid [] tree below over = below
of-overlaid (row ∷ rows) tree below over = of-overlaid rows (put_row row.0 row.1 tree) put (λ p there. over p (inr there))
  where
    put : ArePathsAll (paths_of (put_row row.0 row.1 tree))
    put p there = elim (put-in row.0 row.1 tree p there) [ inl is ↦ over p (inl is) | inr m ↦ below p m ]

of-filter : (test : Row → Bool) (rows : Rows) → ArePathsAll (paths_of rows) → ArePathsAll (paths_of (filter test rows))
of-filter test rows are path there =
    let made = map-in (λ (row : Row). row.0) (filter test rows) path there in
    are path (subst (In (paths_of rows)) made.2 (in-map (λ (row : Row). row.0) rows made.0 (filter-in test rows made.0 made.1).0))

with-paths : (bytes : ℕ → List ℕ) (rows : List TreeRow) → ((row : TreeRow) → In rows row → IsPath row.path) → ArePathsAll (paths_of (with_bytes bytes rows))
with-paths bytes [] are path there = absurd there
with-paths bytes (row ∷ rows) are path (inl is) = subst IsPath is (are row (inl refl))
with-paths bytes (row ∷ rows) are path (inr there) = with-paths bytes rows (λ r m. are r (inr m)) path there

pub same-paths : (f : List ℕ → Option (List ℕ)) (paths : List (List ℕ)) → paths_of (map (λ path. (path, f path)) paths) ≡ paths
same-paths f [] = refl
same-paths f (path ∷ paths) = λ i. path ∷ same-paths f paths i

module _ (given : Given) (change : Change) (table : TableAscends given.call.stands) (up : FilesAscend change.files) (rows : ArePathsAll (map row_path given.call.stands.files)) (reads : ArePathsAll (paths_read given.call change)) where
  read-paths : paths_of (tree_read given change) ≡ paths_read given.call change
  read-paths = same-paths (λ path. bytes_of (read_at given.view path)) (paths_read given.call change)

  read-up : PathsAscend (paths_read given.call change)
  read-up = go (is_integrating change.phase)
    where
      go : (b : Bool) → PathsAscend (if b then map tree_path (candidate_of given.call.stands change) else kept_paths change)
      go true = keys-up tree_path (candidate_of given.call.stands change) (candidate-up given.call.stands change table)
      go false = keys-up file_path (filter (λ (file : ChangeFile). not (is_remove file.action)) change.files) (filter-ascends by_text file_path (λ (file : ChangeFile). not (is_remove file.action)) change.files up)

  tree-paths : ArePathsAll (paths_of (tree_read given change))
  tree-paths = subst ArePathsAll (sym read-paths) reads

  base-paths : ArePathsAll (paths_of (base_tree given change))
  base-paths =
      of-overlaid (only_tests change (tree_read given change)) (with_bytes given.bytes (baseline_of given.call.stands)) (with-paths given.bytes (baseline_of given.call.stands) (of-baseline given.call.stands rows))
      (of-filter (λ (row : Row). list_any (bytes_eq row.0) (tests_of change)) (tree_read given change) tree-paths)

  -- their paths are paths, and ascend
  pub tracked-paths : ArePathsAll (paths_of (tracked given change)) × PathsAscend (paths_of (tracked given change))
  tracked-paths = go (kind_of given.call.command.function given.call.command)
    where
      read : ArePathsAll (paths_of (tree_read given change)) × PathsAscend (paths_of (tree_read given change))
      read = (tree-paths, subst PathsAscend (sym read-paths) read-up)

      go : (k : Kind) → ArePathsAll (paths_of (tracked_by k given change)) × PathsAscend (paths_of (tracked_by k given change))
      go kind.BaselineTest = (base-paths, base-up given.call.stands given.bytes (only_tests change (tree_read given change)) table)
      go kind.Build = read
      go kind.Test = read
      go kind.RegressionTest = read

-- ---- the runs

within-bytes : (limit : ℕ) (file : Option (List ℕ)) → IfSome file AreBytes → IfSome (within limit file) AreBytes
within-bytes limit None is = tt
within-bytes limit (Some bytes) is = go (nat_le (length bytes) limit)
  where
    go : (b : Bool) → IfSome (if b then Some bytes else None) AreBytes
    go true = is
    go false = tt

parts-files : (limit : ℕ) (tree : Tree) (paths : List (List ℕ)) → HasBytes tree → ArePathsAll paths → All IsTrackedFile (parts limit tree paths)
parts-files limit tree [] have are = All-nil IsTrackedFile
parts-files limit tree (path ∷ paths) have are =
    All-cons IsTrackedFile _ _ (are path (inl refl), within-bytes limit (tree path) (have path)) (parts-files limit tree paths have (λ p there. are p (inr there)))

parts-typed : (limit : ℕ) (tree : Tree) (paths : List (List ℕ)) → HasBytes tree → ArePathsAll paths → PathsAscend paths → AreTrackedFiles (parts limit tree paths)
parts-typed limit tree paths have are up =
    (paths-ascend (parts limit tree paths) (subst PathsAscend (sym (same-paths (λ path. within limit (tree path)) paths)) up), parts-files limit tree paths have are)

pub rows-typed : (paths : List (List ℕ)) → ArePathsAll paths → PathsAscend paths → (asked : List Needed) → AreNeeded asked → (made : List RunMade) → AreByteRuns made → All IsRun (rows_of paths asked made)
rows-typed paths are up [] typed made runs = All-nil IsRun
rows-typed paths are up (n ∷ asked) typed [] runs = All-nil IsRun
rows-typed paths are up (n ∷ asked) typed (m ∷ made) runs =
    let first = All-head IsByteRun m made runs in
    All-cons IsRun (row_of paths n m) (rows_of paths asked made)
    (record { path = typed.0; exit = first.exit; before = parts-typed 4194304 m.before paths first.before are up; after = parts-typed 4194304 m.after paths first.after are up })
    (rows-typed paths are up asked typed.1 made (All-tail IsByteRun m made runs))
