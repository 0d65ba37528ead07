-- The files that the runs of a command are to leave as they are stand so in the directory of its runs before the first.
use Rattle.std.specs.Prelude.{◌≡◌, ◌≤◌, ℕ, ◌+◌, Bool, true, false, nat_le, if◌then◌else◌, List, [], ◌∷◌, ◌++◌, map, filter, length, Option, Some, None}
use Rattle.std.specs.FinMap.Entries.{by_order}
use Rattle.std.specs.declared.cmp.Ordering.{Ordering}
use Rattle.std.specs.declared.cmp.Ordering.TheVariants as ordering
use Rattle.std.proofs.Common.{refl, sym, ap, subst, ◌∙◌, inl, inr, cond}
use Rattle.std.proofs.lemmas.List.{append-nil}
use Rattle.std.proofs.lemmas.Bool.{false≢true, le-leb}
use Rattle.ae_exec.proofs.RunsTyped.{same-paths}
use Rattle.ae_machine.proofs.SightShows.{reads-too}
use Rattle.ae_base.specs.Limits.{most_file_bytes}
use Rattle.ae_base.specs.Rows.{Ascends, Row, Rows, put_row, text_cmp}
use Rattle.ae_base.specs.declared.words.Kind.{Kind}
use Rattle.ae_base.specs.declared.words.Kind.TheVariants as kind
use Rattle.ae_outside.specs.Image.{Image}
use Rattle.ae_outside.specs.Trees.{Tree, no_files, parts, with_rows, within}
use Rattle.ae_outside.specs.declared.dir.Content.{Content}
use Rattle.ae_outside.specs.declared.dir.Dir.{Dir}
use Rattle.ae_outside.specs.declared.dir.Dir.TheVariants.{Base, Develop, Integrate}
use Rattle.ae_outside.proofs.DirLaws.{dir_eq_refl}
use Rattle.ae_types.specs.declared.change.Change.{Change}
use Rattle.ae_types.specs.Observation.{Observation}
use Rattle.ae_types.specs.Ordered as ordered
use Rattle.ae_types.specs.Found.{file_path}
use Rattle.ae_types.specs.Phases.{is_integrating}
use Rattle.ae_types.specs.Sound.{Sound}
use Rattle.ae_types.specs.Trees.{TreeRow, baseline_of, candidate_of, last_delta}
use Rattle.ae_types.proofs.Members.{In, in-map}
use Rattle.ae_words.specs.declared.table.Function.{Function}
use Rattle.ae_words.specs.declared.table.Function.TheVariants as function
use Rattle.ae_evidence.specs.declared.directories.DirChange.{DirChange}
use Rattle.ae_evidence.specs.declared.directories.DirChange.TheVariants.{Fill, Put}
use Rattle.ae_evidence.specs.declared.runs.Job.{Job}
use Rattle.ae_evidence.specs.Directories.{dir_after, dirs_after}
use Rattle.ae_machine.specs.Call.{Given, change_named, change_of}
use Rattle.ae_machine.specs.Called.{Called, dir_for, files_dir, files_seen, given_at, given_before, nothing_seen}
use Rattle.ae_machine.specs.Directories.{before_runs, before_tests, changes_by, changes_of, refreshed}
use Rattle.ae_machine.specs.Fits.{config_asked, makes_runs, paths_asked, tracked_in}
use Rattle.ae_machine.specs.Real.{dir_of_runs}
use Rattle.ae_machine.specs.Runs.{kind_of, test_kind, tracked_by}
use Rattle.ae_machine.specs.Sight.{base_tree, kept_paths, only_tests, overlaid, paths_read, tree_read, with_bytes}
use Rattle.ae_dirs.specs.Reads as reads
use Rattle.ae_dirs.specs.Tracked.{AllWithin, filled_parts}
use Rattle.ae_exec.specs.Bytes.{HaveBytes, row_version}
use Rattle.ae_exec.specs.Runs.{AreForRuns}
use Rattle.ae_exec.proofs.Baseline.{baseline-lives}
use Rattle.ae_exec.proofs.ShortConfig.{short-version}
use Rattle.ae_exec.proofs.TrackedStays.{kept-stay, read-parts}

-- ---- rows of paths

-- what is part of a tree at its own paths
from-parts : (tree : Tree) (f : List ℕ → Option (List ℕ)) (paths : List (List ℕ)) → map (λ path. (path, f path)) paths ≡ parts 4194304 tree paths
    → map (λ path. (path, f path)) paths ≡ reads.tracked_in tree (map (λ path. (path, f path)) paths)
from-parts tree f paths is = is ∙ ap (parts 4194304 tree) (sym (same-paths f paths))

-- ---- rows without a long file

within-twice : (limit : ℕ) (file : Option (List ℕ)) → within limit (within limit file) ≡ within limit file
within-twice limit None = refl
within-twice limit (Some bytes) = go (nat_le (length bytes) limit) refl
  where
    go : (fits : Bool) → nat_le (length bytes) limit ≡ fits → within limit (if fits then Some bytes else None) ≡ (if fits then Some bytes else None)
    go true is = ap (λ (b : Bool). if b then Some bytes else None) is
    go false is = refl

parts-small : (limit : ℕ) (tree : Tree) (paths : List (List ℕ)) → AllWithin limit (parts limit tree paths)
parts-small limit tree [] = tt
parts-small limit tree (path ∷ paths) = (within-twice limit (tree path), parts-small limit tree paths)

filter-small : (limit : ℕ) (t : Row → Bool) (rows : Rows) → AllWithin limit rows → AllWithin limit (filter t rows)
filter-small limit t [] small = tt
filter-small limit t (row ∷ rows) small = go (t row) (filter-small limit t rows small.1)
  where
    go : (b : Bool) → AllWithin limit (filter t rows) → AllWithin limit (cond b (row ∷ filter t rows) (filter t rows))
    go true rest = (small.0, rest)
    go false rest = rest

put-small : (limit : ℕ) (path : List ℕ) (file : Option (List ℕ)) (rows : Rows) → within limit file ≡ file → AllWithin limit rows → AllWithin limit (put_row path file rows)
put-small limit path file [] is small = (is, tt)
put-small limit path file (row ∷ rows) is small = go (text_cmp path row.0) (put-small limit path file rows is small.1)
  where
    go : (order : Ordering) → AllWithin limit (put_row path file rows) → AllWithin limit (by_order order ((path, file) ∷ row ∷ rows) ((row.0, file) ∷ rows) (row ∷ put_row path file rows))
    go ordering.Less rest = (is, small)
    go ordering.Equal rest = (is, small.1)
    go ordering.Greater rest = (small.0, rest)

overlaid-small : (limit : ℕ) (rows more : Rows) → AllWithin limit rows → AllWithin limit more → AllWithin limit (overlaid rows more)
overlaid-small limit rows [] small others = small
overlaid-small limit rows (row ∷ more) small others = overlaid-small limit (put_row row.0 row.1 rows) more (put-small limit row.0 row.1 rows others.0 small) others.1

bytes-small : (bytes : ℕ → List ℕ) (rows : List TreeRow) → ((row : TreeRow) → In rows row → length (bytes row.version.number) ≤ most_file_bytes) → AllWithin 4194304 (with_bytes bytes rows)
bytes-small bytes [] each = tt
bytes-small bytes (row ∷ rows) each = (
  ap (λ (b : Bool). if b then Some (bytes row.version.number) else None) (le-leb (length (bytes row.version.number)) most_file_bytes (each row (inl refl))),
  bytes-small bytes rows (λ other there. each other (inr there)),
)

-- ---- the command's change

files-ascend : (o : Observation) → Sound o → (number : Option ℕ) (change : Change) → change_named o number ≡ Some change → ordered.Ascends text_cmp file_path change.files
files-ascend o s (Some number) change named = (s.changes.good number change named).files.ascend
files-ascend o s None change named = cc

module _ (o : Observation) (bytes : ℕ → List ℕ) (called : Called) (s : Sound o) (makes : makes_runs called.command.function ≡ true) (change : Change)
    (named : change_named o called.command.change ≡ Some change) where
  abbrev given : Given
  given = given_at o bytes called

  -- what was read of its files
  read : tree_read given change ≡ parts 4194304 (called.before.trees (files_dir given.call change)) (paths_read given.call change)
  read =
      let rest : List (List ℕ × Content) = config_asked (given_before o bytes called nothing_seen) (change_named o called.command.change) in
      read-parts given.view (called.before.trees (files_dir given.call change)) rest (paths_asked given.call (Some change)) (paths_read given.call change)
      (ap (λ (c : Option Change). files_seen given.call c called.before ++ rest) named)
      (λ path h. subst (λ (l : List (List ℕ)). In l path) (sym (ap (λ (b : Bool). if b then paths_read given.call change else []) (reads-too called.command.function makes))) h)

  -- in development it stands in the develop directory as that is refreshed
  module _ (developed : is_integrating change.phase ≡ false) where
    abbrev tree : Tree
    tree = called.before.trees (Develop change.number)

    dir-is : files_dir given.call change ≡ Develop change.number
    dir-is = ap (λ (b : Bool). if b then Integrate (last_delta o + 1) else Develop change.number) developed

    kept-are : paths_read given.call change ≡ kept_paths change
    kept-are = ap (λ (b : Bool). if b then Rattle.ae_types.specs.Trees.paths_of (candidate_of o change) else kept_paths change) developed

    held : tree_read given change ≡ reads.tracked_in (with_rows (refreshed given change) tree) (tree_read given change)
    held = from-parts (with_rows (refreshed given change) tree) _ (paths_read given.call change)
        (read ∙ ap (λ (d : Dir). parts 4194304 (called.before.trees d) (paths_read given.call change)) dir-is
        ∙ sym (kept-stay given change (files-ascend o s called.command.change change named) tree (paths_read given.call change) (λ path h. subst (λ (l : List (List ℕ)). In l path) kept-are h)))

    develop-holds : (changes : List DirChange) → changes ≡ Put (Develop change.number) (refreshed given change) ∷ []
        → tree_read given change ≡ reads.tracked_in (dirs_after changes called.before.trees (files_dir given.call change)) (tree_read given change)
    develop-holds changes is =
        let there : dirs_after changes called.before.trees (files_dir given.call change) ≡ with_rows (refreshed given change) tree =
        (λ i. dirs_after (is i) called.before.trees (dir-is i)) ∙ ap (λ (b : Bool). if b then with_rows (refreshed given change) tree else tree) (dir_eq_refl (Develop change.number)) in
        held ∙ sym (ap (λ (t : Tree). reads.tracked_in t (tree_read given change)) there)

  -- and in integration in the integrate directory as that is
  integrate-holds : (changes : List DirChange) → changes ≡ [] → tree_read given change ≡ reads.tracked_in (dirs_after changes called.before.trees (files_dir given.call change)) (tree_read given change)
  integrate-holds changes none =
      from-parts (called.before.trees (files_dir given.call change)) _ (paths_read given.call change) read
      ∙ sym (ap (λ (cs : List DirChange). reads.tracked_in (dirs_after cs called.before.trees (files_dir given.call change)) (tree_read given change)) none)

  files-hold : (changes : List DirChange) → changes ≡ before_runs given change
      → tree_read given change ≡ reads.tracked_in (dirs_after changes called.before.trees (files_dir given.call change)) (tree_read given change)
  files-hold changes is = by (is_integrating change.phase) refl
    where
      by : (b : Bool) → is_integrating change.phase ≡ b → tree_read given change ≡ reads.tracked_in (dirs_after changes called.before.trees (files_dir given.call change)) (tree_read given change)
      by false developed = develop-holds developed changes (is ∙ ap (λ (b : Bool). if b then [] else Put (Develop change.number) (refreshed given change) ∷ []) developed)
      by true integrated = integrate-holds changes (is ∙ ap (λ (b : Bool). if b then [] else Put (Develop change.number) (refreshed given change) ∷ []) integrated)

  -- the base directory has no long file
  base-small : (files : Option Image) → HaveBytes files (Some o) bytes → AllWithin 4194304 (base_tree given change)
  base-small files have = overlaid-small 4194304 (with_bytes bytes (baseline_of o)) (only_tests change (tree_read given change))
      (bytes-small bytes (baseline_of o) (λ row there. short-version o files bytes s have row.version (baseline-lives o row.version (in-map row_version (baseline_of o) row there))))
      (filter-small 4194304 _ (tree_read given change) (subst (AllWithin 4194304) (sym read) (parts-small 4194304 (called.before.trees (files_dir given.call change)) (paths_read given.call change))))

  base-holds : (files : Option Image) → HaveBytes files (Some o) bytes → Ascends (base_tree given change)
      → base_tree given change ≡ reads.tracked_in (dirs_after (before_runs given change ++ Fill (Base change.number) (base_tree given change) ∷ []) called.before.trees (Base change.number)) (base_tree given change)
  base-holds files have up =
      let there : dirs_after (before_runs given change ++ Fill (Base change.number) (base_tree given change) ∷ []) called.before.trees (Base change.number) ≡ with_rows (base_tree given change) no_files =
      by (is_integrating change.phase) in
      filled_parts (base_tree given change) no_files up (base-small files have) ∙ sym (ap (λ (t : Tree). reads.tracked_in t (base_tree given change)) there)
    where
      by : (b : Bool) → dirs_after ((if b then [] else Put (Develop change.number) (refreshed given change) ∷ []) ++ Fill (Base change.number) (base_tree given change) ∷ []) called.before.trees (Base change.number) ≡ with_rows (base_tree given change) no_files
      by true = ap (λ (b : Bool). if b then with_rows (base_tree given change) no_files else called.before.trees (Base change.number)) (dir_eq_refl (Base change.number))
      by false = ap (λ (b : Bool). if b then with_rows (base_tree given change) no_files else dir_after (Put (Develop change.number) (refreshed given change)) called.before.trees (Base change.number)) (dir_eq_refl (Base change.number))

  by-kind : (files : Option Image) → HaveBytes files (Some o) bytes → (k : Kind) → Ascends (tracked_by k given change)
      → tracked_by k given change ≡ reads.tracked_in (dirs_after (before_runs given change ++ before_tests k given change) called.before.trees (dir_for k given.call change)) (tracked_by k given change)
  by-kind files have kind.BaselineTest up = base-holds files have up
  by-kind files have kind.Build up = files-hold (before_runs given change ++ []) (append-nil (before_runs given change))
  by-kind files have kind.Test up = files-hold (before_runs given change ++ []) (append-nil (before_runs given change))
  by-kind files have kind.RegressionTest up = files-hold (before_runs given change ++ []) (append-nil (before_runs given change))

  by-function : (files : Option Image) → HaveBytes files (Some o) bytes → (f : Function) → makes_runs f ≡ true → Ascends (tracked_by (kind_of f called.command) given change)
      → tracked_by (kind_of f called.command) given change
      ≡ reads.tracked_in (dirs_after (changes_of f given change) called.before.trees (dir_for (kind_of f called.command) given.call change)) (tracked_by (kind_of f called.command) given change)
  by-function files have function.Build is up = files-hold (before_runs given change) refl
  by-function files have function.Test is up = by-kind files have (test_kind called.command) up
  by-function files have _ is up = absurd (false≢true is)

-- ---- whatever it names

holds : (o : Observation) (files : Option Image) (bytes : ℕ → List ℕ) (called : Called) → Sound o → HaveBytes files (Some o) bytes → makes_runs called.command.function ≡ true
    → (c : Option Change) → change_named o called.command.change ≡ c → Ascends (tracked_in (given_at o bytes called) c)
    → tracked_in (given_at o bytes called) c ≡ reads.tracked_in (dirs_after (changes_by (given_at o bytes called) c) called.before.trees (dir_of_runs (given_at o bytes called).call c)) (tracked_in (given_at o bytes called) c)
holds o files bytes called s have makes (Some change) named up =
    by-function o bytes called s makes change named files have called.command.function makes up
holds o files bytes called s have makes None named up = refl

pub tracked-holds : (o : Observation) (files : Option Image) (bytes : ℕ → List ℕ) (called : Called) → Sound o → HaveBytes files (Some o) bytes → makes_runs called.command.function ≡ true
    → (changes : List DirChange) (tracked : Rows) (jobs : List Job) → AreForRuns (given_at o bytes called) changes tracked jobs → Ascends tracked
    → tracked ≡ reads.tracked_in (dirs_after changes called.before.trees (dir_of_runs (given_at o bytes called).call (change_of (given_at o bytes called).call))) tracked
tracked-holds o files bytes called s have makes changes tracked jobs are up =
    let dir : Dir = dir_of_runs (given_at o bytes called).call (change_of (given_at o bytes called).call) in
    are.tracked_are
    ∙ holds o files bytes called s have makes (change_named o called.command.change) refl (subst Ascends are.tracked_are up)
    ∙ sym (λ i. reads.tracked_in (dirs_after (are.changes_are i) called.before.trees dir) (are.tracked_are i))
