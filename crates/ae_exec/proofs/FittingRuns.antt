-- What a build or a test sees fits what stands.
use Rattle.std.specs.Prelude.{◌≡◌, ℕ, Bool, true, false, if◌then◌else◌, List, [], ◌∷◌, map, take, length, Option, Some, None, Result, All, nat_le, refl}
use Rattle.std.specs.List.{list_all}
use Rattle.std.proofs.Common.{inl, inr, sym, ap, subst, ◌∙◌, arith}
use Rattle.std.proofs.lemmas.Bool.{leb-true, and_from, and_parts}
use Rattle.std.proofs.lemmas.List.Elements.{All-nil, All-cons, All-append}
use Rattle.std.proofs.lemmas.Slice.Eq.{slice_eq-Decides}
use Rattle.ae_base.specs.Rows.{Rows, paths_of}
use Rattle.ae_base.specs.declared.refusal.Refusal.{Refusal}
use Rattle.ae_outside.specs.declared.dir.Content.{Content}
use Rattle.ae_outside.specs.declared.dir.Content.TheVariants.{Bytes, TooLong}
use Rattle.ae_outside.specs.declared.dir.Dir.{Dir}
use Rattle.ae_outside.specs.declared.dir.Dir.TheVariants.{Here}
use Rattle.ae_outside.specs.Site.{SiteState, RunMade, content_within, contents, IsAtMost}
use Rattle.ae_outside.specs.Trees.{Tree}
use Rattle.ae_base.specs.declared.words.Kind.{Kind}
use Rattle.ae_base.specs.declared.words.Kind.TheVariants as kind
use Rattle.ae_types.specs.declared.change.Change.{Change}
use Rattle.ae_types.specs.Runs.{Needed}
use Rattle.ae_log.specs.Runs.{same_rows}
use Rattle.ae_machine.specs.declared.view.View.{View}
use Rattle.ae_machine.specs.Call.{Call, Given, change_of}
use Rattle.ae_machine.specs.Called.{attributes_seen, files_dir, files_seen, given_at, occasion_of}
use Rattle.ae_machine.specs.Fits.{clean_but_last, config_asked, is_clean, path_of_row, paths_asked, runs_asked, tracked_in}
use Rattle.ae_machine.specs.Legal.{ViewFits}
use Rattle.ae_machine.specs.Real.{command_for, dir_of_runs}
use Rattle.ae_machine.specs.Runs.{kind_of, needed_of, tracked_by}
use Rattle.ae_evidence.specs.declared.runs.Job.{Job}
use Rattle.ae_evidence.specs.declared.runs.RunRow.{RunRow}
use Rattle.ae_machine.specs.Jobs.{AreJobs}
use Rattle.ae_exec.proofs.RealRuns.{runs-are-real}
use Rattle.ae_exec.specs.Jobs.{RunsFit}
use Rattle.ae_dirs.proofs.SameRows.{row_decides}
use Rattle.ae_dirs.specs.Runs.{AllClean, AreRuns, CleanTillLast, EndsUnclean}

-- ---- what was read

within : (limit : ℕ) (fits : Bool) (bytes : List ℕ) → nat_le (length bytes) limit ≡ fits → IsAtMost limit (if fits then Bytes bytes else TooLong)
within limit true bytes is = leb-true (length bytes) limit is
within limit false bytes is = tt

content-fits : (limit : ℕ) (held : Option (List ℕ)) → IsAtMost limit (content_within limit held)
content-fits limit (Some bytes) = within limit (nat_le (length bytes) limit) bytes refl
content-fits limit None = tt

pub attributes-fit : (state : SiteState) (path : Option (List ℕ)) → IsAtMost 65536 (attributes_seen state path)
attributes-fit state (Some path) = content-fits 65536 (state.trees Here path)
attributes-fit state None = tt

abbrev pub IsShort : List ℕ × Content → Type 0
IsShort row = IsAtMost 4194304 row.1

contents-fit : (tree : Tree) (paths : List (List ℕ)) → All IsShort (contents 4194304 tree paths)
contents-fit tree [] = All-nil IsShort
contents-fit tree (path ∷ paths) = All-cons IsShort _ _ (content-fits 4194304 (tree path)) (contents-fit tree paths)

contents-paths : (tree : Tree) (paths : List (List ℕ)) → map path_of_row (contents 4194304 tree paths) ≡ paths
contents-paths tree [] = refl
contents-paths tree (path ∷ paths) = ap (λ (l : List (List ℕ)). path ∷ l) (contents-paths tree paths)

pub files-fit : (call : Call) (change : Option Change) (state : SiteState) → All IsShort (files_seen call change state)
files-fit call (Some change) state = contents-fit (state.trees (files_dir call change)) (paths_asked call (Some change))
files-fit call None state = All-nil IsShort

pub files-paths : (call : Call) (change : Option Change) (state : SiteState) → map path_of_row (files_seen call change state) ≡ paths_asked call change
files-paths call (Some change) state = contents-paths (state.trees (files_dir call change)) (paths_asked call (Some change))
files-paths call None state = refl

-- ---- what was run

same-self : (rows : Rows) → same_rows rows rows ≡ true
same-self rows = (slice_eq-Decides row_decides rows rows (same_rows rows rows) refl).1 refl

clean-is : (tracked : Rows) (row : RunRow) → row.before ≡ tracked → row.after ≡ tracked → is_clean row ≡ true
clean-is tracked row before after = subst (λ (a : Rows). same_rows a row.after ≡ true) (sym before) (subst (λ (a : Rows). same_rows tracked a ≡ true) (sym after) (same-self tracked))

clean-same : (row : RunRow) → is_clean row ≡ true → row.after ≡ row.before
clean-same row is = sym ((slice_eq-Decides row_decides row.before row.after (is_clean row) refl).0 is)

abbrev Began : Rows → RunRow → Type 0
Began tracked row = row.before ≡ tracked

all-began : (tracked : Rows) (rows : List RunRow) → AllClean tracked rows → All (Began tracked) rows
all-began tracked [] clean = All-nil (Began tracked)
all-began tracked (row ∷ rows) clean = All-cons (Began tracked) row rows clean.0 (all-began tracked rows clean.2)

till-began : (tracked : Rows) (rows : List RunRow) → CleanTillLast tracked rows → All (Began tracked) rows
till-began tracked [] clean = All-nil (Began tracked)
till-began tracked (row ∷ []) clean = All-cons (Began tracked) row [] clean (All-nil (Began tracked))
till-began tracked (row ∷ next ∷ rows) clean = All-cons (Began tracked) row (next ∷ rows) clean.0 (till-began tracked (next ∷ rows) clean.2)

all-clean : (tracked : Rows) (rows : List RunRow) → AllClean tracked rows → clean_but_last rows ≡ true
all-clean tracked [] clean = refl
all-clean tracked (row ∷ []) clean = refl
all-clean tracked (row ∷ next ∷ rows) clean = and_from (is_clean row) (clean_but_last (next ∷ rows)) (clean-is tracked row clean.0 clean.1) (all-clean tracked (next ∷ rows) clean.2)

till-clean : (tracked : Rows) (rows : List RunRow) → CleanTillLast tracked rows → clean_but_last rows ≡ true
till-clean tracked [] clean = refl
till-clean tracked (row ∷ []) clean = refl
till-clean tracked (row ∷ next ∷ rows) clean = and_from (is_clean row) (clean_but_last (next ∷ rows)) (clean-is tracked row clean.0 clean.1) (till-clean tracked (next ∷ rows) clean.2)

not-all : (rows : List RunRow) → EndsUnclean rows → list_all is_clean rows ≡ true → ⊥
not-all [] ends clean = ends
not-all (row ∷ []) ends clean = ends (clean-same row ((and_parts (is_clean row) true clean).0))
not-all (row ∷ next ∷ rows) ends clean = not-all (next ∷ rows) ends ((and_parts (is_clean row) (list_all is_clean (next ∷ rows)) clean).1)

module _ (dir : Dir) (paths : List (List ℕ)) (command : Needed → Result (List ℕ) Refusal) where
  jobs-length : (needed : List Needed) (jobs : List Job) → AreJobs command needed jobs → length jobs ≡ length needed
  jobs-length [] [] are = refl
  jobs-length (n ∷ needed) (j ∷ jobs) are = omega (arith, jobs-length needed jobs are.1)
  jobs-length [] (j ∷ jobs) are = absurd are
  jobs-length (n ∷ needed) [] are = absurd are

  needed-are : (needed : List Needed) (jobs : List Job) (made : List RunMade) (rows : List RunRow) → AreJobs command needed jobs → AreRuns dir paths jobs made rows → map needed_of rows ≡ take (length rows) needed
  needed-are needed jobs [] [] jobs_are are = refl
  needed-are (n ∷ needed) (j ∷ jobs) (m ∷ made) (r ∷ rows) jobs_are are = λ i.
      record { kind = (are.0.kind ∙ jobs_are.0.kind) i; path = (are.0.path ∙ jobs_are.0.path) i } ∷ needed-are needed jobs made rows jobs_are.1 are.1 i
  needed-are [] [] [] (r ∷ rows) jobs_are are = absurd are
  needed-are [] [] (m ∷ made) [] jobs_are are = absurd are
  needed-are [] [] (m ∷ made) (r ∷ rows) jobs_are are = absurd are
  needed-are (n ∷ needed) (j ∷ jobs) [] (r ∷ rows) jobs_are are = absurd are
  needed-are (n ∷ needed) (j ∷ jobs) (m ∷ made) [] jobs_are are = absurd are
  needed-are [] (j ∷ jobs) made (r ∷ rows) jobs_are are = absurd jobs_are
  needed-are (n ∷ needed) [] made (r ∷ rows) jobs_are are = absurd jobs_are
  needed-are [] (j ∷ jobs) (m ∷ made) [] jobs_are are = absurd jobs_are
  needed-are (n ∷ needed) [] (m ∷ made) [] jobs_are are = absurd jobs_are

-- the tracked files are those before any run
same-tracked : (given : Given) (rows : List RunRow) (change : Option Change) → tracked_in (record given { view = record given.view { runs = rows } }) change ≡ tracked_in given change
same-tracked given rows None = refl
same-tracked given rows (Some change) = go (kind_of given.call.command.function given.call.command)
  where
    go : (k : Kind) → tracked_by k (record given { view = record given.view { runs = rows } }) change ≡ tracked_by k given change
    go kind.BaselineTest = refl
    go kind.Build = refl
    go kind.Test = refl
    go kind.RegressionTest = refl

pub runs-fit : RunsFit
runs-fit o bytes called changed jobs rows has group short =
    subst (λ (seen : View). ViewFits (Some o) bytes (occasion_of called seen)) (sym (runs-are-real o bytes called changed jobs rows has).1) (
      record {
        rows = files_seen given.call change called.before;
        read = refl;
        paths = files-paths given.call change called.before;
        attributes = attributes-fit called.before called.command.attributes;
        lengths = All-append IsShort (files_seen given.call change called.before) (config_asked given change) (files-fit given.call change called.before) short;
        runs = needed-are dir paths command asked jobs has.runs.made rows has.jobs_are has.runs.are;
        before = subst (λ (tracked : Rows). All (Began tracked) rows) (sym (same-tracked given rows change)) (elim group [
          | inl whole ↦ all-began (tracked_in given change) rows whole.0
          | inr ended ↦ till-began (tracked_in given change) rows ended.0
        ]);
        clean = elim group [
          | inl whole ↦ all-clean (tracked_in given change) rows whole.0
          | inr ended ↦ till-clean (tracked_in given change) rows ended.0
        ];
      },
      record {
        some = λ runs. has.some;
        all = λ runs clean. elim group [
          | inl whole ↦ whole.1 ∙ jobs-length dir paths command asked jobs has.jobs_are
          | inr ended ↦ absurd (not-all rows ended.1 clean)
        ];
      },
    )
  where
    given : Given
    given = given_at o bytes called

    change : Option Change
    change = change_of given.call

    dir : Dir
    dir = dir_of_runs given.call change

    paths : List (List ℕ)
    paths = paths_of (tracked_in given change)

    command : Needed → Result (List ℕ) Refusal
    command = command_for given change

    asked : List Needed
    asked = runs_asked given.call change
