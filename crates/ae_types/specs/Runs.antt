-- Which runs a change needs, and which of them count.
use Rattle.std.specs.Prelude.{ℕ, Bool, true, false, ◌&&◌, ◌||◌, not, List, [], ◌∷◌, ◌++◌, map, Option, Some, None, if◌then◌else◌, length, nat_eq, filter}
use Rattle.std.specs.List.{find}
use Rattle.std.specs.Str.{bytes_eq}
use Rattle.std.specs.Option.{option_map, option_eq}
use Rattle.std.specs.declared.cmp.Ordering.{Ordering}
use Rattle.ae_base.specs.declared.words.Ground.{Ground}
use Rattle.ae_base.specs.declared.words.Ground.TheVariants.{Develop, Integrate}
use Rattle.ae_base.specs.declared.words.Kind.{Kind}
use Rattle.ae_base.specs.declared.words.Kind.TheVariants as kind
use Rattle.ae_base.specs.declared.refusal.Refusal.{Refusal}
use Rattle.ae_base.specs.declared.refusal.Refusal.TheVariants.{NoTest, BuildNeeded, TestNeeded, BaselineTestNeeded, RegressionNeeded}
use Rattle.ae_types.specs.declared.change.Change.{Change}
use Rattle.ae_types.specs.declared.change.ChangeFile.{ChangeFile}
use Rattle.ae_types.specs.declared.change.Evidence.{Evidence}
use Rattle.ae_types.specs.Observation.{Observation}
use Rattle.ae_types.specs.Phases.{is_remove, is_test}
use Rattle.ae_types.specs.Found.{has_file, there_and}
use Rattle.ae_types.specs.Trees.{TreeRow, baseline_of}
use Rattle.ae_base.specs.Rows.{text_cmp}

-- ---- what a run was of, and the order of the rows of evidence

pub record RunKey : Type 0 where
  pub during : Ground
  pub kind : Kind
  pub path : Option (List ℕ)

abbrev pub same_during : Ground → Ground → Bool
same_during Develop Develop = true
same_during Integrate Integrate = true
same_during _ _ = false

abbrev pub same_kind : Kind → Kind → Bool
same_kind kind.Build kind.Build = true
same_kind kind.Test kind.Test = true
same_kind kind.BaselineTest kind.BaselineTest = true
same_kind kind.RegressionTest kind.RegressionTest = true
same_kind _ _ = false

abbrev pub same_run : RunKey → RunKey → Bool
same_run one other = same_during one.during other.during && same_kind one.kind other.kind && option_eq bytes_eq one.path other.path

-- development comes before integration
abbrev pub during_place : Ground → ℕ
during_place Develop = 0
during_place Integrate = 1

-- builds come first, then tests, baseline tests and regression tests
abbrev pub kind_place : Kind → ℕ
kind_place kind.Build = 0
kind_place kind.Test = 1
kind_place kind.BaselineTest = 2
kind_place kind.RegressionTest = 3

-- no path comes before all paths
abbrev pub path_place : Option (List ℕ) → List ℕ
path_place None = []
path_place (Some path) = 1 ∷ path

abbrev pub run_place : RunKey → List ℕ
run_place run = during_place run.during ∷ kind_place run.kind ∷ path_place run.path

-- the order of runs: by when in the change's life, then by kind, then by path
abbrev pub run_cmp : RunKey → RunKey → Ordering
run_cmp one other = text_cmp (run_place one) (run_place other)

abbrev pub run_of : Evidence → RunKey
run_of evidence = record { during = evidence.during; kind = evidence.kind; path = evidence.path }

-- the latest run of its kind
abbrev pub evidence_in : List Evidence → RunKey → Option Evidence
evidence_in rows run = find (λ row. same_run run (run_of row)) rows

-- ---- the runs that are needed

pub record Needed : Type 0 where
  pub kind : Kind
  pub path : Option (List ℕ)

-- the status that counts: a baseline test is to fail
abbrev pub wanted : Kind → ℕ
wanted kind.BaselineTest = 1
wanted _ = 0

-- the create and modify files of usage test
abbrev pub tests_of : Change → List (List ℕ)
tests_of change = map (λ (file : ChangeFile). file.path) (filter (λ (file : ChangeFile). is_test file.usage && not (is_remove file.action)) change.files)

-- the baseline's tests outside the change
abbrev pub regression_tests : Observation → Change → List (List ℕ)
regression_tests o change = map (λ (row : TreeRow). row.path) (filter (λ (row : TreeRow). is_test row.usage && not (has_file change row.path)) (baseline_of o))

abbrev pub needed : Kind → List ℕ → Needed
needed kind path = record { kind = kind; path = Some path }

abbrev pub has_no_baseline : Observation → Bool
has_no_baseline o = nat_eq (length (baseline_of o)) 0

-- the runs that the change needs, in the order in which they are asked
abbrev pub required : Observation → Change → List Needed
required o change =
    record { kind = kind.Build; path = None }
    ∷ (if change.attributes.test_exempt then [] else map (needed kind.Test) (tests_of change))
    ++ (if change.attributes.test_exempt || change.attributes.test_baseline_exempt || has_no_baseline o then [] else map (needed kind.BaselineTest) (tests_of change))
    ++ (if change.attributes.regression_test_exempt then [] else map (needed kind.RegressionTest) (regression_tests o change))

-- ---- which of them count

abbrev pub latest_of : Change → Ground → Kind → Option (List ℕ) → Option Evidence
latest_of change during kind path = evidence_in change.evidence (record { during = during; kind = kind; path = path })

-- it has the wanted status, left the files as they were, and was of these files
abbrev pub counts : List ℕ → Evidence → Bool
counts digest run = nat_eq run.status (wanted run.kind) && run.clean && bytes_eq run.subject digest

-- the latest run is there, and counts
abbrev pub has_counting : Change → Ground → List ℕ → Needed → Bool
has_counting change during digest run = there_and (latest_of change during run.kind run.path) (counts digest)

abbrev pub path_or_empty : Option (List ℕ) → List ℕ
path_or_empty (Some path) = path
path_or_empty None = []

abbrev pub refusal_for : Kind → List ℕ → Refusal
refusal_for kind.Build path = BuildNeeded
refusal_for kind.Test path = TestNeeded path
refusal_for kind.BaselineTest path = BaselineTestNeeded path
refusal_for kind.RegressionTest path = RegressionNeeded path

abbrev pub refusal_of : Needed → Refusal
refusal_of run = refusal_for run.kind (path_or_empty run.path)

-- why the runs of that part of the change's life don't suffice for the digest
abbrev pub missing : Observation → Change → Ground → List ℕ → Option Refusal
missing o change during digest =
    if not change.attributes.test_exempt && nat_eq (length (tests_of change)) 0 then Some NoTest
    else option_map refusal_of (find (λ run. not (has_counting change during digest run)) (required o change))
