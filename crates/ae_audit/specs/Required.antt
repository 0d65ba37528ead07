-- The runs that a change needs over a tree.
use Rattle.std.specs.Prelude.{◌||◌, List, [], ◌∷◌, ◌++◌, Option, Some, None, map, if◌then◌else◌, length, nat_eq}
use Rattle.ae_base.specs.declared.words.Kind.TheVariants as kind
use Rattle.ae_types.specs.declared.change.Change.{Change}
use Rattle.ae_types.specs.Runs.{Needed, needed, tests_of}
use Rattle.ae_types.specs.Trees.{TreeRow}
use Rattle.ae_evidence.specs.Needs.{own_tests, is_outside_test, tests_outside}

-- each test of the change on the tree, unless the change is exempt or the tree has no file
abbrev pub tests_on : List TreeRow → Change → List Needed
tests_on tree change = if change.attributes.test_exempt || change.attributes.test_baseline_exempt || nat_eq (length tree) 0 then [] else map (needed kind.BaselineTest) (tests_of change)

-- each test of the tree that is outside the change, unless the change is exempt
abbrev pub tests_kept : List TreeRow → Change → List Needed
tests_kept tree change = if change.attributes.regression_test_exempt then [] else map (needed kind.RegressionTest) (tests_outside change tree)

-- a build, each test of the change unless it is exempt, each of these on the tree, and each other test of the tree
abbrev pub required_over : List TreeRow → Change → List Needed
required_over tree change = record { kind = kind.Build; path = None } ∷ own_tests change ++ tests_on tree change ++ tests_kept tree change

-- the run of a row, where it is a test outside the change
abbrev pub kept_asked : Change → TreeRow → Option Needed
kept_asked change row = if is_outside_test change row then Some (needed kind.RegressionTest row.path) else None
