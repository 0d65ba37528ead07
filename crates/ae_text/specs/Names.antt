-- The names that stand in a set beside their fields.
use Rattle.std.specs.Prelude.{◌≡◌, ℕ, List}
use Rattle.std.specs.Ordering.{nat_cmp}
use Rattle.std.specs.Cmp.Lexicographic.{slice_cmp}
use Rattle.std.specs.BTreeSet.{BTreeSet, contains}
use Rattle.ae_text.specs.Tree.{Node}
use Rattle.ae_text.specs.Pushdown.{has_name}

-- the set has just the names of the fields
abbrev pub AreNamesOf : BTreeSet (List ℕ) → List (List ℕ × Node) → Type 0
AreNamesOf names fs = (k : List ℕ) → contains (slice_cmp nat_cmp) names k ≡ has_name k fs
