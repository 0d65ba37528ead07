-- What the trunk gives a branch is good: its versions end in the region.
use Rattle.std.specs.Prelude.{◌≡◌, ℕ, List, [], ◌∷◌, map, IfSome}
use Rattle.std.specs.List.{AllByRecursion}
use Rattle.std.proofs.Common.{sym, subst}
use Rattle.ae_dist.specs.declared.rows.Row.{Row}
use Rattle.ae_exec.specs.Reading.{IsInside}
use Rattle.ae_exec.proofs.Baseline.{row-inside}
use Rattle.ae_types.specs.Observation.{Observation}
use Rattle.ae_types.specs.Sound.{Sound}
use Rattle.ae_types.specs.Trees.{TreeRow, tree_of, tree_row}
use Rattle.ae_types.proofs.Members.{In, some-in}
use Rattle.ae_branch.specs.Begin.{created, created_rows}
use Rattle.std.proofs.Common.{inl, inr, refl}

abbrev AreInside : List Row → Type 0
AreInside rows = AllByRecursion (λ (row : Row). IfSome row.version IsInside) rows

each_inside : (tree : List TreeRow) → ((file : TreeRow) → In tree file → IsInside file.version) → AreInside (map created tree)
each_inside [] each = tt
each_inside (file ∷ tree) each = (each file (inl refl), each_inside tree (λ other there. each other (inr there)))

pub created_inside : (o : Observation) (delta : ℕ) → Sound o → AreInside (created_rows o delta)
created_inside o delta sound = each_inside (tree_of o delta) (λ file there. let row = some-in (tree_row delta) o.files file there in row-inside o sound delta row.0 row.1 file row.2)

pub source_inside : (o : Observation) (delta : ℕ) (rows : List Row) → Sound o → rows ≡ created_rows o delta → AreInside rows
source_inside o delta rows sound are = subst AreInside (sym are) (created_inside o delta sound)
