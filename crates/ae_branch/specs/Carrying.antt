-- What holds of the rows that a branch brings, whatever its disk tells.
use Rattle.std.specs.Prelude.{◌≤◌, List, length, IfSome}
use Rattle.std.specs.List.{AllByRecursion}
use Rattle.ae_base.specs.Limits.{most_change_files}
use Rattle.ae_exec.specs.Reading.{IsInside}
use Rattle.ae_dist.specs.declared.rows.Row.{Row}

-- there are no more than a change may have, and their versions end in the region
pub record AreReadable (rows : List Row) : Type 0 where
  pub few : length rows ≤ most_change_files
  pub inside : AllByRecursion (λ (row : Row). IfSome row.version IsInside) rows
