-- What stands of a project, but for the bytes of its versions.
use Rattle.std.specs.Prelude.{ℕ, List}
use Rattle.ae_types.specs.declared.change.Change.{Change}
use Rattle.ae_types.specs.declared.file_table.FileRow.{FileRow}
use Rattle.ae_types.specs.declared.file_table.Lock.{Lock}
use Rattle.ae_types.specs.declared.project.Project.{Project}

-- the project, the numbers of all its changes, its files and locks, and those of its changes that are looked at
pub record Observation : Type 0 where
  pub project : Project
  pub numbers : List ℕ
  pub files : List FileRow
  pub locks : List Lock
  pub changes : List Change
