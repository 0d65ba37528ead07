-- The names of the state files.
use Rattle.std.specs.Prelude.{ℕ, List, ◌++◌, codes}
use Rattle.std.specs.Fmt.{decimal}
use Rattle.ae_types.specs.declared.blame.Blame.{Blame}
use Rattle.ae_types.specs.declared.blame.Blame.TheVariants as blame

abbrev pub project_file : List ℕ
project_file = codes "project"

abbrev pub files_file : List ℕ
files_file = codes "files"

-- "change." and the number of the change
abbrev pub change_file : ℕ → List ℕ
change_file number = codes "change." ++ decimal number

-- the name of the file that is blamed
abbrev pub blamed_file : Blame → List ℕ
blamed_file blame.Project = project_file
blamed_file blame.Files = files_file
blamed_file (blame.Change number) = change_file number
