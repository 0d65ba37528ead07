-- Tests of one file beside the locks and the changes.
use Rattle.std.specs.Prelude.{ℕ, Bool, List, nat_eq}
use Rattle.std.specs.List.{list_all}
use Rattle.ae_types.specs.declared.change.Change.{Change}
use Rattle.ae_types.specs.declared.change.ChangeFile.{ChangeFile}
use Rattle.ae_types.specs.declared.file_table.FileRow.{FileRow}
use Rattle.ae_types.specs.declared.file_table.Lock.{Lock}
use Rattle.ae_types.specs.declared.project.DeltaRow.{DeltaRow}
use Rattle.ae_types.specs.Rules.{entry_has_file}
use Rattle.ae_types.specs.Found.{lock_in, there_and}

-- the file has a lock of the change of this number
abbrev pub file_has_lock : List Lock → ℕ → ChangeFile → Bool
file_has_lock locks number file = there_and (lock_in locks file.path) (λ lock. nat_eq lock.change number)

-- each entry of the row is of a change that has the path
abbrev pub row_has_files : List DeltaRow → List Change → FileRow → Bool
row_has_files deltas changes row = list_all (entry_has_file deltas changes row.path) row.past
