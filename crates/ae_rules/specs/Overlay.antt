-- The tree at the last delta, or the candidate of a change.
use Rattle.std.specs.Prelude.{ℕ, Bool, false, not, ◌||◌, List, Option, Some, None, is_some, IfSome}
use Rattle.std.specs.List.{list_all}
use Rattle.ae_types.specs.declared.change.Change.{Change}
use Rattle.ae_types.specs.declared.change.ChangeFile.{ChangeFile}
use Rattle.ae_types.specs.declared.file_table.FileRow.{FileRow}
use Rattle.ae_types.specs.Ordered.{Ascends}
use Rattle.ae_types.specs.Clashes.{has_path, folders_of}
use Rattle.ae_types.specs.Found.{file_path, row_path, has_file}
use Rattle.ae_types.specs.Trees.{tree_row, tree_at, overlaid, paths_of}
use Rattle.ae_base.specs.Rows.{text_cmp}

-- the paths of the tree, with the change's over it where there is one
abbrev pub paths_over : ℕ → List FileRow → Option Change → List (List ℕ)
paths_over deltas rows None = paths_of (tree_at deltas rows)
paths_over deltas rows (Some change) = paths_of (overlaid (tree_at deltas rows) change)

-- rows and files ascend
abbrev pub AreOrdered : List FileRow → Option Change → Type 0
AreOrdered rows change = Ascends text_cmp row_path rows × IfSome change (λ (change : Change). Ascends text_cmp file_path change.files)

-- there is a change, and the path is in it
abbrev pub is_in : Option Change → List ℕ → Bool
is_in None path = false
is_in (Some change) path = has_file change path

-- no folder on the way to the path is one of these
abbrev pub is_clear : List (List ℕ) → List ℕ → Bool
is_clear paths path = list_all (λ folder. not (has_path paths folder)) (folders_of path)

-- the row doesn't stand in the tree, or its path is in the change, or it is clear
abbrev pub row_is_clear : ℕ → List FileRow → Option Change → FileRow → Bool
row_is_clear deltas rows change row = not (is_some (tree_row deltas row)) || is_in change row.path || is_clear (paths_over deltas rows change) row.path

-- the file isn't frozen, or is clear
abbrev pub file_is_clear : ℕ → List FileRow → Change → ChangeFile → Bool
file_is_clear deltas rows change file = not (is_some file.frozen) || is_clear (paths_over deltas rows (Some change)) file.path
