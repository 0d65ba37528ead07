-- How the least path that clashes is found: as the least folder on the way to a path that is itself a path of the project.
use Rattle.std.specs.Prelude.{Bool, ◌&&◌, if◌then◌else◌, ℕ, List, [], ◌∷◌, Option, Some, None, is_some}
use Rattle.std.specs.List.{find}
use Rattle.std.specs.Option.{is_none, option_and_then}
use Rattle.std.specs.Ordering.{is_lt}
use Rattle.ae_types.specs.declared.change.ChangeFile.{ChangeFile}
use Rattle.ae_types.specs.declared.file_table.FileRow.{FileRow}
use Rattle.ae_types.specs.Clashes.{folders_of, has_path}
use Rattle.ae_types.specs.Found.{file_in, row_in}
use Rattle.ae_types.specs.Observation.{Observation}
use Rattle.ae_types.specs.Phases.{is_remove}
use Rattle.ae_types.specs.Trees.{last_delta, tree_row}
use Rattle.ae_base.specs.Rows.{text_cmp}
use Rattle.ae_machine.specs.Paths.{paths_with}

-- the path, where it is among these
abbrev pub path_in : List (List ℕ) → List ℕ → Option (List ℕ)
path_in paths path = if has_path paths path then Some path else None

-- the path, where it stands in the baseline
abbrev pub standing_path : Observation → List ℕ → Option (List ℕ)
standing_path o path = if is_some (option_and_then (tree_row (last_delta o)) (row_in o.files path)) then Some path else None

-- the shortest folder on the way to the path that is among these
abbrev pub folder_in : List (List ℕ) → List ℕ → Option (List ℕ)
folder_in paths path = find (has_path paths) (folders_of path)

-- the lesser of two texts, where both are there
abbrev pub lesser : Option (List ℕ) → Option (List ℕ) → Option (List ℕ)
lesser None other = other
lesser (Some one) None = Some one
lesser (Some one) (Some other) = if is_lt (text_cmp other one) then Some other else Some one

-- the least of what was found before and of what each of these gives
abbrev pub least_from : {A : Type 0} → (A → Option (List ℕ)) → Option (List ℕ) → List A → Option (List ℕ)
least_from give before [] = before
least_from give before (x ∷ xs) = least_from give (lesser before (give x)) xs

-- the row stands in the baseline, and isn't in the change
abbrev pub row_stays : Observation → List ChangeFile → FileRow → Bool
row_stays o files row = is_some (tree_row (last_delta o) row) && is_none (file_in files row.path)

-- the folder on the way to the path of a row, where the row stands in the baseline and isn't in the change
abbrev pub row_folder : Observation → List ChangeFile → FileRow → Option (List ℕ)
row_folder o files row = if row_stays o files row then folder_in (paths_with o files) row.path else None

-- the folder on the way to the path of a file, where the change doesn't remove it
abbrev pub file_folder : Observation → List ChangeFile → ChangeFile → Option (List ℕ)
file_folder o files file = if is_remove file.action then None else folder_in (paths_with o files) file.path

abbrev pub rows_folder : Observation → List ChangeFile → Option (List ℕ)
rows_folder o files = least_from (row_folder o files) None o.files

-- the least folder of all
abbrev pub least_folder : Observation → List ChangeFile → Option (List ℕ)
least_folder o files = least_from (file_folder o files) (rows_folder o files) files
