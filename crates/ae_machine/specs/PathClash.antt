-- How the least path that clashes is found where the files were clear before: by the path alone that was put or taken since.
use Rattle.std.specs.Prelude.{◌≡◌, ◌⊎◌, ℕ, Bool, true, false, ◌&&◌, ◌||◌, not, if◌then◌else◌, List, [], ◌∷◌, Option, Some, None}
use Rattle.std.specs.Option.{option_and_then, option_or}
use Rattle.std.specs.Ordering.{is_eq, is_lt, nat_cmp, ordering_then}
use Rattle.std.specs.declared.cmp.Ordering.{Ordering}
use Rattle.std.specs.declared.cmp.Ordering.TheVariants.{Less}
use Rattle.ae_base.specs.Bytes.{slash}
use Rattle.ae_base.specs.Names.{IsFolderOf}
use Rattle.ae_types.specs.declared.change.ChangeFile.{ChangeFile}
use Rattle.ae_types.specs.Clashes.{has_path}
use Rattle.ae_types.specs.Found.{file_path, row_path}
use Rattle.ae_types.specs.Observation.{Observation}
use Rattle.ae_types.specs.Phases.{is_remove}
use Rattle.ae_words.specs.declared.table.Function.{Function}
use Rattle.ae_words.specs.declared.table.Function.TheVariants as function
use Rattle.ae_machine.specs.LeastClash.{folder_in, path_in, row_stays}
use Rattle.ae_machine.specs.Paths.{paths_with}

-- of two paths of the project that clash, one is this path
abbrev pub IsClearBut : List ℕ → Observation → List ChangeFile → Type 0
IsClearBut path o files =
    (folder other : List ℕ) → has_path (paths_with o files) folder ≡ true → has_path (paths_with o files) other ≡ true → IsFolderOf folder other → (folder ≡ path) ⊎ (other ≡ path)

-- the functions that ask for clashes after each path
abbrev pub asks_for_clashes : Function → Bool
asks_for_clashes function.CopyFile = true
asks_for_clashes function.NewFile = true
asks_for_clashes function.NewTest = true
asks_for_clashes function.RemoveFileUndo = true
asks_for_clashes _ = false

-- ---- the paths that lie in a folder stand together

-- where the path stands to those that lie in the folder: before them, among them or after them
abbrev pub place_to : List ℕ → List ℕ → Ordering
place_to [] [] = Less
place_to [] (b ∷ bs) = nat_cmp b slash
place_to (a ∷ folder) [] = Less
place_to (a ∷ folder) (b ∷ path) = ordering_then (nat_cmp b a) (place_to folder path)

-- the rows from the first on that doesn't stand before the folder's
abbrev pub from_folder : {A : Type 0} → (A → List ℕ) → List ℕ → List A → List A
from_folder key folder [] = []
from_folder key folder (row ∷ rows) = if is_lt (place_to folder (key row)) then from_folder key folder rows else row ∷ rows

-- one of the first rows, as far as they lie in the folder, passes the test
abbrev pub any_in_folder : {A : Type 0} → (A → List ℕ) → (A → Bool) → List ℕ → List A → Bool
any_in_folder key test folder [] = false
any_in_folder key test folder (row ∷ rows) = is_eq (place_to folder (key row)) && (test row || any_in_folder key test folder rows)

-- ---- the test of one path

-- the change doesn't remove the file
abbrev pub file_stays : ChangeFile → Bool
file_stays file = not (is_remove file.action)

-- a path of the project lies in the folder
abbrev pub holds_paths : Observation → List ChangeFile → List ℕ → Bool
holds_paths o files folder =
    any_in_folder row_path (row_stays o files) folder (from_folder row_path folder o.files)
    || any_in_folder file_path file_stays folder (from_folder file_path folder files)

-- the shortest folder on the way to the path, and else the path itself where another one lies in it
abbrev pub clash_at : Observation → List ChangeFile → List ℕ → List ℕ → Option (List ℕ)
clash_at o files path own = option_or (folder_in (paths_with o files) path) (if holds_paths o files path then Some own else None)

-- the least path that clashes, where the path is one of any two that do
abbrev pub path_clash : Observation → List ChangeFile → List ℕ → Option (List ℕ)
path_clash o files path = option_and_then (clash_at o files path) (path_in (paths_with o files) path)
