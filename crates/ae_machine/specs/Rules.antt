-- What the definitions that put row after row make, said by rules: which paths are there, with which rows, and in which order.
-- Where the records keep their rules, the paths of the file table and those of a change's files ascend.
use Rattle.std.specs.Prelude.{◌≡◌, ℕ, Bool, ◌&&◌, ◌||◌, not, List, Option, Some, None, if◌then◌else◌, is_some}
use Rattle.std.specs.List.{list_any, find}
use Rattle.std.specs.Option.{option_map}
use Rattle.std.specs.Str.{bytes_eq}
use Rattle.ae_base.specs.Rows.{Row, Rows, text_cmp}
use Rattle.ae_types.specs.declared.change.Change.{Change}
use Rattle.ae_types.specs.declared.change.ChangeFile.{ChangeFile}
use Rattle.ae_types.specs.Clashes.{has_path}
use Rattle.ae_types.specs.Found.{file_path, row_path, file_in, row_in, has_file}
use Rattle.ae_types.specs.Observation.{Observation}
use Rattle.ae_types.specs.Ordered.{Ascends, itself}
use Rattle.ae_types.specs.Phases.{is_remove}
use Rattle.ae_types.specs.Runs.{tests_of}
use Rattle.ae_types.specs.Trees.{TreeRow, tree_path, frozen_row, baseline_of, candidate_of}
use Rattle.ae_machine.specs.Call.{Call, Given}
use Rattle.ae_machine.specs.Freezing.{paths_ever}
use Rattle.ae_machine.specs.Paths.{is_in, paths_with}
use Rattle.ae_files.specs.InTree.{row_at}
use Rattle.ae_machine.specs.Sight.{read_at, paths_read, base_tree}
use Rattle.ae_evidence.specs.Directories.{bytes_of}

-- ---- what ascends

-- the paths of the file table ascend
abbrev pub TableAscends : Observation → Type 0
TableAscends o = Ascends text_cmp row_path o.files

-- the paths of a change's files ascend
abbrev pub FilesAscend : List ChangeFile → Type 0
FilesAscend files = Ascends text_cmp file_path files

-- these paths ascend
abbrev pub PathsAscend : List (List ℕ) → Type 0
PathsAscend paths = Ascends text_cmp itself paths

-- ---- the paths that the project would have

-- a file of the change is there unless it is removed; outside the change it is as below
abbrev pub there_by : Option ChangeFile → Bool → Bool
there_by (Some file) below = not (is_remove file.action)
there_by None below = below

-- a path is there where the change has a file of it and doesn't remove it, or has none and the baseline has; and they ascend
pub record ArePathsWith (o : Observation) (files : List ChangeFile) : Type 0 where
  pub there : (path : List ℕ) → has_path (paths_with o files) path ≡ there_by (file_in files path) (is_in (baseline_of o) path)
  pub ascend : PathsAscend (paths_with o files)

-- they are so with any files, where these ascend, and the file table
abbrev pub PathsWithRule : Type 0
PathsWithRule = (o : Observation) (files : List ChangeFile) → TableAscends o → FilesAscend files → ArePathsWith o files

-- ---- the paths that it has or had

-- a path is there where the change has a file of it, or the file table a row; and they ascend
pub record ArePathsEver (o : Observation) (change : Change) : Type 0 where
  pub there : (path : List ℕ) → has_path (paths_ever o change) path ≡ (has_file change path || is_some (row_in o.files path))
  pub ascend : PathsAscend (paths_ever o change)

-- they are so with any change, where the file table ascends
abbrev pub PathsEverRule : Type 0
PathsEverRule = (o : Observation) (change : Change) → TableAscends o → ArePathsEver o change

-- ---- the candidate

-- a file of the change gives the row that it froze, or none; outside the change the row is that below
abbrev pub row_by : Option ChangeFile → Option TreeRow → Option TreeRow
row_by (Some file) below = frozen_row file
row_by None below = below

-- the row at a path is what the change froze of it, and outside the change the baseline's; and the paths ascend
pub record IsCandidate (o : Observation) (change : Change) : Type 0 where
  pub rows : (path : List ℕ) → row_at (candidate_of o change) path ≡ row_by (file_in change.files path) (row_at (baseline_of o) path)
  pub ascend : Ascends text_cmp tree_path (candidate_of o change)

-- it is so of any change, where its files ascend, and the file table
abbrev pub CandidateRule : Type 0
CandidateRule = (o : Observation) (change : Change) → TableAscends o → FilesAscend change.files → IsCandidate o change

-- ---- the tree that tests on the baseline run on

-- a row's path
abbrev pub path_of_row : Row → List ℕ
path_of_row row = row.0

-- the row of this path
abbrev pub bytes_row_at : Rows → List ℕ → Option Row
bytes_row_at rows path = find (λ row. bytes_eq path (path_of_row row)) rows

-- the path is read, and a test of the change
abbrev pub is_test_read : Call → Change → List ℕ → Bool
is_test_read call change path = has_path (paths_read call change) path && list_any (bytes_eq path) (tests_of change)

-- a tree's file, with its bytes
abbrev pub row_with_bytes : (ℕ → List ℕ) → TreeRow → Row
row_with_bytes bytes row = (row.path, Some (bytes row.version.number))

-- what was read at a path, where it is a test of the change, and the baseline's bytes elsewhere
abbrev pub row_of_base : Given → Change → List ℕ → Option Row
row_of_base given change path =
    if is_test_read given.call change path then Some (path, bytes_of (read_at given.view path))
    else option_map (row_with_bytes given.bytes) (row_at (baseline_of given.call.stands) path)

-- the row at each path is that one, and the paths ascend
pub record IsBaseTree (given : Given) (change : Change) : Type 0 where
  pub rows : (path : List ℕ) → bytes_row_at (base_tree given change) path ≡ row_of_base given change path
  pub ascend : Ascends text_cmp path_of_row (base_tree given change)

-- it is so with any change, where its files ascend, and the file table
abbrev pub BaseTreeRule : Type 0
BaseTreeRule = (given : Given) (change : Change) → TableAscends given.call.stands → FilesAscend change.files → IsBaseTree given change
