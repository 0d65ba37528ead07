-- What a command sees of the directories: the files that it reads, and the trees that they make.
use Rattle.std.specs.Prelude.{ℕ, Bool, not, List, [], ◌∷◌, map, codes, Option, Some, None, if◌then◌else◌, filter}
use Rattle.std.specs.List.{list_any, find}
use Rattle.std.specs.Str.{bytes_eq}
use Rattle.ae_base.specs.Rows.{Row, Rows, put_row}
use Rattle.ae_outside.specs.declared.dir.Content.{Content}
use Rattle.ae_outside.specs.declared.dir.Content.TheVariants.{Absent}
use Rattle.ae_files.specs.InTree.{row_at}
use Rattle.ae_types.specs.declared.change.Change.{Change}
use Rattle.ae_types.specs.declared.change.ChangeFile.{ChangeFile}
use Rattle.ae_types.specs.Found.{file_path}
use Rattle.ae_types.specs.Phases.{is_remove, is_integrating}
use Rattle.ae_types.specs.Runs.{tests_of}
use Rattle.ae_types.specs.Trees.{TreeRow, paths_of, baseline_of, candidate_of}
use Rattle.ae_words.specs.Meaning.{is_config}
use Rattle.ae_evidence.specs.Directories.{bytes_of}
use Rattle.ae_machine.specs.declared.view.View.{View}
use Rattle.ae_machine.specs.Call.{Call, Given}

-- ---- trees of what stands

-- the files of a tree, with their bytes
abbrev pub with_bytes : (ℕ → List ℕ) → List TreeRow → Rows
with_bytes bytes rows = map (λ (row : TreeRow). (row.path, Some (bytes row.version.number))) rows

abbrev pub config_path : List ℕ
config_path = codes "aegis.conf"

-- ---- what is read

-- the paths of files that aren't removed
abbrev pub kept : List ChangeFile → List (List ℕ)
kept files = map file_path (filter (λ (file : ChangeFile). not (is_remove file.action)) files)

-- those of the change's files
abbrev pub kept_paths : Change → List (List ℕ)
kept_paths change = kept change.files

-- the paths whose files are read: those that the change keeps, and in integration those of its candidate
abbrev pub paths_read : Call → Change → List (List ℕ)
paths_read call change = if is_integrating change.phase then paths_of (candidate_of call.stands change) else kept_paths change

-- the change has a row for aegis.conf
abbrev pub has_config : Change → Bool
has_config change = list_any is_config (map file_path change.files)

-- the baseline's aegis.conf, where the commands are taken from it: in development, where the change has no row for it
abbrev pub config_below : Call → Change → Option TreeRow
config_below call change =
    if is_integrating change.phase then None
    else if has_config change then None
    else row_at (baseline_of call.stands) config_path

abbrev pub content_of : Option (List ℕ × Content) → Content
content_of (Some row) = row.1
content_of None = Absent

-- what was read at a path
abbrev pub read_at : View → List ℕ → Content
read_at view path = content_of (find (λ (row : List ℕ × Content). bytes_eq path row.0) view.develop)

-- ---- the trees that it makes

-- what was read of the files that are read
abbrev pub tree_read : Given → Change → Rows
tree_read given change = map (λ path. (path, bytes_of (read_at given.view path))) (paths_read given.call change)

-- the bytes that were read of a file, none where the change removes it
abbrev pub bytes_read : View → ChangeFile → Option (List ℕ)
bytes_read view file = if is_remove file.action then None else bytes_of (read_at view file.path)

-- the change's files with what was read of them, the removed ones too
abbrev pub change_tree : Given → Change → Rows
change_tree given change = map (λ (file : ChangeFile). (file.path, bytes_read given.view file)) change.files

-- a tree with each of these files in its place
abbrev pub overlaid : Rows → Rows → Rows
overlaid tree [] = tree
overlaid tree (row ∷ rows) = overlaid (put_row row.0 row.1 tree) rows

-- of these files, those that are tests of the change
abbrev pub only_tests : Change → Rows → Rows
only_tests change rows = filter (λ (row : Row). list_any (bytes_eq row.0) (tests_of change)) rows

-- the baseline with the change's tests over it
abbrev pub base_tree : Given → Change → Rows
base_tree given change = overlaid (with_bytes given.bytes (baseline_of given.call.stands)) (only_tests change (tree_read given change))
