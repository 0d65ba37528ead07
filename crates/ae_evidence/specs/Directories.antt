-- Directories: what their changes make of them, and what was read of a file.
use Rattle.std.specs.Prelude.{◌≡◌, Bool, false, ◌||◌, ℕ, List, [], ◌∷◌, Option, Some, None, if◌then◌else◌, is_some}
use Rattle.ae_outside.specs.declared.dir.Content.{Content}
use Rattle.ae_outside.specs.declared.dir.Content.TheVariants.{Bytes}
use Rattle.ae_outside.specs.declared.dir.Dir.{Dir}
use Rattle.ae_outside.specs.Dirs.{dir_eq}
use Rattle.ae_outside.specs.Site.{SiteState}
use Rattle.ae_outside.specs.Trees.{Tree, no_files, with_file, with_rows, steps_over}
use Rattle.ae_evidence.specs.declared.directories.DirChange.{DirChange}
use Rattle.ae_evidence.specs.declared.directories.DirChange.TheVariants.{Fill, Put, Make}

-- ---- changes of directories

-- the directories with this one changed
abbrev pub with_dir : Dir → Tree → (Dir → Tree) → Dir → Tree
with_dir dir tree trees other = if dir_eq dir other then tree else trees other

-- the tree with an empty file at the path, where it has none
abbrev pub with_some_file : List ℕ → Tree → Tree
with_some_file path tree = if is_some (tree path) then tree else with_file path (Some []) tree

abbrev pub with_some_files : List (List ℕ) → Tree → Tree
with_some_files paths tree = steps_over with_some_file paths tree

-- the directory that a change is of, and what it makes of it
abbrev pub dir_of : DirChange → Dir
dir_of (Fill dir rows) = dir
dir_of (Put dir rows) = dir
dir_of (Make dir paths) = dir

abbrev pub tree_after : DirChange → Tree → Tree
tree_after (Fill dir rows) tree = with_rows rows no_files
tree_after (Put dir rows) tree = with_rows rows tree
tree_after (Make dir paths) tree = with_some_files paths tree

abbrev pub dir_after : DirChange → (Dir → Tree) → Dir → Tree
dir_after change trees = with_dir (dir_of change) (tree_after change (trees (dir_of change))) trees

-- the directories after changes, one after another
abbrev pub dirs_after : List DirChange → (Dir → Tree) → Dir → Tree
dirs_after [] trees = trees
dirs_after (change ∷ changes) trees = dirs_after changes (dir_after change trees)

-- a change is of this directory
abbrev pub is_changed : Dir → List DirChange → Bool
is_changed dir [] = false
is_changed dir (change ∷ changes) = dir_eq (dir_of change) dir || is_changed dir changes

-- nothing was run, and no directory is changed but those of these changes
pub record ChangesThese (changes : List DirChange) (old new : SiteState) : Type 0 where
  pub others : (dir : Dir) → is_changed dir changes ≡ false → new.trees dir ≡ old.trees dir
  pub runs : new.runs ≡ old.runs

-- ---- what was read of a file

abbrev pub bytes_of : Content → Option (List ℕ)
bytes_of (Bytes bytes) = Some bytes
bytes_of _ = None
