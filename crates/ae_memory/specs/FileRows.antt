-- Rows of files in memory, each with its directory and its path, and the trees that they make.
use Rattle.std.specs.Prelude.{◌≡◌, ◌≢◌, ℕ, Bool, ◌&&◌, if◌then◌else◌, List, [], ◌∷◌, Option, Some, None}
use Rattle.std.specs.Str.{bytes_eq}
use Rattle.ae_outside.specs.Dirs.{dir_eq}
use Rattle.ae_outside.specs.Trees.{Tree, with_file}
use Rattle.ae_outside.specs.declared.dir.Dir.{Dir}
use Rattle.ae_memory.specs.declared.site_files.FileRow.{FileRow}

-- whether the row is of this file
abbrev pub is_at : Dir → List ℕ → FileRow → Bool
is_at dir path row = dir_eq row.dir dir && bytes_eq row.path path

-- what the last row of the file holds, and this before where there is none
abbrev pub bytes_after : Option (List ℕ) → List FileRow → Dir → List ℕ → Option (List ℕ)
bytes_after before [] dir path = before
bytes_after before (row ∷ rows) dir path = bytes_after (if is_at dir path row then Some row.bytes else before) rows dir path

-- the last row of a file counts
abbrev pub tree_of : List FileRow → Dir → Tree
tree_of rows dir path = bytes_after None rows dir path

-- the tree of a directory with one row more
abbrev pub with_row : Dir → FileRow → Tree → Tree
with_row dir row tree = if dir_eq row.dir dir then with_file row.path (Some row.bytes) tree else tree

-- no other directory is changed
pub record ElsewhereSame (dir : Dir) (old new : Dir → Tree) : Type 0 where
  pub others : (d : Dir) → d ≢ dir → new d ≡ old d
