-- No path of a tree is a folder on the way to another.
use Rattle.std.specs.Prelude.{◌≡◌, ℕ, Bool, true, not, List, [], ◌∷◌, ◌++◌, map, if◌then◌else◌, is_some}
use Rattle.std.specs.List.{find, list_all}
use Rattle.std.specs.Str.{bytes_eq}
use Rattle.ae_base.specs.Names.{is_slash, IsFolderOf}

-- the folders on the way to a path: what stands before each of its `/`
abbrev pub folders_of : List ℕ → List (List ℕ)
folders_of [] = []
folders_of (b ∷ bs) = (if is_slash b then [] ∷ [] else []) ++ map (λ folder. b ∷ folder) (folders_of bs)

abbrev pub has_path : List (List ℕ) → List ℕ → Bool
has_path paths path = is_some (find (λ other. bytes_eq path other) paths)

-- no folder on the way to one of the paths is one of them
abbrev pub none_clash : List (List ℕ) → Bool
none_clash paths = list_all (λ path. list_all (λ folder. not (has_path paths folder)) (folders_of path)) paths

-- none of the paths is a folder on the way to another
abbrev pub NoneClash : List (List ℕ) → Type 0
NoneClash paths = (folder path : List ℕ) → has_path paths folder ≡ true → has_path paths path ≡ true → IsFolderOf folder path → ⊥
