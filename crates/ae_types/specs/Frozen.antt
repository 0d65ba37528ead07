-- A frozen tree: the versions of its files, each with its number and its place, and when these places lie in free space.
use Rattle.std.specs.Prelude.{◌≡◌, ℕ, ◌+◌, ◌≤◌, true, List, [], ◌∷◌, Option, Some, None, length}
use Rattle.std.specs.List.{filter_map, find}
use Rattle.std.specs.Option.{option_map, option_and_then}
use Rattle.std.specs.Str.{bytes_eq}
use Rattle.sha2.specs.Sha256.{sha256}
use Rattle.ae_base.specs.Limits.{most_file_bytes, most_units}
use Rattle.ae_base.specs.Rows.{Rows}
use Rattle.ae_types.specs.declared.version.VersionRef.{VersionRef}
use Rattle.ae_types.specs.Observation.{Observation}
use Rattle.ae_types.specs.Versions.{Place, version_at, has_units, end_of, meet}

-- the bytes of a file as an End froze them, with their number and their place in the packed region
pub record Version : Type 0 where
  pub number : ℕ
  pub at : ℕ
  pub bytes : List ℕ

-- what the records keep of a version
abbrev pub ref_of : Version → VersionRef
ref_of version = record { number = version.number; at = version.at; length = length version.bytes; digest = sha256 version.bytes }

-- the bytes of the files that a tree doesn't remove
abbrev pub present : Rows → List (List ℕ)
present tree = filter_map (λ row. row.1) tree

-- ---- the files of a tree

-- a file of a frozen tree, with no version where it is removed
pub record FrozenFile : Type 0 where
  pub path : List ℕ
  pub version : Option Version

-- the first place, 0 where there is none
abbrev pub first_place : List ℕ → ℕ
first_place [] = 0
first_place (place ∷ places) = place

abbrev pub other_places : List ℕ → List ℕ
other_places [] = []
other_places (place ∷ places) = places

-- the files of a tree, with their versions numbered from next on, at these places
abbrev pub numbered : ℕ → Rows → List ℕ → List FrozenFile
numbered next [] places = []
numbered next ((path, None) ∷ rows) places = record { path = path; version = None } ∷ numbered next rows places
numbered next ((path, Some bytes) ∷ rows) places =
    record { path = path; version = Some (record { number = next; at = first_place places; bytes = bytes }) }
    ∷ numbered (next + 1) rows (other_places places)

-- the frozen file of this path
abbrev pub frozen_file : List FrozenFile → List ℕ → Option FrozenFile
frozen_file files path = find (λ (file : FrozenFile). bytes_eq path file.path) files

abbrev pub version_of : Option FrozenFile → Option Version
version_of file = option_and_then (λ (file : FrozenFile). file.version) file

-- ---- their places

-- the version that the tree makes of a path
abbrev pub made_version : ℕ → Rows → List ℕ → List ℕ → Option VersionRef
made_version next tree places path = option_map ref_of (version_of (frozen_file (numbered next tree places) path))

-- no version that is made is longer than 4 MiB; they end in the packed region, and share no unit with those that stand, nor
-- with one another
pub record AreInSpace (o : Observation) (tree : Rows) (places : List ℕ) : Type 0 where
  pub short : (path : List ℕ) (version : VersionRef) → made_version o.project.next_version tree places path ≡ Some version → version.length ≤ most_file_bytes
  pub inside : (path : List ℕ) (version : VersionRef) → made_version o.project.next_version tree places path ≡ Some version → has_units version ≡ true → end_of version ≤ most_units
  pub apart : (path other : List ℕ) (one two : VersionRef) → made_version o.project.next_version tree places path ≡ Some one → made_version o.project.next_version tree places other ≡ Some two → meet one two ≡ true → path ≡ other
  pub free : (path : List ℕ) (place : Place) (one two : VersionRef) → made_version o.project.next_version tree places path ≡ Some one → version_at o.files o.changes place ≡ Some two → meet one two ≡ true → ⊥
