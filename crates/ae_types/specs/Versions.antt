-- The versions of files: where each stands in the records, and which units of the packed region it takes.
use Rattle.std.specs.Prelude.{ℕ, ◌+◌, ◌/◌, Bool, true, ◌&&◌, not, List, [], ◌∷◌, ◌++◌, Option, nat_eq, nat_lt, flat_map}
use Rattle.std.specs.List.{list_any, filter_map}
use Rattle.std.specs.Option.{option_and_then}
use Rattle.ae_types.specs.declared.change.Change.{Change}
use Rattle.ae_types.specs.declared.change.ChangeFile.{ChangeFile}
use Rattle.ae_types.specs.declared.file_table.FileRow.{FileRow}
use Rattle.ae_types.specs.declared.file_table.FileVersion.{FileVersion}
use Rattle.ae_types.specs.declared.version.VersionRef.{VersionRef}
use Rattle.ae_types.specs.Found.{change_in, file_in, row_in, entry_in}

-- ---- the versions that stand in the records

-- those of a row of the file table, and the frozen ones of a change
abbrev pub past_versions : FileRow → List VersionRef
past_versions row = filter_map (λ (entry : FileVersion). entry.version) row.past

abbrev pub frozen_versions : Change → List VersionRef
frozen_versions change = filter_map (λ (file : ChangeFile). file.frozen) change.files

-- those of the file table, and the frozen ones of the changes
abbrev pub live : List FileRow → List Change → List VersionRef
live rows changes = flat_map past_versions rows ++ flat_map frozen_versions changes

-- where a version may stand: in the past of a path at a delta, or frozen in a change at a path
pub data Place : Type 0 where
  in_table : List ℕ → ℕ → Place
  in_change : ℕ → List ℕ → Place

abbrev pub version_at : List FileRow → List Change → Place → Option VersionRef
version_at rows changes (in_table path delta) = option_and_then (λ (row : FileRow). option_and_then (λ (entry : FileVersion). entry.version) (entry_in row.past delta)) (row_in rows path)
version_at rows changes (in_change number path) = option_and_then (λ (change : Change). option_and_then (λ (file : ChangeFile). file.frozen) (file_in change.files path)) (change_in changes number)

-- ---- units of 64 bytes

-- how many units hold so many bytes, and those of a version
abbrev pub units_for : ℕ → ℕ
units_for length = (length + 63) / 64

abbrev pub units : VersionRef → ℕ
units version = units_for version.length

abbrev pub has_units : VersionRef → Bool
has_units version = nat_lt 0 version.length

-- the first unit after it
abbrev pub end_of : VersionRef → ℕ
end_of version = version.at + units version

-- they share a unit
abbrev pub meet : VersionRef → VersionRef → Bool
meet one other = has_units one && has_units other && nat_lt one.at (end_of other) && nat_lt other.at (end_of one)

abbrev pub same_number : VersionRef → VersionRef → Bool
same_number one other = nat_eq one.number other.number

-- no two of them are so related
abbrev pub no_two : {A : Type 0} → (A → A → Bool) → List A → Bool
no_two related [] = true
no_two related (x ∷ xs) = not (list_any (related x) xs) && no_two related xs
