-- What a key finds in the records.
use Rattle.std.specs.Prelude.{ℕ, Bool, true, false, List, Option, Some, None, nat_eq}
use Rattle.std.specs.List.{find}
use Rattle.std.specs.Str.{bytes_eq}
use Rattle.std.specs.Option.{option_map}
use Rattle.std.specs.Prelude.{is_some}
use Rattle.ae_types.specs.declared.change.Change.{Change}
use Rattle.ae_types.specs.declared.change.ChangeFile.{ChangeFile}
use Rattle.ae_types.specs.declared.file_table.FileRow.{FileRow}
use Rattle.ae_types.specs.declared.file_table.FileVersion.{FileVersion}
use Rattle.ae_types.specs.declared.file_table.Lock.{Lock}
use Rattle.ae_types.specs.declared.project.DeltaRow.{DeltaRow}
use Rattle.ae_types.specs.Observation.{Observation}

-- ---- keys

abbrev pub number_of_change : Change → ℕ
number_of_change change = change.number

abbrev pub file_path : ChangeFile → List ℕ
file_path file = file.path

abbrev pub row_path : FileRow → List ℕ
row_path row = row.path

abbrev pub entry_delta : FileVersion → ℕ
entry_delta entry = entry.delta

abbrev pub lock_path : Lock → List ℕ
lock_path lock = lock.path

abbrev pub number_of_delta : DeltaRow → ℕ
number_of_delta delta = delta.delta

-- ---- what they find

-- the change of this number
abbrev pub change_in : List Change → ℕ → Option Change
change_in changes number = find (λ change. nat_eq number (number_of_change change)) changes

-- the file of this path in a change
abbrev pub file_in : List ChangeFile → List ℕ → Option ChangeFile
file_in files path = find (λ file. bytes_eq path (file_path file)) files

-- the row of this path in the file table
abbrev pub row_in : List FileRow → List ℕ → Option FileRow
row_in rows path = find (λ row. bytes_eq path (row_path row)) rows

-- the entry of this delta in a file's past
abbrev pub entry_in : List FileVersion → ℕ → Option FileVersion
entry_in past delta = find (λ entry. nat_eq delta (entry_delta entry)) past

-- the lock of this path
abbrev pub lock_in : List Lock → List ℕ → Option Lock
lock_in locks path = find (λ lock. bytes_eq path (lock_path lock)) locks

-- the delta of this number
abbrev pub delta_in : List DeltaRow → ℕ → Option DeltaRow
delta_in deltas number = find (λ delta. nat_eq number (number_of_delta delta)) deltas

-- the delta that names this change
abbrev pub delta_of : List DeltaRow → ℕ → Option DeltaRow
delta_of deltas change = find (λ (delta : DeltaRow). nat_eq change delta.change) deltas

-- the number is among these
abbrev pub has_number : List ℕ → ℕ → Bool
has_number numbers number = is_some (find (λ other. nat_eq number other) numbers)

-- the path is in the change
abbrev pub has_file : Change → List ℕ → Bool
has_file change path = is_some (file_in change.files path)

-- ---- of an observation

abbrev pub change_at : Observation → ℕ → Option Change
change_at o number = change_in o.changes number

-- the change that holds the path
abbrev pub locked_of : Observation → List ℕ → Option ℕ
locked_of o path = option_map (λ (lock : Lock). lock.change) (lock_in o.locks path)

-- ---- tests of what is found

-- it is there, and passes
abbrev pub there_and : {A : Type 0} → Option A → (A → Bool) → Bool
there_and (Some found) test = test found
there_and None test = false

-- it passes, where it is there
abbrev pub if_there : {A : Type 0} → Option A → (A → Bool) → Bool
if_there (Some found) test = test found
if_there None test = true
