-- The files of a project at each delta, and the candidate of a change.
use Rattle.std.specs.Prelude.{ℕ, not, List, [], ◌∷◌, Option, Some, None, if◌then◌else◌, length, nat_le, filter, map}
use Rattle.std.specs.List.{filter_map}
use Rattle.std.specs.Option.{option_map, option_and_then}
use Rattle.ae_base.specs.Rows.{text_cmp}
use Rattle.ae_base.specs.declared.words.Usage.{Usage}
use Rattle.ae_types.specs.declared.change.Change.{Change}
use Rattle.ae_types.specs.declared.change.ChangeFile.{ChangeFile}
use Rattle.ae_types.specs.declared.file_table.FileRow.{FileRow}
use Rattle.ae_types.specs.declared.file_table.FileVersion.{FileVersion}
use Rattle.ae_types.specs.declared.version.VersionRef.{VersionRef}
use Rattle.ae_types.specs.Observation.{Observation}
use Rattle.ae_types.specs.Ordered.{put_by}
use Rattle.ae_types.specs.Found.{entry_delta, row_in, has_file}

-- a file of a tree
pub record TreeRow : Type 0 where
  pub path : List ℕ
  pub usage : Usage
  pub version : VersionRef

abbrev pub tree_path : TreeRow → List ℕ
tree_path row = row.path

abbrev pub past_in : Option FileRow → List FileVersion
past_in (Some row) = row.past
past_in None = []

-- what each delta made of the path
abbrev pub past_of : Observation → List ℕ → List FileVersion
past_of o path = past_in (row_in o.files path)

-- how many deltas have changed the path
abbrev pub edit_of : Observation → List ℕ → ℕ
edit_of o path = length (past_of o path)

-- the entry, where there is no later one
abbrev pub unless_later : {A : Type 0} → A → Option A → Option A
unless_later entry (Some later) = Some later
unless_later entry None = Some entry

-- the last entry up to a delta, of entries that each have one
abbrev pub last_by : {A : Type 0} → (A → ℕ) → ℕ → List A → Option A
last_by delta_of delta [] = None
last_by delta_of delta (entry ∷ past) = if nat_le (delta_of entry) delta then unless_later entry (last_by delta_of delta past) else last_by delta_of delta past

abbrev pub last_up_to : ℕ → List FileVersion → Option FileVersion
last_up_to = last_by entry_delta

-- the file that an entry makes of a path, where it doesn't remove it
abbrev pub entry_row : List ℕ → FileVersion → Option TreeRow
entry_row path entry = option_map (λ version. record { path = path; usage = entry.usage; version = version }) entry.version

-- the file at a delta
abbrev pub tree_row : ℕ → FileRow → Option TreeRow
tree_row delta row = option_and_then (entry_row row.path) (last_up_to delta row.past)

-- the files at a delta: those that the last entry up to it doesn't remove
abbrev pub tree_at : ℕ → List FileRow → List TreeRow
tree_at delta rows = filter_map (tree_row delta) rows

abbrev pub tree_of : Observation → ℕ → List TreeRow
tree_of o delta = tree_at delta o.files

-- the number of the last delta, 0 where there is none
abbrev pub last_delta : Observation → ℕ
last_delta o = length o.project.deltas

-- the files at the last delta
abbrev pub baseline_of : Observation → List TreeRow
baseline_of o = tree_of o (last_delta o)

-- a frozen file of a change
abbrev pub frozen_row : ChangeFile → Option TreeRow
frozen_row file = option_map (λ version. record { path = file.path; usage = file.usage; version = version }) file.frozen

-- the rows with each of these in its place
abbrev pub put_rows : List TreeRow → List TreeRow → List TreeRow
put_rows [] rows = rows
put_rows (row ∷ more) rows = put_rows more (put_by text_cmp tree_path row rows)

-- the files of a tree that aren't in the change, with the change's frozen files
abbrev pub overlaid : List TreeRow → Change → List TreeRow
overlaid tree change = put_rows (filter_map frozen_row change.files) (filter (λ (row : TreeRow). not (has_file change row.path)) tree)

-- what the baseline would be after the change
abbrev pub candidate_of : Observation → Change → List TreeRow
candidate_of o change = overlaid (baseline_of o) change

abbrev pub paths_of : List TreeRow → List (List ℕ)
paths_of rows = map tree_path rows
