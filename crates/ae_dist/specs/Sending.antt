-- What is sent of a completed change.
use Rattle.std.specs.Prelude.{◌+◌, ℕ, Bool, false, ◌&&◌, not, if◌then◌else◌, List, [], ◌∷◌, map, Option, Some, None, length, nat_le, codes}
use Rattle.std.specs.List.{list_all, filter_map}
use Rattle.std.specs.Option.{option_map_or, option_and_then}
use Rattle.std.specs.Str.{bytes_eq}
use Rattle.ae_base.specs.Limits.{most_attribute_bytes, most_change_files, most_frozen_bytes}
use Rattle.ae_base.specs.declared.refusal.Refusal.{Refusal}
use Rattle.ae_base.specs.declared.refusal.Refusal.TheVariants.{NoProject, WrongProject, NoSuchChange, WrongPhase, BadBundle}
use Rattle.ae_outside.specs.Image.{Image}
use Rattle.ae_types.specs.declared.change.Change.{Change}
use Rattle.ae_types.specs.declared.change.ChangeFile.{ChangeFile}
use Rattle.ae_types.specs.declared.file_table.FileVersion.{FileVersion}
use Rattle.ae_types.specs.declared.project.DeltaRow.{DeltaRow}
use Rattle.ae_types.specs.declared.version.VersionRef.{VersionRef}
use Rattle.ae_types.specs.Found.{change_at, delta_of, entry_in}
use Rattle.ae_types.specs.Observation.{Observation}
use Rattle.ae_types.specs.Phases.{is_completed}
use Rattle.ae_types.specs.Rules.{same_bool}
use Rattle.ae_types.specs.Trees.{past_of}
use Rattle.ae_exec.specs.Bytes.{bytes_at}
use Rattle.ae_dist.specs.declared.rows.Row.{Row}
use Rattle.ae_bundle.specs.declared.bundle.Bundle.{Bundle}
use Rattle.ae_bundle.specs.declared.bundle.BundleFile.{BundleFile}
use Rattle.ae_bundle.specs.Bundled.{is_config, most_bytes_of}

-- ---- the rows that are sent: the change's files, each with the version that its delta made of it, none where it is removed

-- the version that a delta made of a path
abbrev pub version_at : Observation → ℕ → List ℕ → Option VersionRef
version_at o delta path = option_and_then (λ (entry : FileVersion). entry.version) (entry_in (past_of o path) delta)

abbrev pub sent_row : Observation → ℕ → ChangeFile → Row
sent_row o delta file = record { path = file.path; action = file.action; usage = file.usage; version = version_at o delta file.path }

-- the delta that the change made; 0 where it made none
abbrev pub delta_made : Observation → Change → ℕ
delta_made o change = option_map_or (λ (delta : DeltaRow). delta.delta) (delta_of o.project.deltas change.number) 0

abbrev pub sent_rows : Observation → Change → List Row
sent_rows o change = map (sent_row o (delta_made o change)) change.files

-- ---- which changes can be sent

abbrev pub path_of_row : Row → List ℕ
path_of_row row = row.path

abbrev pub size_of : Row → ℕ
size_of row = option_map_or (λ (version : VersionRef). version.length) row.version 0

abbrev pub row_fits : Row → Bool
row_fits row = same_bool (is_config row.usage) (bytes_eq row.path (codes "aegis.conf")) && nat_le (size_of row) (most_bytes_of row.action)

abbrev pub sizes_of : List Row → ℕ
sizes_of [] = 0
sizes_of (row ∷ rows) = size_of row + sizes_of rows

-- its records alone say that a text of a change set can say it, before any version is read
abbrev pub can_be_sent : Change → List Row → Bool
can_be_sent change rows =
    nat_le (length change.attributes.brief) most_attribute_bytes && nat_le (length change.attributes.description) most_attribute_bytes
    && nat_le 1 (length rows) && nat_le (length rows) most_change_files && list_all row_fits rows && nat_le (sizes_of rows) most_frozen_bytes

-- why a change isn't sent
abbrev pub refuses_change : Observation → Option Change → Option Refusal
refuses_change o None = Some NoSuchChange
refuses_change o (Some change) =
    if not (is_completed change.phase) then Some (WrongPhase change.phase)
    else if not (can_be_sent change (sent_rows o change)) then Some BadBundle
    else None

-- the project that is named, if one is, is another
abbrev pub is_other : Option (List ℕ) → Observation → Bool
is_other None o = false
is_other (Some name) o = not (bytes_eq name o.project.name)

-- why a call that names a project, or none, doesn't go on
abbrev pub refuses_project : Option (List ℕ) → Option Observation → Option Refusal
refuses_project name None = Some NoProject
refuses_project name (Some o) = if is_other name o then Some WrongProject else None

-- the first reason, and the second where there is no first
abbrev pub or_refuses : Option Refusal → Option Refusal → Option Refusal
or_refuses (Some refusal) next = Some refusal
or_refuses None next = next

-- why the change of this number isn't sent of what stands, for a call that names a project, or none: the first of these reasons
abbrev pub refuses_sending : Option (List ℕ) → ℕ → Option Observation → Option Refusal
refuses_sending name number stands = or_refuses (refuses_project name stands) (option_and_then (λ (o : Observation). refuses_change o (change_at o number)) stands)

-- ---- the change set

-- the versions that are read, in their order
abbrev pub versions_of : List Row → List VersionRef
versions_of rows = filter_map (λ (row : Row). row.version) rows

-- a file with the bytes that these files of the disk have of its version
abbrev pub sent_file : Option Image → Row → BundleFile
sent_file files row = record { path = row.path; action = row.action; usage = row.usage; bytes = option_map_or (bytes_at files) row.version [] }

abbrev pub sent_bundle : Option Image → Change → List Row → Bundle
sent_bundle files change rows = record {
  brief = change.attributes.brief;
  description = change.attributes.description;
  cause = change.attributes.cause;
  files = map (sent_file files) rows;
}
