-- What the end of a branch brings to the trunk: the paths that the branch changed, and what its baseline has at each.
use Rattle.std.specs.Prelude.{ℕ, Bool, if◌then◌else◌, List, map, filter, nat_lt, Option, Some, None}
use Rattle.std.specs.List.{list_any}
use Rattle.std.specs.Option.{option_map_or}
use Rattle.ae_base.specs.Rows.{Rows}
use Rattle.ae_base.specs.declared.words.Action.TheVariants.{Modify, Remove}
use Rattle.ae_base.specs.declared.words.Usage.{Usage}
use Rattle.ae_base.specs.declared.words.Usage.TheVariants.{Source}
use Rattle.ae_outside.specs.Image.{Image}
use Rattle.ae_types.specs.declared.file_table.FileRow.{FileRow}
use Rattle.ae_types.specs.declared.file_table.FileVersion.{FileVersion}
use Rattle.ae_types.specs.Found.{row_path}
use Rattle.ae_types.specs.Observation.{Observation}
use Rattle.ae_types.specs.Trees.{TreeRow, baseline_of, last_delta, last_up_to}
use Rattle.ae_types.specs.Phases.{is_remove}
use Rattle.ae_files.specs.InTree.{row_at}
use Rattle.ae_exec.specs.Bytes.{row_of_path}
use Rattle.ae_bundle.specs.declared.bundle.BundleFile.{BundleFile}
use Rattle.ae_dist.specs.declared.rows.Row.{Row}

-- ---- the paths

-- a delta after the first made this of a file: with the first one the branch began
abbrev pub is_later : FileVersion → Bool
is_later entry = nat_lt 1 entry.delta

-- the branch changed the file
abbrev pub is_changed : FileRow → Bool
is_changed row = list_any is_later row.past

-- the files that it changed, in the order of their paths
abbrev pub changed_rows : Observation → List FileRow
changed_rows o = filter is_changed o.files

abbrev pub changed_paths : Observation → List (List ℕ)
changed_paths o = map row_path (changed_rows o)

-- ---- what is brought

-- each of these paths, with the bytes of the baseline's file there, or with none, where the baseline has no such file
abbrev pub carried : Option Image → Observation → Rows
carried files o = map (row_of_path files (baseline_of o)) (changed_paths o)

-- the usage that the last delta that changed the file gave it; each file was changed by one
abbrev pub last_usage : Observation → FileRow → Usage
last_usage o row = option_map_or (λ (entry : FileVersion). entry.usage) (last_up_to (last_delta o) row.past) Source

-- a file that the baseline has is put as it is there, and any other is removed
abbrev pub brought : List ℕ → Usage → Option TreeRow → Row
brought path usage (Some file) = record { path = path; action = Modify; usage = file.usage; version = Some file.version }
brought path usage None = record { path = path; action = Remove; usage = usage; version = None }

abbrev pub carried_row : Observation → FileRow → Row
carried_row o row = brought row.path (last_usage o row) (row_at (baseline_of o) row.path)

abbrev pub carried_rows : Observation → List Row
carried_rows o = map (carried_row o) (changed_rows o)

-- ---- what files of a change set bring

-- the path, with the file's bytes, or with none, where it is removed
abbrev pub brings_file : BundleFile → List ℕ × Option (List ℕ)
brings_file file = (file.path, if is_remove file.action then None else Some file.bytes)

abbrev pub brings : List BundleFile → Rows
brings files = map brings_file files
