-- How large the texts of a change are, and the files that its delta made.
use Rattle.std.specs.Prelude.{◌≡◌, ℕ, ◌+◌, ◌≤◌, true, List, [], ◌∷◌, Some, length, IsSomeAnd}
use Rattle.std.specs.Option.{option_map_or, option_and_then}
use Rattle.ae_base.specs.Limits.{most_attribute_bytes, most_frozen_bytes}
use Rattle.ae_types.specs.declared.change.Change.{Change}
use Rattle.ae_types.specs.declared.change.ChangeAttributes.{ChangeAttributes}
use Rattle.ae_types.specs.declared.change.ChangeFile.{ChangeFile}
use Rattle.ae_types.specs.declared.file_table.FileVersion.{FileVersion}
use Rattle.ae_types.specs.declared.project.DeltaRow.{DeltaRow}
use Rattle.ae_types.specs.declared.version.VersionRef.{VersionRef}
use Rattle.ae_types.specs.Found.{change_at, delta_of, entry_in}
use Rattle.ae_types.specs.Observation.{Observation}
use Rattle.ae_types.specs.Phases.{is_completed}
use Rattle.ae_types.specs.Trees.{past_of}
use Rattle.ae_log.specs.Log.{Log}
use Rattle.ae_log.specs.Observed.{observation}
use Rattle.ae_machine.specs.Legal.{Legal}

-- the texts have at most 65,536 bytes each
pub record AreTextsShort (attributes : ChangeAttributes) : Type 0 where
  pub brief : length attributes.brief ≤ most_attribute_bytes
  pub description : length attributes.description ≤ most_attribute_bytes

-- how many bytes a delta made of a path; none where it removed it
abbrev pub size_made : Observation → ℕ → List ℕ → ℕ
size_made o delta path = option_map_or (λ (version : VersionRef). version.length) (option_and_then (λ (entry : FileVersion). entry.version) (entry_in (past_of o path) delta)) 0

-- how many it made of these files
abbrev pub sizes_made : Observation → ℕ → List ChangeFile → ℕ
sizes_made o delta [] = 0
sizes_made o delta (file ∷ files) = size_made o delta file.path + sizes_made o delta files

-- the change has a file, and what the delta made of its files has at most 67,108,864 bytes together
pub record IsDeltaSmall (o : Observation) (change : Change) (row : DeltaRow) : Type 0 where
  pub some : 1 ≤ length change.files
  pub bytes : sizes_made o row.delta change.files ≤ most_frozen_bytes

-- so it is of each completed change, and the texts of each change are short
pub record IsChangeSmall (o : Observation) (number : ℕ) (change : Change) : Type 0 where
  pub texts : AreTextsShort change.attributes
  pub delta : is_completed change.phase ≡ true → IsSomeAnd (delta_of o.project.deltas number) (IsDeltaSmall o change)

-- after a legal log
abbrev pub LegalHasSizes : Type 0
LegalHasSizes = (log : Log) (o : Observation) (number : ℕ) (change : Change) → Legal log → observation log ≡ Some o → change_at o number ≡ Some change → IsChangeSmall o number change
