-- The texts of the state files, in the second format, and those of them that a step changes.
use Rattle.std.specs.Prelude.{ℕ, List, [], ◌∷◌, Option, Some, None, if◌then◌else◌}
use Rattle.std.specs.Str.{bytes_eq}
use Rattle.ae_text.specs.Canonical.{fields_text}
use Rattle.ae_text.specs.View.{members_of}
use Rattle.ae_schema.specs.declared.format.Format.TheVariants.{Two}
use Rattle.ae_schema.specs.Files.{project_fields, files_fields, change_fields}
use Rattle.ae_schema.specs.Records.{Named}
use Rattle.ae_types.specs.declared.change.Change.{Change}
use Rattle.ae_types.specs.Observation.{Observation}
use Rattle.ae_store.specs.Names.{project_file, files_file, change_file}

-- the fields in canonical form
abbrev pub canonical : List Named → List ℕ
canonical fields = fields_text (members_of fields)

-- the text of the change whose file has this name; other files are empty
abbrev pub change_text : List Change → List ℕ → List ℕ
change_text [] name = []
change_text (change ∷ changes) name = if bytes_eq name (change_file change.number) then canonical (change_fields Two change) else change_text changes name

-- the canonical text of the state file of this name; other files are empty
abbrev pub text_in : Observation → List ℕ → List ℕ
text_in o name =
    if bytes_eq name project_file then canonical (project_fields Two (o.project, o.numbers))
    else if bytes_eq name files_file then canonical (files_fields (o.files, o.locks))
    else change_text o.changes name

-- where there is no project, all are empty
abbrev pub text_of : Option Observation → List ℕ → List ℕ
text_of None name = []
text_of (Some o) name = text_in o name

-- the new bytes, where they aren't the old ones
abbrev pub change_of : List ℕ → List ℕ → Option (List ℕ)
change_of old new = if bytes_eq old new then None else Some new

-- what a batch puts into the file of this name: the new text, where it isn't the old one
abbrev pub entry_for : Option Observation → Observation → List ℕ → Option (List ℕ)
entry_for old new name = change_of (text_of old name) (text_in new name)
