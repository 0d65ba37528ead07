-- The step from the first format of the state files to the second.
use Rattle.std.specs.Prelude.{◌≡◌, ◌⊎◌, ℕ, Bool, not, List, [], Option, Some, None, Result, Ok, Err, if◌then◌else◌}
use Rattle.std.specs.Str.{bytes_eq}
use Rattle.ae_outside.specs.Image.{Image}
use Rattle.ae_vault.specs.declared.entry.Entry.{Entry}
use Rattle.ae_vault.specs.Batch.{BatchRecord}
use Rattle.ae_vault.specs.Vault.{content_of, put}
use Rattle.ae_schema.specs.declared.format.Format.TheVariants.{One, Two}
use Rattle.ae_schema.specs.Formats.{IsOfFormat}
use Rattle.ae_types.specs.Observation.{Observation}
use Rattle.ae_store.specs.declared.error.StoreError.{StoreError}
use Rattle.ae_store.specs.declared.error.StoreError.TheVariants.{Damaged, DiskFault, Memory}
use Rattle.ae_store.specs.Changed.{entry_for}
use Rattle.ae_store.specs.Names.{project_file, files_file}
use Rattle.ae_store.specs.Records.{StandsFor, StandsIn}

-- an entry of another name
abbrev pub is_other : List ℕ → Entry → Bool
is_other name entry = not (bytes_eq entry.name name)

-- what is put into the file of this name: the text of the project, or of a change, in the second format; `files` is the same in both
abbrev pub migrated_entry : Observation → List ℕ → Option (List ℕ)
migrated_entry o name = if bytes_eq name files_file then None else entry_for None o name

-- The batch puts just these, and has no pieces. Over files that stand for this, in whichever format, it gives files that stand for it
-- in the second.
pub record Migrates (o : Observation) (batch : BatchRecord) : Type 0 where
  pub entries : (name : List ℕ) → content_of batch.entries name ≡ migrated_entry o name
  pub pieces : batch.pieces ≡ []
  pub stands : (files : Image) → StandsFor files (Some o) → StandsIn Two (put batch.entries files) (Some o)

-- these files stand for a project in the first format, which the batch takes into the second
pub record IsMigration (files : Image) (batch : BatchRecord) : Type 0 where
  pub stood : Observation
  pub first : StandsIn One files (Some stood)
  pub migrates : Migrates stood batch

-- there is no project, or it is in the second format
abbrev pub NeedsNone : Image → Type 0
NeedsNone files = (files project_file ≡ []) ⊎ IsOfFormat Two (files project_file)

-- none is needed, or it is that of these files
abbrev pub IsNeeded : Image → Option BatchRecord → Type 0
IsNeeded files None = NeedsNone files
IsNeeded files (Some batch) = IsMigration files batch

-- none is answered, unless the disk fails or memory runs out
abbrev pub AnswersNone : Result (Option BatchRecord) StoreError → Type 0
AnswersNone (Ok made) = made ≡ None
AnswersNone (Err (Damaged name)) = ⊥
AnswersNone (Err DiskFault) = Unit {0}
AnswersNone (Err Memory) = Unit {0}

-- the migration of this is answered, unless the disk fails or memory runs out
abbrev pub AnswersMigration : Observation → Result (Option BatchRecord) StoreError → Type 0
AnswersMigration o (Ok (Some batch)) = Migrates o batch
AnswersMigration o (Ok None) = ⊥
AnswersMigration o (Err (Damaged name)) = ⊥
AnswersMigration o (Err DiskFault) = Unit {0}
AnswersMigration o (Err Memory) = Unit {0}
