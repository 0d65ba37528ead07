-- What a migration makes of files, and in which format the images of a disk are.
use Rattle.std.specs.Prelude.{◌≡◌, ◌⊎◌, Option, Some, None, unwrap_or, IsSomeAnd}
use Rattle.ae_outside.specs.Image.{Image}
use Rattle.ae_outside.specs.State.{DiskState, MayLeave, reads}
use Rattle.ae_schema.specs.declared.format.Format.TheVariants.{One, Two}
use Rattle.ae_store.specs.Migrating.{NeedsNone, migrated_entry}
use Rattle.ae_store.specs.Records.{IsMigrated, StandsFor, StandsIn}
use Rattle.ae_types.specs.Observation.{Observation}
use Rattle.ae_vault.specs.Commit.{Agrees, IsBefore, IsSettled, OnlyRecovers}
use Rattle.ae_vault.specs.Vault.{effective}

-- ---- formats

-- the effective files aren't those of a project in the first format
abbrev pub IsSecond : Image → Type 0
IsSecond image = IsSomeAnd (effective image) IsMigrated

-- where the disk reads no project in the first format, no image that agrees with it by its gate has one there
abbrev pub AgreesInFormat : DiskState → Type 0
AgreesInFormat disk = (f : Image) → MayLeave disk f → Agrees (reads disk) f → IsSecond (reads disk) → IsSecond f

-- ---- the entries of a migration

-- the files with the texts of `project` and of each change as they are in the second format
abbrev pub migrated_files : Observation → Image → Image
migrated_files o files name = unwrap_or (migrated_entry o name) (files name)

abbrev pub with_migration : Observation → Option Image → Option Image
with_migration o (Some files) = Some (migrated_files o files)
with_migration o None = None

-- The image has the files of this project in the first format; and a migration takes files of it into the second.
pub record IsInFirst (image : Image) (o : Observation) : Type 0 where
  pub first : IsSomeAnd (effective image) (λ files. StandsIn One files (Some o))
  pub makes : (files : Image) → StandsFor files (Some o) → StandsIn Two (migrated_files o files) (Some o)

-- what is read is a project in the first format, and its migration takes the old files to the new ones
abbrev pub AreMigrated : (read : Image) → (old new : Option Image) → Type 0
AreMigrated read old new = (o : Observation) × IsInFirst read o × (new ≡ with_migration o old)

abbrev pub MayBeMigrated : (read : Image) → (old new : Option Image) → Type 0
MayBeMigrated read old new = (new ≡ old) ⊎ AreMigrated read old new

-- the new files are the old ones, where what is read needs no migration, and else these with it
pub data IsBroughtUp (read : Image) (old new : Option Image) : Type 0 where
  as_they_are : IsSomeAnd (effective read) NeedsNone → new ≡ old → IsBroughtUp read old new
  migrated : AreMigrated read old new → IsBroughtUp read old new

-- ---- moments

-- what is read is a project in the first format, and the image has the files of the other one, or these with the migration
abbrev pub IsMigrating : (read from image : Image) → Type 0
IsMigrating read from image = (o : Observation) × IsInFirst read o × ((effective image ≡ effective from) ⊎ (effective image ≡ with_migration o (effective from)))

-- At a moment of an opening that began at base, and that a migration may follow.
pub record BringingUpAt (base : DiskState) (read : Image) (images : Image → Type 0) : Type 0 where
  pub settled : IsSettled read images
  -- the files of an image at the start, and no more written than a recovery writes; or of a project in the first format, perhaps with
  -- its migration
  pub each : (f : Image) → images f → (from : Image) × MayLeave base from × ((IsBefore from f × OnlyRecovers from f) ⊎ IsMigrating (reads base) from f)
