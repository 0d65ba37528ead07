-- What a command does to a project in the first format, wherever it is stopped.
use Rattle.std.specs.Prelude.{ℕ, ◌<◌, ◌≤◌, ◌⊎◌, List, [], ◌∷◌}
use Rattle.ae_base.specs.declared.outcome.Outcome.{Outcome}
use Rattle.ae_base.specs.declared.outcome.Outcome.TheVariants.{Done, RunFailed, Refused, BadWords, BadScript, DiskFault, SiteFault, SinkFault, SourceFault, Damaged, Memory}
use Rattle.ae_outside.specs.Image.{Image}
use Rattle.ae_outside.specs.State.{DiskState, MayLeave, reads}
use Rattle.ae_schema.specs.declared.format.Format.TheVariants.{Two}
use Rattle.ae_vault.specs.Commit.{OpenAt, Throughout}
use Rattle.ae_vault.specs.Kept.{Holds, Kept, StandsForOne}
use Rattle.ae_vault.specs.Vault.{effective}
use Rattle.ae_log.specs.Log.{Log}
use Rattle.ae_exec.specs.Migrated.{AreMigrated, IsBroughtUp, IsSecond}
use Rattle.ae_exec.specs.Refined.{held_by}
use Rattle.ae_exec.specs.Stands.{StandsForLog, StandsForLogIn}
use Rattle.ae_exec.specs.Stops.{IsSettledNow, StopsBetween}

-- no more was written than a recovery writes; or each image has the files of one at the start with the migration of what was read
abbrev pub IsMigratedOrNot : (base disk : DiskState) → Type 0
IsMigratedOrNot base disk =
    Throughout (OpenAt base) base.moment disk ⊎ ((f : Image) → MayLeave disk f → (from : Image) × MayLeave base from × AreMigrated (reads base) (effective from) (effective f))

-- an outcome of a command that came past the migration
abbrev pub IsPastMigration : Outcome → Type 0
IsPastMigration Done = Unit {0}
IsPastMigration RunFailed = Unit {0}
IsPastMigration (Refused refusal) = Unit {0}
IsPastMigration SiteFault = Unit {0}
IsPastMigration SinkFault = Unit {0}
IsPastMigration (BadWords place) = ⊥
IsPastMigration (BadScript line) = ⊥
IsPastMigration DiskFault = ⊥
IsPastMigration SourceFault = ⊥
IsPastMigration (Damaged name) = ⊥
IsPastMigration Memory = ⊥

-- Up to some moment a stop leaves what stands for a log that was held, in the one format or the other, and after it what stands for the
-- log that was read, or for the next, in the second format. That is so in the end, where the command came past the migration.
pub record TakesToSecond (base disk : DiskState) (held : List Log) (log next : Log) (outcome : Outcome) : Type 0 where
  pub taken : ℕ
  pub after_start : base.moment ≤ taken
  pub before_now : taken ≤ disk.moment
  pub until : StopsBetween StandsForLog disk base.moment taken held
  pub since : (u : ℕ) (f : Image) → taken < u → u ≤ disk.moment → disk.image_at u f → StandsForOne (StandsForLogIn Two) (log ∷ next ∷ []) f
  pub brought : IsPastMigration outcome → Holds (StandsForLogIn Two) disk (held_by StandsForLog log next outcome)

-- ---- an opening that a migration follows

-- Once the migration is done, or none is needed: what is read is brought up, and so is each image that a stop may leave; either no
-- more was written than a recovery writes, or each image is migrated.
pub record IsUp (base disk : DiskState) : Type 0 where
  pub second : IsSecond (reads disk)
  pub read : IsBroughtUp (reads base) (effective (reads base)) (effective (reads disk))
  pub each : IsSettledNow base → (f : Image) → MayLeave disk f → (from : Image) × MayLeave base from × IsBroughtUp (reads base) (effective from) (effective f)
  pub whole : IsSettledNow base → IsMigratedOrNot base disk

-- the disk holds the log alone, in the second format
abbrev pub HoldsInSecond : (disk : DiskState) → Log → Type 0
HoldsInSecond disk log = Holds (StandsForLogIn Two) disk (log ∷ [])

-- the disk stands for the log at each moment since base, and holds it
abbrev pub KeepsLog : (base disk : DiskState) → Log → Type 0
KeepsLog base disk log = Kept StandsForLog disk base.moment log [] × Holds StandsForLog disk (log ∷ [])
