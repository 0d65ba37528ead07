-- What a call leaves, and what stops leave while it lasts.
use Rattle.std.specs.Prelude.{ℕ, ◌≤◌, List}
use Rattle.ae_outside.specs.Image.{Image}
use Rattle.ae_outside.specs.State.{DiskState, reads, MayLeave}
use Rattle.ae_vault.specs.Commit.{IsSettled}
use Rattle.ae_vault.specs.Kept.{StandsForOne, Holds}

-- the disk is settled now
abbrev pub IsSettledNow : DiskState → Type 0
IsSettledNow disk = IsSettled (reads disk) (MayLeave disk)

-- at each moment from one to another, a stop leaves what stands for one of these
abbrev pub StopsBetween : {Log : Type 0} → (Image → Log → Type 0) → DiskState → ℕ → ℕ → List Log → Type 0
StopsBetween Stands disk from till logs = (u : ℕ) (f : Image) → from ≤ u → u ≤ till → disk.image_at u f → StandsForOne Stands logs f

-- at each moment since base
abbrev pub Stops : {Log : Type 0} → (Image → Log → Type 0) → DiskState → DiskState → List Log → Type 0
Stops Stands base disk logs = StopsBetween Stands disk base.moment disk.moment logs

-- so it is with each stop since base, and the disk holds one of these
pub record Leaves {Log : Type 0} (Stands : Image → Log → Type 0) (base disk : DiskState) (logs : List Log) : Type 0 where
  pub stops : Stops Stands base disk logs
  pub holds : Holds Stands disk logs
