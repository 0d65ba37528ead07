-- What is said of a disk as one thing: whether it is known what it holds, what that is, and how often it failed.
use Rattle.std.specs.Prelude.{Option}
use Rattle.ae_outside.specs.Causes.{HasRisen}
use Rattle.ae_outside.specs.Image.{Image, IsSame}
use Rattle.ae_outside.specs.State.{GoesOn, reads}
use Rattle.ae_outside.specs.declared.disk.Disk.{Ghosts}
use Rattle.ae_vault.specs.Commit.{IsClean}
use Rattle.ae_vault.specs.Vault.{effective}

-- a call of it failed between the two
abbrev pub DiskFailed : {Disk : Type 0} → Ghosts Disk → (old new : Disk) → Type 0
DiskFailed device old new = HasRisen (device.faults old) (device.faults new)

-- nothing on it is changed
abbrev pub OnlyReads : {Disk : Type 0} → Ghosts Disk → (old new : Disk) → Type 0
OnlyReads device old new = device.tells → GoesOn IsSame (device.state old) (device.state new)

-- no stop leaves an open gate
abbrev pub IsCleanDisk : {Disk : Type 0} → Ghosts Disk → Disk → Type 0
IsCleanDisk device disk = device.tells → IsClean (device.state disk)

-- its effective files
abbrev pub files_of : {Disk : Type 0} → Ghosts Disk → Disk → Option Image
files_of device disk = effective (reads (device.state disk))
