-- What contracts see of a disk in memory.
use Rattle.std.specs.Prelude.{◌≡◌, ◌<◌, ◌^◌, ℕ, List, [], ◌∷◌, ◌++◌, length, take, refl}
use Rattle.ae_memory_disk.specs.declared.disk_files.File.{File}
use Rattle.ae_memory_disk.specs.declared.disk_log.Change.{Change}
use Rattle.ae_memory_disk.specs.declared.disk_log.Logged.{Logged}
use Rattle.ae_memory_disk.specs.declared.disk_stop.Pick.{Pick}
use Rattle.ae_memory.specs.Calls.{Counts}
use Rattle.ae_outside.specs.Causes.{next}
use Rattle.ae_outside.specs.Image.{Image}
use Rattle.ae_outside.specs.State.{DiskState}
use Rattle.ae_memory_disk.specs.DiskFiles.{bytes_of}
use Rattle.ae_memory_disk.specs.DiskLog.{replay, IsLeft, changes_behind, changes_by}
use Rattle.ae_memory_disk.specs.DiskPick.{picked}
use Rattle.ae_memory_disk.specs.DiskLaws.{read_left}
use Rattle.ae_memory_disk.specs.DiskShort.{cut_left}

-- the files that it began with, its log, and its calls
pub record DiskRecord : Type 0 where
  pub initial : List File
  pub log : List Logged
  pub counts : Counts

-- what its fields keep: its files are what the log gives, and the changes are those of its calls so far
pub record Keeps (initial files : List File) (log : List Logged) (counts : Counts) : Type 0 where
  pub replayed : bytes_of files ≡ replay (bytes_of initial) log
  pub numbered : changes_behind counts.calls log ≡ length log
  pub counted : counts.calls < 2 ^ 64

-- a disk with these files that has had no call, and whose calls of these numbers will fail
abbrev pub new_disk : List File → List ℕ → DiskRecord
new_disk files fails = record { initial = files; log = []; counts = record { fails = fails; calls = 0; failed = 0; starved = 0 } }

-- the disk with one more change in its log, by its last call
abbrev pub with_change : Change → DiskRecord → DiskRecord
with_change change disk = record disk { log = disk.log ++ record { number = disk.counts.calls; change = change } ∷ [] }

-- the disk after its last call found no memory
abbrev pub with_starved : DiskRecord → DiskRecord
with_starved disk = record disk { counts = record disk.counts { failed = next disk.counts.failed; starved = next disk.counts.starved } }

-- nothing but the counts changes
abbrev pub OnlyCounts : DiskRecord → DiskRecord → Type 0
OnlyCounts old new = new ≡ record old { counts = new.counts }

-- the change is logged with the call's number, and nothing else but the counts changes
abbrev pub Logs : Change → DiskRecord → DiskRecord → Type 0
Logs change old new = new ≡ with_change change (record old { counts = new.counts })

-- Its clock ticks with each change that it logs.
unfoldable pub state_from : Image → List Logged → DiskState
state_from start log = record {
  moment = length log;
  reads_at = λ u. replay start (take u log);
  image_at = λ u image. IsLeft start (take u log) image;
  reads_is_image = λ u le. read_left start (λ i. i ≡ start) (take u log) refl;
  cut_is_image = λ u name image le is. cut_left start (take u log) name image is;
}

abbrev pub state_of : DiskRecord → DiskState
state_of disk = state_from (bytes_of disk.initial) disk.log

-- the moment after the first so many calls
abbrev pub moment_behind : ℕ → DiskRecord → ℕ
moment_behind calls disk = changes_behind calls disk.log

-- what a stop leaves there by a pick
abbrev pub picked_behind : Pick → ℕ → DiskRecord → Image
picked_behind pick calls disk = picked pick (bytes_of disk.initial) (changes_by calls disk.log)
