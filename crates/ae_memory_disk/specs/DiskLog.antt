-- What a disk in memory holds, and what a stop may leave of it, by the log of the calls that changed or synced it.
use Rattle.std.specs.Prelude.{◌≡◌, ℕ, ◌+◌, nat_le, if◌then◌else◌, List, [], ◌∷◌, ◌++◌, length, take, drop}
use Rattle.std.specs.List.{prefix_len}
use Rattle.ae_memory_disk.specs.declared.disk_log.Change.{Change}
use Rattle.ae_memory_disk.specs.declared.disk_log.Change.TheVariants.{Write, Cut, Sync}
use Rattle.ae_memory_disk.specs.declared.disk_log.Logged.{Logged}
use Rattle.ae_outside.specs.Image.{Image, with_file, WriteBegun, CutBegun}

-- a file with these bytes at this offset; nothing is put after its end
abbrev pub overwritten : ℕ → List ℕ → List ℕ → List ℕ
overwritten at bytes old = if nat_le at (length old) then take at old ++ bytes ++ drop (at + length bytes) old else old

-- what is read after the change
abbrev pub applied : Change → Image → Image
applied (Write name at bytes) image = with_file name (overwritten at bytes) image
applied (Cut name len) image = with_file name (take len) image
applied (Sync name) image = image

-- what a stop may leave after the change, from what it might have left before, where read is what is read
abbrev pub Leaves : Change → Image → Image → Image → Type 0
Leaves (Write name at bytes) read old new = WriteBegun name at (length bytes) old new
Leaves (Cut name len) read old new = CutBegun name len old new
Leaves (Sync name) read old new = (new ≡ old) × (old name ≡ read name)

-- the images after the change, from those before
abbrev pub After : Change → Image → (Image → Type 0) → Image → Type 0
After change read images new = (old : Image) × images old × Leaves change read old new

-- what is read after the log
abbrev pub replay : Image → List Logged → Image
replay read [] = read
replay read (entry ∷ log) = replay (applied entry.change read) log

-- the images after the log
abbrev pub Left : Image → (Image → Type 0) → List Logged → Image → Type 0
Left read images [] image = images image
Left read images (entry ∷ log) image = Left (applied entry.change read) (After entry.change read images) log image

-- the images after the log, from a stable disk
abbrev pub IsLeft : Image → List Logged → Image → Type 0
IsLeft start log image = Left start (λ i. i ≡ start) log image

-- how many changes the first so many calls made
abbrev pub changes_behind : ℕ → List Logged → ℕ
changes_behind calls log = prefix_len (λ entry. nat_le entry.number calls) log

-- the changes of the first so many calls
abbrev pub changes_by : ℕ → List Logged → List Logged
changes_by calls log = take (changes_behind calls log) log
