-- What a stop makes of the bytes that aren't stable, by a pick.
use Rattle.std.specs.Prelude.{ℕ, List, [], ◌∷◌, length, take, replicate}
use Rattle.ae_memory_disk.specs.declared.disk_log.Change.{Change}
use Rattle.ae_memory_disk.specs.declared.disk_log.Change.TheVariants.{Write, Cut, Sync}
use Rattle.ae_memory_disk.specs.declared.disk_log.Logged.{Logged}
use Rattle.ae_memory_disk.specs.declared.disk_stop.Pick.{Pick}
use Rattle.ae_memory_disk.specs.declared.disk_stop.Pick.TheVariants.{Old, New, Zeros, Ones}
use Rattle.ae_outside.specs.Image.{Image, with_file}
use Rattle.ae_memory_disk.specs.DiskLog.{overwritten, applied}

-- what is left of a file by a write
abbrev pub write_left : Pick → ℕ → List ℕ → List ℕ → List ℕ
write_left Old at bytes file = file
write_left New at bytes file = overwritten at bytes file
write_left Zeros at bytes file = overwritten at (replicate (length bytes) 0) file
write_left Ones at bytes file = overwritten at (replicate (length bytes) 255) file

-- what is left of a file by a cut
abbrev pub cut_left : Pick → ℕ → List ℕ → List ℕ
cut_left Old len file = file
cut_left New len file = take len file
cut_left Zeros len file = take len file
cut_left Ones len file = take len file

-- what is left after one more change; a file that was synced is left as it read
abbrev pub left_after : Pick → Change → Image → Image → Image
left_after pick (Write name at bytes) read left = with_file name (write_left pick at bytes) left
left_after pick (Cut name len) read left = with_file name (cut_left pick len) left
left_after pick (Sync name) read left = with_file name (λ _. read name) left

-- the same after a log, from what was read and what was left before it
abbrev pub picked_from : Pick → Image → Image → List Logged → Image
picked_from pick read left [] = left
picked_from pick read left (entry ∷ log) = picked_from pick (applied entry.change read) (left_after pick entry.change read left) log

-- what is left after the log, from a stable disk
abbrev pub picked : Pick → Image → List Logged → Image
picked pick start log = picked_from pick start start log
