use Rattle.std.proofs.Common.{◌≡◌, take}
use Rattle.ae_memory_disk.proofs.disk_files.Files.copy.Given as goal

abbrev pub invariant-loop-file : goal.invariant-loop-file
invariant-loop-file l = l.rows.items ≡ take l.file-index l.file-items
