use Rattle.std.proofs.Common.{◌≡◌, drop}
use Rattle.ae_memory_disk.specs.DiskFiles.{bytes_of}
use Rattle.ae_memory_disk.proofs.disk_files.Files.bytes_of.Given as goal

abbrev pub invariant-loop-file : goal.invariant-loop-file
invariant-loop-file l = bytes_of (drop l.file-index l.file-items) l.name ≡ bytes_of l.file-items l.name
