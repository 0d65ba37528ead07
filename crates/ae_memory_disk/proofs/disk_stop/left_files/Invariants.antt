use Rattle.std.proofs.Common.{◌≡◌, drop}
use Rattle.ae_memory_disk.specs.DiskFiles.{bytes_of}
use Rattle.ae_memory_disk.specs.DiskPick.{picked, picked_from}
use Rattle.ae_memory_disk.proofs.disk_stop.left_files.Given as goal

abbrev pub invariant-loop-entry : goal.invariant-loop-entry
invariant-loop-entry l = picked_from l.pick (bytes_of l.read) (bytes_of l.left) (drop l.entry-index l.log) ≡ picked l.pick (bytes_of l.start) l.log
