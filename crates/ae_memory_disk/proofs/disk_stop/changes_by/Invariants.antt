use Rattle.std.proofs.Common.{◌≡◌, ◌++◌, take, drop}
use Rattle.ae_memory_disk.specs.DiskLog.{changes_by}
use Rattle.ae_memory_disk.proofs.disk_stop.changes_by.Given as goal

abbrev pub invariant-loop-at : goal.invariant-loop-at
invariant-loop-at l = take l.at l.log ++ changes_by l.calls (drop l.at l.log) ≡ changes_by l.calls l.log
