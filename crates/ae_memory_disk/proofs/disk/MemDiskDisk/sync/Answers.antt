use Rattle.std.proofs.Common.{rules}
use Rattle.ae_memory_disk.specs.declared.disk_log.Change.TheVariants.{Sync}
use Rattle.ae_memory_disk.specs.MemDisk.{Logs}
use Rattle.ae_memory_disk.proofs.DiskReplay.{sync_logged, synced}
use Rattle.ae_memory_disk.proofs.disk.MemDiskDisk.sync.Goals as goal

pub returns-clause-stable : goal.returns-clause-stable
returns-clause-stable c =
    let is : Logs (Sync c.args.name.now) c.args.self.now c.note.new.self = search rules in
    synced c.args.name.now c.args.self.now c.note.new.self is

pub returns-clause-change : goal.returns-clause-change
returns-clause-change c =
    let is : Logs (Sync c.args.name.now) c.args.self.now c.note.new.self = search rules in
    sync_logged c.args.name.now c.args.self.now c.note.new.self is
