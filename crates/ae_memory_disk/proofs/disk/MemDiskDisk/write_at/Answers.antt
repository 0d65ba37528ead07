use Rattle.std.proofs.Common.{rules}
use Rattle.ae_memory_disk.specs.declared.disk_log.Change.TheVariants.{Write}
use Rattle.ae_memory_disk.specs.MemDisk.{Logs}
use Rattle.ae_memory_disk.proofs.DiskReplay.{write_logged, written}
use Rattle.ae_memory_disk.proofs.disk.MemDiskDisk.write_at.Goals as goal

pub returns-clause-written : goal.returns-clause-written
returns-clause-written c =
    let is : Logs (Write c.args.name.now c.args.at c.args.bytes.now) c.args.self.now c.note.new.self = search rules in
    written c.args.name.now c.args.at c.args.bytes.now c.args.self.now c.note.new.self c.requires.at is

pub returns-clause-change : goal.returns-clause-change
returns-clause-change c =
    let is : Logs (Write c.args.name.now c.args.at c.args.bytes.now) c.args.self.now c.note.new.self = search rules in
    write_logged c.args.name.now c.args.at c.args.bytes.now c.args.self.now c.note.new.self is
