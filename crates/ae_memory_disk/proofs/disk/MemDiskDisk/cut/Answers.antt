use Rattle.std.proofs.Common.{rules}
use Rattle.ae_memory_disk.specs.declared.disk_log.Change.TheVariants.{Cut}
use Rattle.ae_memory_disk.specs.MemDisk.{Logs, OnlyCounts}
use Rattle.ae_memory_disk.proofs.DiskReplay.{cut_none, cut_logged, cut_read, cut_front}
use Rattle.ae_memory_disk.proofs.disk.MemDiskDisk.cut.Goals as goal

pub returns-then-begins-clause-change : goal.returns-then-begins-clause-change
returns-then-begins-clause-change c =
    let is : OnlyCounts c.args.self.now c.begins.new.self = search rules in
    cut_none c.args.name.now c.args.len c.args.self.now c.begins.new.self is

pub returns-in_err-note-clause-change : goal.returns-in_err-note-clause-change
returns-in_err-note-clause-change c =
    let is : OnlyCounts c.args.self.now c.note.new.self = search rules in
    cut_none c.args.name.now c.args.len c.args.self.now c.note.new.self is

pub returns-clause-cut : goal.returns-clause-cut
returns-clause-cut c =
    let is : Logs (Cut c.args.name.now c.args.len) c.args.self.now c.note.new.self = search rules in
    cut_read c.args.name.now c.args.len c.args.self.now c.note.new.self is

pub returns-clause-front : goal.returns-clause-front
returns-clause-front c =
    let is : Logs (Cut c.args.name.now c.args.len) c.args.self.now c.note.new.self = search rules in
    cut_front c.args.name.now c.args.len c.args.self.now c.note.new.self is

pub returns-clause-change : goal.returns-clause-change
returns-clause-change c =
    let is : Logs (Cut c.args.name.now c.args.len) c.args.self.now c.note.new.self = search rules in
    cut_logged c.args.name.now c.args.len c.args.self.now c.note.new.self is
