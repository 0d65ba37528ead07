use Rattle.std.proofs.Common.{ap, sym, ◌∙◌}
use Rattle.ae_memory_disk.specs.DiskFiles.{bytes_of}
use Rattle.ae_memory_disk.specs.DiskLog.{replay}
use Rattle.ae_outside.specs.Image.{Image}
use Rattle.ae_memory_disk.specs.MemDisk.{DiskRecord}
use Rattle.ae_memory_disk.proofs.DiskReplay.{reads_replay}
use Rattle.ae_memory_disk.proofs.disk.MemDisk.bytes_of.Goals as goal

pub returns : goal.returns
returns c =
    c.bytes_of.ensures ∙ (λ i. c.self.invariant.replayed i (c.as_bytes.ensures.value i))
    ∙ ap (λ (d : DiskRecord). replay (bytes_of d.initial) d.log c.args.name.now) c.self.view_is ∙ ap (λ (image : Image). image c.args.name.now) (sym (reads_replay c.args.self.now))
