use Rattle.std.proofs.Common.{◌≡◌, ◌≤◌, length, ap, sym, ◌∙◌, arith}
use Rattle.ae_memory_disk.specs.DiskFiles.{bytes_of}
use Rattle.ae_memory_disk.specs.DiskLog.{overwritten}
use Rattle.ae_memory_disk.specs.DiskLaws.{overwritten_fits}
use Rattle.ae_memory_disk.proofs.DiskFilesLemmas.{with_file_as}
use Rattle.ae_memory_disk.proofs.disk_files.Files.write.Goals as goal

pub returns-clause-ok : goal.returns-clause-ok
returns-clause-ok c =
    let fits : c.args.at ≤ length c.bytes_of-old.result.now = omega (arith, c.if-at-old.false) in
    let next_is : c.in_ok-new.new ≡ overwritten c.args.at c.args.bytes.now (bytes_of c.args.self.now c.args.name.now) =
    c.in_ok-new.ensures ∙ sym (overwritten_fits c.args.at c.args.bytes.now c.bytes_of-old.result.now fits) ∙ ap (overwritten c.args.at c.args.bytes.now) c.bytes_of-old.ensures in
    c.in_ok-put.ensures.ok ∙ with_file_as c.args.name.now c.in_ok-new.new (overwritten c.args.at c.args.bytes.now) (bytes_of c.args.self.now) next_is
