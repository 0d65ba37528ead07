use Rattle.std.proofs.Common.{◌≡◌, List, ℕ, take, ap, ◌∙◌}
use Rattle.ae_memory_disk.specs.DiskFiles.{bytes_of}
use Rattle.ae_memory_disk.proofs.DiskFilesLemmas.{with_file_as}
use Rattle.ae_memory_disk.proofs.disk_files.Files.cut.Goals as goal

pub returns-clause-ok : goal.returns-clause-ok
returns-clause-ok c =
    let next_is : c.in_ok-new.new ≡ take c.args.len (bytes_of c.args.self.now c.args.name.now) = c.in_ok-new.ensures ∙ ap (λ (l : List ℕ). take c.args.len l) c.bytes_of.ensures in
    c.in_ok-put.ensures.ok ∙ with_file_as c.args.name.now c.in_ok-new.new (take c.args.len) (bytes_of c.args.self.now) next_is
