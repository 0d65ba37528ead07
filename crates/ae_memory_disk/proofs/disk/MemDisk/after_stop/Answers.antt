use Rattle.std.proofs.Common.{◌≡◌, ap, ◌∙◌}
use Rattle.std.proofs.lemmas.Result.{IfOk-weaker}
use Rattle.ae_memory_disk.specs.DiskFiles.{bytes_of}
use Rattle.ae_memory_disk.specs.MemDisk.{DiskRecord, picked_behind}
use Rattle.ae_memory_disk.proofs.DiskPicked.{picked_reads, image_reads, new_reads, fresh_stable}
use Rattle.ae_memory_disk.proofs.disk.MemDisk.after_stop.Goals as goal

pub returns-clause-picked : goal.returns-clause-picked
returns-clause-picked c =
    let left : bytes_of c.in_ok-start.start ≡ picked_behind c.args.pick c.args.calls c.args.self.now = c.in_ok-start.ensures in
    IfOk-weaker c.starting.result _ _ (λ disk is. picked_reads c.args.pick c.args.calls c.args.self.now disk (ap (λ (d : DiskRecord). d.log) is) (ap (λ (d : DiskRecord). bytes_of d.initial) is ∙ left)) c.starting.ensures

pub returns-clause-image : goal.returns-clause-image
returns-clause-image c =
    let left : bytes_of c.in_ok-start.start ≡ picked_behind c.args.pick c.args.calls c.args.self.now = c.in_ok-start.ensures in
    IfOk-weaker c.starting.result _ _ (λ disk is. image_reads c.args.pick c.args.calls c.args.self.now disk (ap (λ (d : DiskRecord). d.log) is) (ap (λ (d : DiskRecord). bytes_of d.initial) is ∙ left)) c.starting.ensures

pub returns-clause-new : goal.returns-clause-new
returns-clause-new c =
    let left : bytes_of c.in_ok-start.start ≡ picked_behind c.args.pick c.args.calls c.args.self.now = c.in_ok-start.ensures in
    IfOk-weaker c.starting.result _ _ (λ disk is. new_reads c.args.pick c.args.calls c.args.self.now disk (ap (λ (d : DiskRecord). d.log) is) (ap (λ (d : DiskRecord). bytes_of d.initial) is ∙ left)) c.starting.ensures

pub returns-clause-stable : goal.returns-clause-stable
returns-clause-stable c =
    IfOk-weaker c.starting.result _ _ (λ disk is. fresh_stable disk (ap (λ (d : DiskRecord). d.log) is)) c.starting.ensures
