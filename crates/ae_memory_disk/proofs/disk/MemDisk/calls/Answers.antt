use Rattle.std.proofs.Common.{◌≡◌, ℕ, length, ap, ◌∙◌, subst}
use Rattle.ae_memory_disk.specs.DiskLog.{changes_behind}
use Rattle.ae_memory_disk.specs.MemDisk.{DiskRecord, moment_behind}
use Rattle.ae_memory_disk.proofs.DiskCalls.{moment_now}
use Rattle.ae_memory_disk.proofs.disk.MemDisk.calls.Goals as goal

pub returns-clause-now : goal.returns-clause-now
returns-clause-now c =
    let numbered : changes_behind c.args.self.now.counts.calls c.args.self.now.log ≡ length c.args.self.now.log = subst (λ (d : DiskRecord). changes_behind d.counts.calls d.log ≡ length d.log) c.self.view_is c.self.invariant.numbered in
    let number : c.calls.result ≡ c.args.self.now.counts.calls = c.calls.ensures ∙ ap (λ (d : DiskRecord). d.counts.calls) c.self.view_is in
    ap (λ (n : ℕ). moment_behind n c.args.self.now) number ∙ moment_now c.args.self.now numbered
