use Rattle.std.proofs.Common.{◌≡◌, List, [], ◌∷◌, ◌++◌, length, ap, sym, ◌∙◌, subst}
use Rattle.ae_memory_disk.specs.declared.disk_log.Logged.{Logged}
use Rattle.ae_memory_disk.specs.DiskFiles.{bytes_of}
use Rattle.ae_memory_disk.specs.DiskLog.{replay, applied, changes_behind}
use Rattle.ae_memory_disk.proofs.DiskCalls.{behind_push}
use Rattle.ae_memory_disk.proofs.DiskReplay.{replay_push}
use Rattle.ae_memory_disk.proofs.disk.MemDisk.log_change.Goals as goal

pub invariant_of-self : goal.invariant_of-self
invariant_of-self c =
    let start = bytes_of c.self.inside.initial in
    let entry : Logged = record { number = c.calls-number.result; change = c.args.change } in
    let log_is : c.self.inside.log.items ++ entry ∷ [] ≡ c.push_reserved.new.self.items = ap (λ (log : List Logged). log ++ entry ∷ []) (sym c.apply_with_room.ensures.log) ∙ sym c.push_reserved.ensures.items in
    record {
      replayed = c.in-Ok.ensures.ok ∙ ap (applied c.args.change) c.self.invariant.replayed ∙ sym (replay_push start c.self.inside.log.items entry) ∙ ap (replay start) log_is;
      numbered = subst (λ (log : List Logged). changes_behind c.self.inside.calls.calls log ≡ length log) log_is (behind_push c.self.inside.calls.calls c.self.inside.log.items entry c.calls-number.ensures c.self.invariant.numbered);
      counted = c.self.invariant.counted;
    }
