use Rattle.std.proofs.Common.{◌≡◌, ◌≤◌, ◌<◌, ◌^◌, ℕ, ap, sym, subst}
use Rattle.ae_memory.specs.Calls.{Counts}
use Rattle.ae_outside.specs.Causes.{next}
use Rattle.ae_memory_disk.proofs.DiskCalls.{behind_later, next_later, next_small}
use Rattle.ae_memory_disk.proofs.disk.MemDisk.begins.Goals as goal

pub invariant_of-self : goal.invariant_of-self
invariant_of-self c =
    let old = c.self.inside.calls.calls in
    let calls_is : next old ≡ c.begins.new.self.calls = ap (λ (counts : Counts). counts.calls) (sym c.begins.ensures.counted) in
    record {
      replayed = c.self.invariant.replayed;
      numbered = behind_later old c.begins.new.self.calls c.self.inside.log.items (subst (λ (n : ℕ). old ≤ n) calls_is (next_later old c.self.invariant.counted)) c.self.invariant.numbered;
      counted = subst (λ (n : ℕ). n < 2 ^ 64) calls_is (next_small old);
    }
