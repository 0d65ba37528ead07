use Rattle.std.proofs.Common.{◌≡◌, ◌-◌}
use Rattle.ae_vault.specs.Vault.{entries_read}
use Rattle.ae_vault.proofs.BodyText.{behind}
use Rattle.ae_vault.proofs.body.read_entries.Given as goal

abbrev pub invariant-loop-done : goal.invariant-loop-done
invariant-loop-done l = entries_read l.fn.count l.fn.bytes ≡ behind l.entries.items (entries_read (l.fn.count - l.done) l.rest)
