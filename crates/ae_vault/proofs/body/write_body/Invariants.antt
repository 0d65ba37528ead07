use Rattle.std.proofs.Common.{◌≡◌, ◌++◌, length, take, flat_map}
use Rattle.std.specs.Int.{to_le_bytes, w32}
use Rattle.ae_vault.specs.Body.{Fit, entry_bytes}
use Rattle.ae_vault.proofs.body.write_body.Given as goal

abbrev pub invariant-loop-entry : goal.invariant-loop-entry
invariant-loop-entry l = record {
  written : l.body.items ≡ to_le_bytes w32 (length l.entries) ++ flat_map entry_bytes (take l.entry-index l.entries);
  fit : Fit (take l.entry-index l.entries);
}
