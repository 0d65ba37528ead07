use Rattle.std.proofs.Common.{◌≡◌, ◌++◌}
use Rattle.ae_vault.specs.Body.{entries_put}
use Rattle.ae_vault.proofs.entry.entries_put.Given as goal

abbrev pub invariant-loop-entry : goal.invariant-loop-entry
invariant-loop-entry l = record {
  put : l.put ≡ entries_put l.yielded;
  all : l.yielded ++ l.entry-iterator.rest.items ≡ l.fn.entries;
}
