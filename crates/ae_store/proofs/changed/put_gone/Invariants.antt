use Rattle.std.proofs.Common.{◌≡◌, ℕ, ◌<◌, false, get_or}
use Rattle.std.specs.Prelude.{option_copied}
use Rattle.ae_types.specs.Found.{has_number}
use Rattle.ae_store.specs.Names.{change_file}
use Rattle.ae_store.specs.Batching.{AreRight, IsDone, KeepsDone}
use Rattle.ae_store.proofs.changed.put_gone.Given as goal

abbrev pub invariant-loop-number : goal.invariant-loop-number
invariant-loop-number l = record {
  right : AreRight (option_copied l.old) l.new l.entries.items;
  done : (k : ℕ) → k < l.number-index → has_number l.new.numbers (get_or l.numbers k 0) ≡ false → IsDone (option_copied l.old) l.new l.entries.items (change_file (get_or l.numbers k 0));
  kept : KeepsDone (option_copied l.old) l.new l.initial.entries.items l.entries.items;
}
