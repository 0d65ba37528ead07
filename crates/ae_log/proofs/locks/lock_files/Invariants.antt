use Rattle.std.proofs.Common.{◌≡◌, drop}
use Rattle.ae_base.specs.Rows.{text_cmp}
use Rattle.ae_types.specs.Found.{lock_path}
use Rattle.ae_types.specs.Ordered.{Ascends}
use Rattle.ae_log.specs.After.{with_locks}
use Rattle.ae_log.proofs.locks.lock_files.Given as goal

abbrev pub invariant-loop-at : goal.invariant-loop-at
invariant-loop-at l = record {
  taken : l.locks.items ≡ with_locks l.number (drop l.at l.files) l.initial.locks.items;
  ascend : Ascends text_cmp lock_path l.locks.items;
}
