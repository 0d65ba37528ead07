use Rattle.std.proofs.Common.{◌≡◌, take, true}
use Rattle.std.specs.List.{list_all}
use Rattle.ae_types.specs.Rules.{lock_has_file}
use Rattle.ae_rules.proofs.locks.locks_have_files.Given as goal

abbrev pub invariant-loop-lock : goal.invariant-loop-lock
invariant-loop-lock l = list_all (lock_has_file l.numbers l.changes) (take l.lock-index l.locks) ≡ true
