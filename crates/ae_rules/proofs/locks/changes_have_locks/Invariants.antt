use Rattle.std.proofs.Common.{◌≡◌, take, true}
use Rattle.std.specs.List.{list_all}
use Rattle.ae_types.specs.Rules.{files_have_locks}
use Rattle.ae_rules.proofs.locks.changes_have_locks.Given as goal

abbrev pub invariant-loop-change : goal.invariant-loop-change
invariant-loop-change l = list_all (files_have_locks l.locks) (take l.change-index l.changes) ≡ true
