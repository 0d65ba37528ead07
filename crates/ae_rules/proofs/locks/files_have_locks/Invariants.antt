use Rattle.std.proofs.Common.{◌≡◌, take, true}
use Rattle.std.specs.List.{list_all}
use Rattle.ae_rules.specs.Beside.{file_has_lock}
use Rattle.ae_rules.proofs.locks.files_have_locks.Given as goal

abbrev pub invariant-loop-file : goal.invariant-loop-file
invariant-loop-file l = list_all (file_has_lock l.locks l.change.number) (take l.file-index l.change.files) ≡ true
