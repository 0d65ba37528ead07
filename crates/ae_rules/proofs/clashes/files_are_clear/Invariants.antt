use Rattle.std.proofs.Common.{◌≡◌, take, true}
use Rattle.std.specs.List.{list_all}
use Rattle.ae_rules.specs.Overlay.{file_is_clear}
use Rattle.ae_rules.proofs.clashes.files_are_clear.Given as goal

abbrev pub invariant-loop-file : goal.invariant-loop-file
invariant-loop-file l = list_all (file_is_clear l.deltas l.rows l.change) (take l.file-index l.change.files) ≡ true
