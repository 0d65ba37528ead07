use Rattle.std.proofs.Common.{◌≡◌, take, true}
use Rattle.std.specs.List.{list_all}
use Rattle.ae_types.specs.Rules.{file_is_entered}
use Rattle.ae_rules.proofs.entries.files_are_entered.Given as goal

abbrev pub invariant-loop-file : goal.invariant-loop-file
invariant-loop-file l = list_all (file_is_entered l.rows l.delta) (take l.file-index l.files) ≡ true
