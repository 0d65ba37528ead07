use Rattle.std.proofs.Common.{◌≡◌, take, true}
use Rattle.std.specs.List.{list_all}
use Rattle.ae_types.specs.Rules.{entry_has_file}
use Rattle.ae_rules.proofs.entries.row_has_files.Given as goal

abbrev pub invariant-loop-entry : goal.invariant-loop-entry
invariant-loop-entry l = list_all (entry_has_file l.deltas l.changes l.row.path) (take l.entry-index l.row.past) ≡ true
