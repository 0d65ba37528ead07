use Rattle.std.proofs.Common.{◌≡◌, drop}
use Rattle.ae_machine.specs.Freezing.{first_file_refused}
use Rattle.ae_machine.proofs.finishing.files_are_ready.Given as goal

abbrev pub invariant-loop-file : goal.invariant-loop-file
invariant-loop-file l = first_file_refused l.call l.change l.file-items ≡ first_file_refused l.call l.change (drop l.file-index l.file-items)
