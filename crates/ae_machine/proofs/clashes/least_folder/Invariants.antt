use Rattle.std.proofs.Common.{◌≡◌, drop}
use Rattle.std.specs.Prelude.{option_copied}
use Rattle.ae_machine.specs.LeastClash.{least_folder, least_from, file_folder}
use Rattle.ae_machine.proofs.clashes.least_folder.Given as goal

abbrev pub invariant-loop-file : goal.invariant-loop-file
invariant-loop-file l = least_folder l.state l.files ≡ least_from (file_folder l.state l.files) (option_copied l.least) (drop l.file-index l.files)
