use Rattle.std.proofs.Common.{◌≡◌, drop}
use Rattle.ae_types.specs.Found.{file_path}
use Rattle.ae_machine.specs.PathClash.{any_in_folder, file_stays}
use Rattle.ae_machine.proofs.path_clash.any_file.Given as goal

abbrev pub invariant-loop-file : goal.invariant-loop-file
invariant-loop-file l = any_in_folder file_path file_stays l.folder l.files ≡ any_in_folder file_path file_stays l.folder (drop l.file-index l.files)
