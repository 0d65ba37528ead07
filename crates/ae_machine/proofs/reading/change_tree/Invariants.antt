use Rattle.std.proofs.Common.{◌≡◌, map, take}
use Rattle.ae_types.specs.declared.change.ChangeFile.{ChangeFile}
use Rattle.ae_machine.specs.Sight.{bytes_read}
use Rattle.ae_machine.proofs.reading.change_tree.Given as goal

abbrev pub invariant-loop-file : goal.invariant-loop-file
invariant-loop-file l = l.rows.items ≡ map (λ (file : ChangeFile). (file.path, bytes_read l.view file)) (take l.file-index l.files)
