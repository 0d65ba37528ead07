use Rattle.std.proofs.Common.{◌≡◌, take}
use Rattle.ae_machine.specs.Sight.{kept}
use Rattle.ae_machine.proofs.reading.kept_paths.Given as goal

abbrev pub invariant-loop-file : goal.invariant-loop-file
invariant-loop-file l = l.paths ≡ kept (take l.file-index l.files)
