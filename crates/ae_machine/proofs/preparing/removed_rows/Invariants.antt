use Rattle.std.proofs.Common.{◌≡◌, take}
use Rattle.ae_machine.specs.Versions.{removed_among}
use Rattle.ae_machine.proofs.preparing.removed_rows.Given as goal

abbrev pub invariant-loop-file : goal.invariant-loop-file
invariant-loop-file l = l.rows.items ≡ removed_among (take l.file-index l.files)
