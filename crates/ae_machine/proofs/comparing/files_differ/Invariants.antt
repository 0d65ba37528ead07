use Rattle.std.proofs.Common.{◌≡◌, drop}
use Rattle.ae_machine.specs.Versions.{first_differing}
use Rattle.ae_machine.proofs.comparing.files_differ.Given as goal

abbrev pub invariant-loop-row : goal.invariant-loop-row
invariant-loop-row l = first_differing l.view l.row-items ≡ first_differing l.view (drop l.row-index l.row-items)
