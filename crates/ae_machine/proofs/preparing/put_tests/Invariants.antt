use Rattle.std.proofs.Common.{◌≡◌, take}
use Rattle.ae_machine.specs.Sight.{only_tests, overlaid}
use Rattle.ae_machine.proofs.preparing.put_tests.Given as goal

abbrev pub invariant-loop-row : goal.invariant-loop-row
invariant-loop-row l = l.tree ≡ overlaid l.initial.tree (only_tests l.change (take l.row-index l.rows))
