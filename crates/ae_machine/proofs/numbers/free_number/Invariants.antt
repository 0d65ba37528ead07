use Rattle.std.proofs.Common.{◌≡◌, ◌-◌, find}
use Rattle.ae_log.specs.Settings.{upward, change_numbers}
use Rattle.ae_machine.specs.Verdict.{is_unused}
use Rattle.ae_machine.proofs.numbers.free_number.Given as goal

abbrev pub invariant-loop-n : goal.invariant-loop-n
invariant-loop-n l = find (is_unused l.numbers) (upward l.n (2000 - l.n)) ≡ find (is_unused l.numbers) change_numbers
