-- The loop goes over the numbers of changes, and stops at the first that is free.
use Rattle.std.proofs.Common.{◌∙◌, arith}
use Rattle.ae_machine.proofs.Upward.{found-free, not-free, none-free, all-numbers}
use Rattle.ae_machine.proofs.numbers.free_number.Goals as goal

pub loop-n-init : goal.loop-n-init
loop-n-init c = all-numbers c.args.numbers.now

pub returns-then-not-has_number : goal.returns-then-not-has_number
returns-then-not-has_number c =
    found-free c.args.numbers.now c.loop-n.n c.of-number.result c.has_number.result (omega arith) c.of-number.ensures c.has_number.ensures c.if-not-has_number.true
    ∙ c.loop-n.invariant

pub loop-n-preserved : goal.loop-n-preserved
loop-n-preserved c =
    not-free c.args.numbers.now c.loop-n.n c.of-number.result c.has_number.result (omega arith) c.of-number.ensures c.has_number.ensures c.if-not-has_number.false
    ∙ c.loop-n.invariant

pub returns : goal.returns
returns c = none-free c.args.numbers.now c.loop-n.n (omega arith) ∙ c.loop-n.invariant
