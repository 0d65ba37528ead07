use Rattle.std.proofs.Common.{arith}
use Rattle.ae_branch.proofs.SizesSummed.{sum_all, sum_next}
use Rattle.ae_branch.proofs.sizes.sizes_of.Goals as goal

pub loop-row-init : goal.loop-row-init
loop-row-init c = record { same = omega arith; below = omega arith }

pub overflow_add-sum : goal.overflow_add-sum
overflow_add-sum c = omega (arith, c.size_of-sum.ensures.small, c.loop-row.invariant.below, c.loop-row-test.true, c.requires)

pub loop-row-preserved : goal.loop-row-preserved
loop-row-preserved c = record {
  same = sum_next c.args.rows.now c.loop-row.row-index c.loop-row.sum _ c.row-item.result c.loop-row-test.true c.row-item.is (omega (arith, c.size_of-sum.ensures.size)) c.loop-row.invariant.same;
  below = omega (arith, c.size_of-sum.ensures.small, c.loop-row.invariant.below);
}

pub returns : goal.returns
returns c = sum_all c.args.rows.now c.loop-row.row-index c.loop-row.sum (omega arith) c.loop-row.invariant.same
