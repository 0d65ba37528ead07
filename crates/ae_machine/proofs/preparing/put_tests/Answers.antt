use Rattle.ae_machine.proofs.Picked.{overlaid-more}
use Rattle.ae_machine.proofs.preparing.put_tests.Goals as goal

pub loop-row-preserved : goal.loop-row-preserved
loop-row-preserved c = overlaid-more c.args.tree.now c.args.change.now c.args.rows.now c.loop-row.row-index c.row-item.result c.loop-row.tree c.put_test.new.tree c.loop-row-test.true c.row-item.is c.loop-row.invariant c.in_ok-put_test.ensures
