use Rattle.std.proofs.Common.{◌∙◌, sym}
use Rattle.ae_branch.proofs.Taking.{row_refused, row_taken, rows_end}
use Rattle.ae_branch.proofs.current.refuses_paths.Goals as goal

pub returns-in-Some : goal.returns-in-Some
returns-in-Some c =
    sym (row_refused c.args.state.now c.args.delta c.args.rows.now c.loop-row.row-index c.row-item.result c.in-Some.refusal c.loop-row-test.true c.row-item.is (sym c.in_ok-refusal.ensures ∙ c.in-Some.is))
    ∙ c.loop-row.invariant

pub loop-row-preserved : goal.loop-row-preserved
loop-row-preserved c = row_taken c.args.state.now c.args.delta c.args.rows.now c.loop-row.row-index c.row-item.result c.loop-row-test.true c.row-item.is (sym c.in_ok-refusal.ensures ∙ c.in_default.is) ∙ c.loop-row.invariant

pub returns : goal.returns
returns c = sym (rows_end c.args.state.now c.args.delta c.args.rows.now c.loop-row.row-index c.loop-row-test.false) ∙ c.loop-row.invariant
