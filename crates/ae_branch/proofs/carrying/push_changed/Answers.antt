use Rattle.std.proofs.Common.{◌∙◌, sym}
use Rattle.ae_branch.proofs.CarriedRows.{row_changed, row_unchanged}
use Rattle.ae_branch.proofs.carrying.push_changed.Goals as goal

pub returns-in_ok-push : goal.returns-in_ok-push
returns-in_ok-push c = row_changed c.args.state.now c.args.row.now c.in_ok-made.made c.args.rows.now c.push.new.self (sym c.is_changed.ensures ∙ c.if-is_changed.true) c.in_ok-made.ensures c.in_ok-push.ensures.ok

pub returns-else-is_changed : goal.returns-else-is_changed
returns-else-is_changed c = row_unchanged c.args.state.now c.args.row.now c.args.rows.now (sym c.is_changed.ensures ∙ c.if-is_changed.false)
