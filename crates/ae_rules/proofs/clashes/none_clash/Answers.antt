use Rattle.std.proofs.Common.{sym, ap, ◌∙◌, Some, None}
use Rattle.std.specs.Option.{option_copied}
use Rattle.ae_rules.proofs.ClearPaths.{clash-row, clash-files}
use Rattle.ae_rules.proofs.clashes.none_clash.Goals as goal

pub returns-then-not-rows_are_clear : goal.returns-then-not-rows_are_clear
returns-then-not-rows_are_clear c = sym (clash-row c.args.deltas c.args.rows.now (option_copied c.args.change) c.requires (sym c.rows_are_clear.ensures ∙ c.if-not-rows_are_clear.true))

pub returns-in-Some : goal.returns-in-Some
returns-in-Some c = c.files_are_clear.ensures ∙ sym (clash-files c.args.deltas c.args.rows.now (option_copied c.args.change) (Some c.in-Some.change.now) (ap option_copied c.in-Some.is) c.requires (sym c.rows_are_clear.ensures ∙ c.if-not-rows_are_clear.false))

pub returns-in-None : goal.returns-in-None
returns-in-None c = sym (clash-files c.args.deltas c.args.rows.now (option_copied c.args.change) None (ap option_copied c.in-None.is) c.requires (sym c.rows_are_clear.ensures ∙ c.if-not-rows_are_clear.false))
