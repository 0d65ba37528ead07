use Rattle.std.proofs.Common.{sym, ◌∙◌}
use Rattle.ae_types.specs.Found.{row_path}
use Rattle.ae_types.proofs.Keys.{by_text}
use Rattle.ae_types.proofs.Searched.{test-ascends}
use Rattle.ae_rules.proofs.files_alone.files_are_good.Goals as goal

pub none_clash-requires : goal.none_clash-requires
none_clash-requires c = (test-ascends by_text row_path c.args.rows.now (sym c.rows_ascend.ensures ∙ c.if-not-rows_ascend.false), tt)
