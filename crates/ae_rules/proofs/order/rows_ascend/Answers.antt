use Rattle.std.proofs.Common.{rules}
use Rattle.std.specs.Ordering.{is_lt}
use Rattle.std.proofs.lemmas.Fn.{always_returns_same}
use Rattle.ae_types.specs.declared.file_table.FileRow.{FileRow}
use Rattle.ae_types.specs.Found.{row_path}
use Rattle.ae_base.specs.Rows.{text_cmp}
use Rattle.ae_types.proofs.Adjacent.{adjacent-ascends}
use Rattle.ae_rules.proofs.order.rows_ascend.Goals as goal

pub returns : goal.returns
returns c = adjacent-ascends text_cmp row_path c.args.rows.now c.is_sorted_by.result
    (c.is_sorted_by.ensures.cases (λ (x y : FileRow). is_lt (text_cmp (row_path x) (row_path y))) (always_returns_same _ _ _ (λ a r f' called. search rules)))
