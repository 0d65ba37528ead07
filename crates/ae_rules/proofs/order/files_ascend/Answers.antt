use Rattle.std.proofs.Common.{rules}
use Rattle.std.specs.Ordering.{is_lt}
use Rattle.std.proofs.lemmas.Fn.{always_returns_same}
use Rattle.ae_types.specs.declared.change.ChangeFile.{ChangeFile}
use Rattle.ae_types.specs.Found.{file_path}
use Rattle.ae_base.specs.Rows.{text_cmp}
use Rattle.ae_types.proofs.Adjacent.{adjacent-ascends}
use Rattle.ae_rules.proofs.order.files_ascend.Goals as goal

pub returns : goal.returns
returns c = adjacent-ascends text_cmp file_path c.args.files.now c.is_sorted_by.result
    (c.is_sorted_by.ensures.cases (λ (x y : ChangeFile). is_lt (text_cmp (file_path x) (file_path y))) (always_returns_same _ _ _ (λ a r f' called. search rules)))
