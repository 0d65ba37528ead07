use Rattle.std.proofs.Common.{rules}
use Rattle.std.specs.Ordering.{is_lt}
use Rattle.std.proofs.lemmas.Fn.{always_returns_same}
use Rattle.ae_base.specs.Rows.{text_cmp}
use Rattle.ae_types.proofs.Adjacent.{adjacent-ascends}
use Rattle.ae_machine.specs.Fits.{path_of_row}
use Rattle.ae_machine.proofs.seen.ascend.Goals as goal

pub returns : goal.returns
returns c = adjacent-ascends text_cmp path_of_row c.args.rows.now c.is_sorted_by.result
    (c.is_sorted_by.ensures.cases (λ x y. is_lt (text_cmp (path_of_row x) (path_of_row y))) (always_returns_same _ _ _ (λ a r f' called. search rules)))
