use Rattle.std.proofs.Common.{rules}
use Rattle.std.specs.Ordering.{is_lt, nat_cmp}
use Rattle.std.proofs.lemmas.Fn.{always_returns_same}
use Rattle.ae_types.specs.declared.file_table.FileVersion.{FileVersion}
use Rattle.ae_types.specs.Found.{entry_delta}
use Rattle.ae_types.proofs.Adjacent.{adjacent-ascends}
use Rattle.ae_rules.proofs.order.past_ascends.Goals as goal

pub returns : goal.returns
returns c = adjacent-ascends nat_cmp entry_delta c.args.past.now c.is_sorted_by.result
    (c.is_sorted_by.ensures.cases (λ (x y : FileVersion). is_lt (nat_cmp (entry_delta x) (entry_delta y))) (always_returns_same _ _ _ (λ a r f' called. search rules)))
