use Rattle.std.proofs.Common.{rules}
use Rattle.std.specs.Ordering.{is_lt, nat_cmp}
use Rattle.std.proofs.lemmas.Fn.{always_returns_same}
use Rattle.ae_types.specs.declared.change.Change.{Change}
use Rattle.ae_types.specs.Found.{number_of_change}
use Rattle.ae_types.proofs.Adjacent.{adjacent-ascends}
use Rattle.ae_rules.proofs.order.changes_ascend.Goals as goal

pub returns : goal.returns
returns c = adjacent-ascends nat_cmp number_of_change c.args.changes.now c.is_sorted_by.result
    (c.is_sorted_by.ensures.cases (λ (x y : Change). is_lt (nat_cmp (number_of_change x) (number_of_change y))) (always_returns_same _ _ _ (λ a r f' called. search rules)))
