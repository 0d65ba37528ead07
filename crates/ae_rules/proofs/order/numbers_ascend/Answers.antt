use Rattle.std.proofs.Common.{ℕ, rules}
use Rattle.std.specs.Ordering.{is_lt, nat_cmp}
use Rattle.std.proofs.lemmas.Fn.{always_returns_same}
use Rattle.ae_types.specs.Ordered.{itself}
use Rattle.ae_types.proofs.Adjacent.{adjacent-ascends}
use Rattle.ae_rules.proofs.order.numbers_ascend.Goals as goal

pub returns : goal.returns
returns c = adjacent-ascends nat_cmp itself c.args.numbers.now c.is_sorted_by.result
    (c.is_sorted_by.ensures.cases (λ (x y : ℕ). is_lt (nat_cmp (itself x) (itself y))) (always_returns_same _ _ _ (λ a r f' called. search rules)))
