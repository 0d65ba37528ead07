use Rattle.std.proofs.Common.{◌∙◌, ℕ, rules}
use Rattle.std.specs.Ordering.{nat_cmp}
use Rattle.std.proofs.lemmas.Fn.{always_returns_same}
use Rattle.ae_types.specs.Ordered.{itself}
use Rattle.ae_types.proofs.Keys.{by_number}
use Rattle.ae_types.proofs.BinarySearch.{search-any}
use Rattle.ae_types.proofs.lookup.has_number.Goals as goal

pub returns : goal.returns
returns c = c.is_ok.ensures.value ∙ search-any by_number itself c.args.number c.args.numbers.now c.binary_search_by.result 0 c.requires c.binary_search_by.ensures.bound
    (c.binary_search_by.ensures.position (λ (y : ℕ). nat_cmp y c.args.number) (always_returns_same _ _ _ (λ a r f' called. search rules)))
