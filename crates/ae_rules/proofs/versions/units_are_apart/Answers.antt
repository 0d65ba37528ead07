use Rattle.std.proofs.Common.{◌∙◌, rules}
use Rattle.std.proofs.lemmas.Fn.{always_returns_same}
use Rattle.std.proofs.lemmas.List.Sorted.{IsNonDecreasingBy-from_sort_by_key}
use Rattle.ae_types.proofs.Adjacent.{adjacent-next}
use Rattle.ae_rules.proofs.VersionsApart.{version_unit, ends_before, units-sorted}
use Rattle.ae_rules.proofs.versions.units_are_apart.Goals as goal

pub returns : goal.returns
returns c = adjacent-next ends_before _ c.is_sorted_by.result (c.is_sorted_by.ensures.cases ends_before (always_returns_same _ _ _ (λ a r f' called. search rules)))
    ∙ units-sorted c.args.versions.now _ c.sort_unstable_by_key.ensures.permutation (IsNonDecreasingBy-from_sort_by_key version_unit _ c.sort_unstable_by_key.ensures.sorted (λ a r f' called. search rules)) c.requires
