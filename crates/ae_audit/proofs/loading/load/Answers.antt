use Rattle.std.proofs.Common.{◌≡◌, length, sym, ◌∙◌, arith}
use Rattle.std.proofs.lemmas.Bool.Decides.{nat_tests}
use Rattle.ae_types.proofs.Places.{no-items}
use Rattle.ae_audit.proofs.loading.load.Goals as goal

pub returns-then-is_empty-clause-loaded : goal.returns-then-is_empty-clause-loaded
returns-then-is_empty-clause-loaded g c =
    let tested = sym c.is_empty.ensures ∙ c.if-is_empty.true in
    let same = c.in_ok-bytes.bytes.ok in
    let none : length c.in_ok-bytes.bytes.items ≡ 0 = grind (arith, nat_tests) in
    λ t. sym (c.in_ok-bytes.ensures.bytes t) ∙ no-items c.in_ok-bytes.bytes.items none
