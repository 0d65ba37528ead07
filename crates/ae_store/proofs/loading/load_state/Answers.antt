use Rattle.std.proofs.Common.{◌≡◌, length, sym, ◌∙◌, arith}
use Rattle.std.proofs.lemmas.Bool.Decides.{nat_tests}
use Rattle.ae_store.specs.Records.{nothing}
use Rattle.ae_store.proofs.Reading.{no_bytes}
use Rattle.ae_store.proofs.loading.load_state.Goals as goal

pub returns-then-is_empty-clause-loaded : goal.returns-then-is_empty-clause-loaded
returns-then-is_empty-clause-loaded g c =
    let tested = sym c.is_empty.ensures ∙ c.if-is_empty.true in
    let same = c.in_ok-bytes.bytes.ok in
    let none : length c.in_ok-bytes.bytes.items ≡ 0 = grind (arith, nat_tests) in
    λ t. nothing (c.in_ok-bytes.ensures.bytes t ∙ no_bytes c.in_ok-bytes.bytes.items none)
