use Rattle.std.proofs.Common.{◌≡◌, true, false, not, sym, ap, ◌∙◌}
use Rattle.std.proofs.lemmas.Slice.Eq.{bytes_eq-Decides}
use Rattle.ae_bundle.proofs.Bad.{bad_head}
use Rattle.ae_bundle.proofs.reading.Reading.end_head.Goals as goal

pub returns-then-ne-clause-bad : goal.returns-then-ne-clause-bad
returns-then-ne-clause-bad c = λ told. bad_head c.args.self.now c.requires.good c.requires.head (λ is.
    let same : true ≡ false = sym c.if-ne.true ∙ c.ne.ensures ∙ ap not ((bytes_eq-Decides c.as_slice.result.now c.as_slice-2.result.now).1 (c.as_slice.ensures.value ∙ is ∙ sym c.as_slice-2.ensures)) in cc)
