use Rattle.std.proofs.Common.{◌≡◌, true, false, sym, subst, ◌∙◌, arith}
use Rattle.sha2.specs.Hashers.{Holds256}
use Rattle.sha2.specs.declared.Sha256.{Sha256}
use Rattle.ae_bundle.specs.Bundled.{front_of}
use Rattle.ae_bundle.specs.declared.reading.Next.TheVariants as comes
use Rattle.ae_bundle.proofs.Bad.{bad_end, good_digest}
use Rattle.ae_bundle.proofs.reading.Reading.end_text.Goals as goal

pub returns-then-len-eq0-clause-bad : goal.returns-then-len-eq0-clause-bad
returns-then-len-eq0-clause-bad c = λ told. bad_end c.args.self.now c.requires.end.0 c.requires.good c.requires.file c.requires.end.1 (λ same some. absurd (omega (arith, some, c.len.ensures, c.if-len-eq0.true)))

pub returns-then-not-is_end-clause-bad : goal.returns-then-not-is_end-clause-bad
returns-then-not-is_end-clause-bad c = λ told. bad_end c.args.self.now c.requires.end.0 c.requires.good c.requires.file c.requires.end.1 (λ same some.
    let holds = subst (λ (h : Sha256). Holds256 h (front_of c.args.self.now.draft)) (sym c.replace-hasher.ensures.value) (good_digest c.args.self.now comes.File c.requires.good c.requires.file) in
    let both : true ≡ false = sym ((c.is_end.ensures (front_of c.args.self.now.draft) holds).1 (c.as_slice.ensures.value ∙ same)) ∙ c.if-not-is_end.true in cc)
