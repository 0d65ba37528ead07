use Rattle.std.proofs.Common.{arith, refl}
use Rattle.ae_bundle.proofs.Bad.{bad_part, line_whole}
use Rattle.ae_bundle.proofs.Steps.{part_ok}
use Rattle.ae_bundle.proofs.reading.Reading.take_part.Goals as goal

pub returns-then-len-part-clause-bad : goal.returns-then-len-part-clause-bad
returns-then-len-part-clause-bad c = λ told. bad_part c.args.self.now c.args.part.now c.requires.good c.requires.line c.requires.whole (omega (arith, c.if-len-part.true, c.len.ensures, c.args.self.now.held.ok))

pub returns-clause-ok : goal.returns-clause-ok
returns-clause-ok c = part_ok c.args.self.now _ c.args.part.now c.requires.good c.requires.line c.requires.whole (omega (arith, c.if-len-part.false, c.len.ensures, c.args.self.now.held.ok, (line_whole c.args.self.now.next c.args.self.now.draft c.args.self.now.held.items c.requires.line c.requires.good.begun).1)) refl refl c.in_ok-extend_from_slice.ensures.items refl refl
