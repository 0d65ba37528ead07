use Rattle.std.proofs.Common.{refl, arith}
use Rattle.ae_bundle.proofs.Turns.{bytes_front}
use Rattle.ae_bundle.proofs.Bad.{held_within}
use Rattle.ae_bundle.proofs.reading.Reading.take_bytes.Goals as goal

pub returns-clause-ok : goal.returns-clause-ok
returns-clause-ok c =
    let within = held_within c.args.self.now.next c.args.self.now.draft c.args.size c.args.self.now.held.items c.requires.size c.requires.good.begun in
    let count = c.args.self.now.held.ok in
    bytes_front c.args.self.now _ c.args.size c.args.piece.now c.split_at.result.0.now c.split_at.result.1.now c.min.result c.requires.good c.requires.size c.split_at.ensures.front c.split_at.ensures.back
    (omega (arith, c.min.ensures, c.requires.some)) (omega (arith, c.min.ensures, c.requires.some, c.if-left-eq0.false)) (omega (arith, c.min.ensures, c.len.ensures, within, count))
    refl refl c.in_ok-extend_from_slice.ensures.items refl c.update.ensures
