use Rattle.std.proofs.Common.{◌≡◌, ◌+◌, ◌++◌, List, ℕ, take, drop, ap, sym, ◌∙◌, arith}
use Rattle.std.proofs.lemmas.Grind.{common_steps}
use Rattle.ae_memory.proofs.Pieces.{piece_then_rest}
use Rattle.ae_memory.proofs.source.move_piece.Goals as goal

pub returns-clause-moved : goal.returns-clause-moved
returns-clause-moved c =
    let n = c.min-count.result in
    let from = c.args.from.now in
    let front : take n (c.copy_from_slice.new.self ++ drop n c.args.into.now) ≡ take n (drop c.args.at from) = grind (arith, common_steps, c.copy_from_slice.ensures.after, c.min-count.ensures) in
    sym (piece_then_rest from c.args.at n) ∙ sym (ap (λ (piece : List ℕ). piece ++ drop (c.args.at + n) from) front)
