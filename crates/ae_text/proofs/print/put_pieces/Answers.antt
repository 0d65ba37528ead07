use Rattle.std.proofs.Common.{List, ℕ, ◌++◌, take, get_or, flat_map, ap, sym, ◌∙◌}
use Rattle.std.proofs.lemmas.List.{take_more, flat_map_more}
use Rattle.ae_text.specs.Canonical.{piece}
use Rattle.ae_text.proofs.print.put_pieces.Goals as goal

pub loop-b-preserved : goal.loop-b-preserved
loop-b-preserved c =
    let s = c.args.s.now in
    let at = c.loop-b.b-index in
    let before = c.args.out.now.items in
    c.in_ok-put_piece.ensures
    ∙ (ap (λ (l : List ℕ). l ++ piece (get_or s at 0)) c.loop-b.invariant
    ∙ (flat_map_more piece before (take at s) (get_or s at 0) ∙ ap (λ (t : List ℕ). before ++ flat_map piece t) (sym (take_more s at 0 c.loop-b-test.true))))
