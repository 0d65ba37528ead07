use Rattle.std.proofs.Common.{◌≡◌, ◌++◌, ◌∷◌, [], get_or, ap, sym, ◌∙◌}
use Rattle.std.proofs.lemmas.List.{map_more}
use Rattle.ae_text.specs.Grammar.{line_after, line_of}
use Rattle.ae_text.proofs.lines.lines_at.Goals as goal

pub ends_before-ends-requires : goal.ends_before-ends-requires
ends_before-ends-requires c = c.loop-place.invariant.1

pub loop-place-preserved : goal.loop-place-preserved
loop-place-preserved c =
    let place = get_or c.args.places.now c.loop-place.place-index 0 in
    let number : c.number_of_line.result ≡ line_of c.args.bytes.now place = c.number_of_line.ensures ∙ ap line_after c.ends_before-ends.ensures in (
      c.in_ok-push.ensures.items
          ∙ (λ i. c.loop-place.invariant.0 i ++ number i ∷ [])
          ∙ sym (map_more (line_of c.args.bytes.now) c.args.places.now c.loop-place.place-index 0 c.loop-place-test.true),
      c.ends_before-ends.ensures,
    )
