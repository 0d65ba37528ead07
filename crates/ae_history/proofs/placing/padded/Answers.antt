use Rattle.std.proofs.Common.{◌≡◌, ◌*◌, ◌-◌, ℕ, List, ◌++◌, ◌∷◌, [], length, ◌∙◌, ap, append_assoc, arith}
use Rattle.std.specs.Prelude.{replicate}
use Rattle.std.proofs.lemmas.List.{replicate_more}
use Rattle.ae_places.specs.Placing.{units_of}
use Rattle.ae_history.proofs.placing.padded.Goals as goal

pub loop-done-preserved : goal.loop-done-preserved
loop-done-preserved c =
    c.in_ok-push.ensures.items
    ∙ ap (λ (text : List ℕ). text ++ 0 ∷ []) c.loop-done.invariant
    ∙ append_assoc c.args.bytes.items (replicate c.loop-done.done 0) (0 ∷ [])
    ∙ ap (λ (zeros : List ℕ). c.args.bytes.items ++ zeros) (replicate_more c.loop-done.done 0)

pub returns : goal.returns
returns c =
    let all : c.loop-done.done ≡ 64 * units_of c.args.bytes.items - length c.args.bytes.items = omega (arith, c.units_of.ensures) in
    c.of.ensures ∙ c.loop-done.invariant ∙ ap (λ (n : ℕ). c.args.bytes.items ++ replicate n 0) all
