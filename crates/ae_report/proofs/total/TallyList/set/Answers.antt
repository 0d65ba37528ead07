use Rattle.std.proofs.Common.{ℕ, ℤ, ◌<◌, ◌≤◌, ◌∙◌, List, [], ◌∷◌, ◌++◌, length, w64, to_z, of_z, refl, sym, ap, arith}
use Rattle.std.proofs.lemmas.Grind.{common_steps}
use Rattle.std.proofs.lemmas.Int.{to_z-of_z}
use Rattle.ae_report.specs.Out.{set_total}
use Rattle.ae_report.proofs.Totals.{found, not-found}
use Rattle.ae_report.proofs.total.TallyList.set.Goals as goal

pub returns-then-eq : goal.returns-then-eq
returns-then-eq c =
    let tallies = c.loop-i.self-inside.items.items in
    let value = to_z w64 (of_z w64 c.args.value) in
    let below : c.loop-i.i < length tallies = grind (arith, common_steps) in
    found c.args.name.now value value tallies _ c.loop-i.i c.index.result.now c.index_mut.result.now below c.index.ensures c.index_mut.ensures.value
    (sym c.eq.ensures ∙ c.if-eq.true) refl c.loop-i.invariant.none
    ∙ ap (set_total c.args.name.now value) c.self.view_is
    ∙ ap (λ (v : ℤ). set_total c.args.name.now v c.args.self.now) (to_z-of_z w64 c.args.value c.ranges.value)

pub returns : goal.returns
returns c =
    let tallies = c.loop-i.self-inside.items.items in
    let value = to_z w64 (of_z w64 c.args.value) in
    let past : length tallies ≤ c.loop-i.i = grind (arith, common_steps) in
    c.in_ok-push.ensures.items
    ∙ ap (λ (name : List ℕ). tallies ++ record { name = name; value = value } ∷ []) c.in_ok-name.ensures
    ∙ not-found c.args.name.now value tallies _ c.loop-i.i past c.loop-i.invariant.none
    ∙ ap (set_total c.args.name.now value) c.self.view_is
    ∙ ap (λ (v : ℤ). set_total c.args.name.now v c.args.self.now) (to_z-of_z w64 c.args.value c.ranges.value)
