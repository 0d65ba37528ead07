use Rattle.std.proofs.Common.{rules, ◌≡◌, ◌≤◌, ◌+◌, sym, ap, subst, take, Err}
use Rattle.std.specs.Prelude.{All}
use Rattle.ae_types.specs.Frozen.{present}
use Rattle.ae_space.specs.declared.error.SpaceError.TheVariants.{Full}
use Rattle.ae_places.specs.Placing.{TakesPlaces}
use Rattle.ae_places.proofs.Places.{tree-not, tree-more, tree-all, low-more}
use Rattle.ae_places.proofs.taking.take_places.Goals as goal

pub returns-in_err-place-clause-full : goal.returns-in_err-place-clause-full
returns-in_err-place-clause-full c = λ is taken leaves.
    let first = c.loop-bytes.invariant.taken taken leaves in
    tree-not taken c.loop-bytes.space c.args.tree.now c.loop-bytes.bytes-index c.loop-bytes-item.result c.loop-bytes.places.items first c.loop-bytes-test.true c.loop-bytes-item.is
    (let same : c.from_residual.result ≡ Err c.in_err-place.field-0.0 = search rules in let is_full : c.in_err-place.field-0.0 ≡ Full = cc (same, is) in c.in_err-place.ensures.full (ap Err is_full) first.now first.left)

pub loop-bytes-preserved : goal.loop-bytes-preserved
loop-bytes-preserved c = record {
  taken = λ taken leaves.
      let first = c.loop-bytes.invariant.taken taken leaves in
      subst (λ l. TakesPlaces taken (present (take (c.loop-bytes.bytes-index + 1) c.args.tree.now)) c.take_place.new.space l) (sym c.in_ok-add.ensures)
      (tree-more taken c.loop-bytes.space c.take_place.new.space c.args.tree.now c.loop-bytes.bytes-index c.loop-bytes-item.result c.loop-bytes.places.items _ first c.loop-bytes-test.true c.loop-bytes-item.is (c.in_ok-place.ensures.taken first.now first.left));
  inside = subst (λ l. All (λ at. at ≤ 16777216) l) (sym c.in_ok-add.ensures) (low-more c.loop-bytes.places.items _ c.loop-bytes.invariant.inside c.in_ok-place.ensures.inside);
}

pub returns-clause-places : goal.returns-clause-places
returns-clause-places c = λ taken leaves. tree-all taken c.loop-bytes.space c.args.tree.now c.loop-bytes.bytes-index c.loop-bytes.places.items c.loop-bytes-test.false (c.loop-bytes.invariant.taken taken leaves)
