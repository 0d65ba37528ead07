use Rattle.std.proofs.Common.{◌≤◌, List, take}
use Rattle.std.specs.Prelude.{All}
use Rattle.ae_types.specs.Frozen.{present}
use Rattle.ae_space.specs.declared.extent.Extent.{Extent}
use Rattle.ae_space.specs.Gaps.{Leaves}
use Rattle.ae_places.specs.Placing.{TakesPlaces}
use Rattle.ae_places.proofs.taking.take_places.Given as goal

abbrev pub invariant-loop-bytes : goal.invariant-loop-bytes
invariant-loop-bytes l = record {
  taken : (taken : List Extent) → Leaves taken l.initial.space → TakesPlaces taken (present (take l.bytes-index l.tree)) l.space l.places.items;
  inside : All (λ at. at ≤ 16777216) l.places.items;
}
