-- The units of versions that meet nowhere.
use Rattle.std.proofs.Common.{◌≡◌, ℕ, ◌+◌, ◌/◌, Bool, true, false, cond, ◌&&◌, ◌||◌, not, List, [], ◌∷◌, map, refl, ◌∙◌, arith}
use Rattle.std.specs.Prelude.{nat_le, nat_lt, nat_eq, filter}
use Rattle.std.specs.List.{list_all, list_any}
use Rattle.std.proofs.lemmas.Bool.Decides.{nat_tests}
use Rattle.std.proofs.lemmas.Bool.{and_parts, false_from_ne_true}
use Rattle.ae_types.specs.declared.version.VersionRef.{VersionRef}
use Rattle.ae_types.specs.Observation.{Observation}
use Rattle.ae_types.specs.Rules.{is_in_region}
use Rattle.ae_types.specs.Sound.{Sound}
use Rattle.ae_types.specs.Versions.{live, units, has_units, end_of, meet, same_number, no_two}
use Rattle.ae_types.proofs.Splits.{and4, not-is, where-so}
use Rattle.ae_types.proofs.RulesTogether.{facts-versions}
use Rattle.ae_types.proofs.Placed.{InOrder}
use Rattle.ae_types.proofs.Versions.{meet-with}
use Rattle.ae_space.specs.Fit.{region, is_outside, none_meet, is_inside, are_inside}
use Rattle.ae_space.proofs.Between.{region-is}
use Rattle.ae_places.specs.Placing.{extent_of, extents}

-- the rows and changes of a sound state are in order
pub in-order : (o : Observation) → Sound o → InOrder o.files o.changes
in-order o s = record {
  up = s.rows.ascend;
  pasts = λ path row found. (s.rows.good path row found).ascends;
  upward = s.changes.ascend;
  files = λ number change found. (s.changes.good number change found).files.ascend;
}

fit-facts : (o : Observation) → Sound o → (list_all is_in_region (live o.files o.changes) ≡ true) × (no_two meet (live o.files o.changes) ≡ true)
fit-facts o s =
    let a = and4 (list_all (λ (version : VersionRef). nat_lt version.number o.project.next_version) (live o.files o.changes)) (no_two same_number (live o.files o.changes)) (list_all is_in_region (live o.files o.changes)) (no_two meet (live o.files o.changes))
    (facts-versions o.files o.changes (in-order o s) o.project.next_version s.versions) in
    (a.2, a.3)

-- ---- versions that have units and don't meet

apart : (v w : VersionRef) → has_units v ≡ true → has_units w ≡ true → meet v w ≡ false → is_outside v.at (units v) (extent_of w) ≡ true
apart v w one other none = go v.at v.length w.at w.length one other none
  where
    go : (va vl wa wl : ℕ) → nat_lt 0 vl ≡ true → nat_lt 0 wl ≡ true → (nat_lt 0 vl && nat_lt 0 wl && nat_lt va (wa + (wl + 63) / 64) && nat_lt wa (va + (vl + 63) / 64)) ≡ false
        → (nat_eq ((wl + 63) / 64) 0 || (nat_le (va + (vl + 63) / 64) wa || nat_le (wa + (wl + 63) / 64) va)) ≡ true
    go va vl wa wl one other none = grind (arith, nat_tests)

all-apart : (v : VersionRef) (versions : List VersionRef) → has_units v ≡ true → list_any (meet v) (filter has_units versions) ≡ false → list_all (is_outside v.at (units v)) (map extent_of (filter has_units versions)) ≡ true
all-apart v [] some none = refl
all-apart v (w ∷ versions) some none = go (has_units w) refl none (all-apart v versions some)
  where
    split : (a b : Bool) → (a || b) ≡ false → (a ≡ false) × (b ≡ false)
    split true b e = cc
    split false b e = (refl, e)

    go : (b : Bool) → has_units w ≡ b → list_any (meet v) (cond b (w ∷ filter has_units versions) (filter has_units versions)) ≡ false
        → (list_any (meet v) (filter has_units versions) ≡ false → list_all (is_outside v.at (units v)) (map extent_of (filter has_units versions)) ≡ true)
        → list_all (is_outside v.at (units v)) (map extent_of (cond b (w ∷ filter has_units versions) (filter has_units versions))) ≡ true
    go true is none rest = let two = split (meet v w) (list_any (meet v) (filter has_units versions)) none in λ i. apart v w some is two.0 i && rest two.1 i
    go false is none rest = rest none

none-meet : (versions : List VersionRef) → no_two meet (filter has_units versions) ≡ true → none_meet (map extent_of (filter has_units versions)) ≡ true
none-meet [] e = refl
none-meet (v ∷ versions) e = go (has_units v) refl e (none-meet versions)
  where
    go : (b : Bool) → has_units v ≡ b → no_two meet (cond b (v ∷ filter has_units versions) (filter has_units versions)) ≡ true
        → (no_two meet (filter has_units versions) ≡ true → none_meet (map extent_of (filter has_units versions)) ≡ true)
        → none_meet (map extent_of (cond b (v ∷ filter has_units versions) (filter has_units versions))) ≡ true
    go true is e rest =
        let two = and_parts (not (list_any (meet v) (filter has_units versions))) (no_two meet (filter has_units versions)) e in
        λ i. all-apart v versions is (false_from_ne_true (list_any (meet v) (filter has_units versions)) (λ any. not-is (list_any (meet v) (filter has_units versions)) two.0 any)) i && rest two.1 i
    go false is e rest = rest e

all-inside : (versions : List VersionRef) → list_all is_in_region versions ≡ true → are_inside (map extent_of (filter has_units versions)) ≡ true
all-inside [] e = refl
all-inside (v ∷ versions) e = go (has_units v) refl (and_parts (is_in_region v) (list_all is_in_region versions) e) (all-inside versions)
  where
    go : (b : Bool) → has_units v ≡ b → (is_in_region v ≡ true) × (list_all is_in_region versions ≡ true) → (list_all is_in_region versions ≡ true → are_inside (map extent_of (filter has_units versions)) ≡ true)
        → are_inside (map extent_of (cond b (v ∷ filter has_units versions) (filter has_units versions))) ≡ true
    go true is e rest = λ i. inside v is e.0 i && rest e.1 i
      where
        inside : (v : VersionRef) → has_units v ≡ true → is_in_region v ≡ true → is_inside (extent_of v) ≡ true
        inside v is e = numbers (end_of v) (units v) region region-is (where-so (has_units v) (nat_le (end_of v) 16777216) e is)
          where
            numbers : (end n most : ℕ) → most ≡ 16777216 → nat_le end 16777216 ≡ true → (nat_eq n 0 || nat_le end most) ≡ true
            numbers end n most is e = grind (arith, nat_tests, is, e)
    go false is e rest = rest e.1

pub extents-apart : (o : Observation) → Sound o → none_meet (extents o) ≡ true
extents-apart o s = none-meet (live o.files o.changes) (meet-with (live o.files o.changes) ∙ (fit-facts o s).1)

pub extents-inside : (o : Observation) → Sound o → are_inside (extents o) ≡ true
extents-inside o s = all-inside (live o.files o.changes) (fit-facts o s).0
