-- The gaps between extents in their order.
use Rattle.std.proofs.Common.{◌≡◌, inl, inr, ℕ, zero, suc, ◌+◌, ◌-◌, ◌<◌, ◌≤◌, Bool, true, false, cond, ◌||◌, not, List, [], ◌∷◌, ◌++◌, length, get_or, drop, append_assoc, refl, sym, ◌∙◌, ap, subst, arith}
use Rattle.std.specs.Prelude.{nat_le, nat_lt, nat_eq, filter, All}
use Rattle.std.specs.List.{list_all, count_by}
use Rattle.std.specs.List.Sorted.{IsPermutation, IsNonDecreasingBy}
use Rattle.std.proofs.lemmas.Bool.{cases_lt, and_parts}
use Rattle.std.proofs.lemmas.Bool.Decides.{nat_tests}
use Rattle.std.proofs.lemmas.List.Elements.{All-filter, filter_passes}
use Rattle.std.proofs.lemmas.List.{at_drop_more, at_drop_all}
use Rattle.std.proofs.lemmas.List.Recursion.{is_count_by}
use Rattle.std.proofs.lemmas.List.Sorted.{All-permutation, sum_by-IsPermutation, list_any-IsPermutation}
use Rattle.std.proofs.lemmas.Map.Views.{any-filter_same}
use Rattle.ae_space.specs.declared.extent.Extent.{Extent}
use Rattle.ae_space.specs.Fit.{region, is_outside, none_meet, is_inside, are_inside}
use Rattle.ae_space.specs.Gaps.{has_unit, one_has, Leaves, AreSpread, AreInOrder, gaps_from}
use Rattle.ae_space.proofs.Tests.{has-unit, unit-in, no-unit, outside-is}
use Rattle.ae_space.proofs.Runs.{spread-lower, none-below}

-- ---- gaps

pub gaps-spread : (from : ℕ) (extents : List Extent) → from ≤ region → AreInOrder from extents → AreSpread from (gaps_from from extents)
gaps-spread from [] le order = (omega arith, omega (arith, le), tt)
gaps-spread from (e ∷ extents) le order =
    let end : from + (e.at - from) ≡ e.at = omega (arith, order.0) in (
      omega arith,
      omega (arith, end, order.2),
      spread-lower (from + (e.at - from) + 1) (e.at + e.units) (gaps_from (e.at + e.units) extents) (omega (arith, end, order.1)) (gaps-spread (e.at + e.units) extents order.2 order.3),
    )

before-all : (from : ℕ) (extents : List Extent) → AreInOrder from extents → (k : ℕ) → k < from → one_has extents k ≡ false
before-all from [] order k below = refl
before-all from (e ∷ extents) order k below = λ i. no-unit k e (inl (omega (arith, below, order.0))) i || before-all (e.at + e.units) extents order.3 k (omega (arith, below, order.0)) i

between : (from : ℕ) (extents : List Extent) → from ≤ region → AreInOrder from extents → (k : ℕ) → from ≤ k → k < region → one_has (gaps_from from extents) k ≡ not (one_has extents k)
between from [] le order k low high = ap (λ (b : Bool). b || false) (has-unit k (record { at = from; units = region - from }) low (omega (arith, le, high)))
between from (e ∷ extents) le order k low high = elim (cases_lt k (e.at + e.units)) [
  | inl within ↦ elim (cases_lt k e.at) [
    | inl before ↦
        ap (λ (b : Bool). b || one_has (gaps_from (e.at + e.units) extents) k) (has-unit k (record { at = from; units = e.at - from }) low (omega (arith, before, order.0)))
        ∙ ap not (sym (λ i. no-unit k e (inl before) i || before-all (e.at + e.units) extents order.3 k within i))
    | inr inside ↦
        (λ i. no-unit k (record { at = from; units = e.at - from }) (inr (omega (arith, inside, order.0))) i || none-below (e.at + e.units) (gaps_from (e.at + e.units) extents) (gaps-spread (e.at + e.units) extents order.2 order.3) k within i)
        ∙ ap not (sym (ap (λ (b : Bool). b || one_has extents k) (has-unit k e inside within)))
  ]
  | inr behind ↦
      ap (λ (b : Bool). b || one_has (gaps_from (e.at + e.units) extents) k) (no-unit k (record { at = from; units = e.at - from }) (inr (omega (arith, behind, order.0, order.1))))
      ∙ between (e.at + e.units) extents order.2 order.3 k behind high
      ∙ ap not (sym (ap (λ (b : Bool). b || one_has extents k) (no-unit k e (inr behind))))
]

pub gaps-left : (extents : List Extent) → AreInOrder 0 extents → Leaves extents (gaps_from 0 extents)
gaps-left extents order = record { each = λ k below. between 0 extents (omega arith) order k (omega arith) below }

-- ---- the order

-- how many of them have a unit
cover : ℕ → List Extent → ℕ
cover k [] = 0
cover k (e ∷ extents) = cond (has_unit k e) (1 + cover k extents) (cover k extents)

cover-count : (k : ℕ) (extents : List Extent) → cover k extents ≡ count_by (has_unit k) extents
unfolding cover
cover-count k extents = is_count_by (cover k) (has_unit k) refl (λ x xs. refl) extents

cover-permuted : (k : ℕ) (xs ys : List Extent) → IsPermutation xs ys → cover k ys ≡ cover k xs
cover-permuted k xs ys p = cover-count k ys ∙ sum_by-IsPermutation (λ (e : Extent). cond (has_unit k e) 1 0) xs ys p ∙ sym (cover-count k xs)

none-cover : (k : ℕ) (e : Extent) (extents : List Extent) → has_unit k e ≡ true → list_all (is_outside e.at e.units) extents ≡ true → cover k extents ≡ 0
unfolding cover
none-cover k e [] has all = refl
none-cover k e (x ∷ extents) has all =
    let parts = and_parts (is_outside e.at e.units x) (list_all (is_outside e.at e.units) extents) all in
    let within = unit-in k e has in
    ap (λ (b : Bool). cond b (1 + cover k extents) (cover k extents)) (outside-is e.at e.units x parts.0 k within.0 within.1) ∙ none-cover k e extents has parts.1

apart-cover : (k : ℕ) (extents : List Extent) → none_meet extents ≡ true → cover k extents ≤ 1
unfolding cover
apart-cover k [] apart = omega arith
apart-cover k (e ∷ extents) apart = go (has_unit k e) refl (apart-cover k extents)
  where
    parts : (list_all (is_outside e.at e.units) extents ≡ true) × (none_meet extents ≡ true)
    parts = and_parts (list_all (is_outside e.at e.units) extents) (none_meet extents) apart

    go : (b : Bool) → has_unit k e ≡ b → (none_meet extents ≡ true → cover k extents ≤ 1) → cond b (1 + cover k extents) (cover k extents) ≤ 1
    go true has rest = let none = none-cover k e extents has parts.0 in omega (arith, none)
    go false has rest = rest parts.1

cover-filter : (k : ℕ) (p : Extent → Bool) (extents : List Extent) → cover k (filter p extents) ≤ cover k extents
unfolding cover
cover-filter k p [] = omega arith
cover-filter k p (e ∷ extents) = go (p e) (cover-filter k p extents)
  where
    kept : (c : Bool) (m n : ℕ) → m ≤ n → cond c (1 + m) m ≤ cond c (1 + n) n
    kept true m n le = omega (arith, le)
    kept false m n le = le

    dropped : (c : Bool) (m n : ℕ) → m ≤ n → m ≤ cond c (1 + n) n
    dropped true m n le = omega (arith, le)
    dropped false m n le = le

    go : (b : Bool) → cover k (filter p extents) ≤ cover k extents → cover k (cond b (e ∷ filter p extents) (filter p extents)) ≤ cond (has_unit k e) (1 + cover k extents) (cover k extents)
    go true rest = kept (has_unit k e) (cover k (filter p extents)) (cover k extents) rest
    go false rest = dropped (has_unit k e) (cover k (filter p extents)) (cover k extents) rest

cover-at : (k : ℕ) (extents : List Extent) (i : ℕ) (d : Extent) → i < length extents → has_unit k (get_or extents i d) ≡ true → 1 ≤ cover k extents
unfolding cover
cover-at k [] i d lt has = absurd (omega (arith, lt))
cover-at k (e ∷ extents) zero d lt has = let one : cond (has_unit k e) (1 + cover k extents) (cover k extents) ≡ 1 + cover k extents = ap (λ (b : Bool). cond b (1 + cover k extents) (cover k extents)) has in omega (arith, one)
cover-at k (e ∷ extents) (suc i) d lt has = go (has_unit k e) (cover-at k extents i d (omega (arith, lt)) has)
  where
    go : (b : Bool) → 1 ≤ cover k extents → 1 ≤ cond b (1 + cover k extents) (cover k extents)
    go true some = omega (arith, some)
    go false some = some

abbrev HasUnits : Extent → Type 0
HasUnits e = 0 < e.units

abbrev Ends : Extent → Type 0
Ends e = e.at + e.units ≤ region

abbrev pub place_of : Extent → ℕ
place_of e = e.at

order : (from : ℕ) (extents : List Extent) → All (λ (e : Extent). from ≤ e.at) extents → IsNonDecreasingBy (λ (e : Extent). e.at) extents → All HasUnits extents → All Ends extents → ((k : ℕ) → cover k extents ≤ 1) → AreInOrder from extents
unfolding cover
order from [] low up some ends once = tt
order from (e ∷ extents) low up some ends once = (
  low 0 e (omega arith),
  some 0 e (omega arith),
  ends 0 e (omega arith),
  order (e.at + e.units) extents behind (λ i j d le lt. up (suc i) (suc j) d (omega (arith, le)) (omega (arith, lt))) (λ i d lt. some (suc i) d (omega (arith, lt))) (λ i d lt. ends (suc i) d (omega (arith, lt))) (λ k. rest k),
)
  where
    rest : (k : ℕ) → cover k extents ≤ 1
    rest k = go (has_unit k e) (once k)
      where
        go : (b : Bool) → cond b (1 + cover k extents) (cover k extents) ≤ 1 → cover k extents ≤ 1
        go true le = omega (arith, le)
        go false le = le

    behind : All (λ (x : Extent). e.at + e.units ≤ x.at) extents
    behind i d lt = elim (cases_lt (get_or extents i d).at (e.at + e.units)) [
      | inr after ↦ after
      | inl inside ↦
          let unit = (get_or extents i d).at in
          let first = up 0 (suc i) d (omega arith) (omega (arith, lt)) in
          let has = some (suc i) d (omega (arith, lt)) in
          let in_first : has_unit unit e ≡ true = has-unit unit e first inside in
          let in_other = cover-at unit extents i d lt (has-unit unit (get_or extents i d) (omega arith) (omega (arith, has))) in
          let twice : cond (has_unit unit e) (1 + cover unit extents) (cover unit extents) ≡ 1 + cover unit extents = ap (λ (b : Bool). cond b (1 + cover unit extents) (cover unit extents)) in_first in
          absurd (omega (arith, once unit, twice, in_other))
    ]

-- ---- sorted by their places

abbrev pub some_units : Extent → Bool
some_units extent = nat_lt 0 extent.units

pub sorted-order : (extents sorted : List Extent) → none_meet extents ≡ true → are_inside extents ≡ true → IsPermutation (filter some_units extents) sorted → IsNonDecreasingBy (λ (e : Extent). e.at) sorted → AreInOrder 0 sorted
sorted-order extents sorted apart inside p up =
    order 0 sorted (λ i d lt. omega arith) up
    (All-permutation HasUnits (filter some_units extents) sorted p (λ i d lt. has (get_or (filter some_units extents) i d) (filter_passes some_units extents i d lt)))
    (All-permutation Ends (filter some_units extents) sorted p (λ i d lt. ends (get_or (filter some_units extents) i d) (filter_passes some_units extents i d lt) (All-filter some_units (λ (e : Extent). is_inside e ≡ true) extents (each extents inside) i d lt)))
    (λ k. let one = apart-cover k extents apart in let fewer = cover-filter k some_units extents in let same = cover-permuted k (filter some_units extents) sorted p in omega (arith, one, fewer, same))
  where
    has : (e : Extent) → some_units e ≡ true → 0 < e.units
    has e is = go e.units is
      where
        go : (n : ℕ) → nat_lt 0 n ≡ true → 0 < n
        go n is = grind (arith, nat_tests)

    ends : (e : Extent) → some_units e ≡ true → is_inside e ≡ true → e.at + e.units ≤ region
    ends e is inside = go e.at e.units region is inside
      where
        go : (at n most : ℕ) → nat_lt 0 n ≡ true → (nat_eq n 0 || nat_le (at + n) most) ≡ true → at + n ≤ most
        go at n most is inside = grind (arith, nat_tests)

    each : (xs : List Extent) → list_all is_inside xs ≡ true → All (λ (e : Extent). is_inside e ≡ true) xs
    each [] all i d lt = absurd (omega (arith, lt))
    each (x ∷ xs) all zero d lt = (and_parts (is_inside x) (list_all is_inside xs) all).0
    each (x ∷ xs) all (suc i) d lt = each xs (and_parts (is_inside x) (list_all is_inside xs) all).1 i d (omega (arith, lt))

pub sorted-leaves : (extents sorted gaps : List Extent) → IsPermutation (filter some_units extents) sorted → Leaves sorted gaps → Leaves extents gaps
sorted-leaves extents sorted gaps p leaves = record {
  each = λ k below. leaves.each k below ∙ ap not (sym (list_any-IsPermutation (has_unit k) (filter some_units extents) sorted p) ∙ any-filter_same (has_unit k) some_units true (λ e has. has-some k e has) extents);
}
  where
    has-some : (k : ℕ) (e : Extent) → has_unit k e ≡ true → some_units e ≡ true
    has-some k e has = let within = unit-in k e has in go k e.at e.units within.0 within.1
      where
        go : (k at n : ℕ) → at ≤ k → k < at + n → nat_lt 0 n ≡ true
        go k at n from till = grind (arith, nat_tests)

-- ---- one extent more

pub region-is : region ≡ 16777216
unfolding region
region-is = refl

pub gaps-more : (extents : List Extent) (i from : ℕ) (d : Extent) (gaps : List Extent) → i < length extents → gaps ++ gaps_from from (drop i extents) ≡ gaps_from 0 extents
    → (gaps ++ record { at = from; units = (get_or extents i d).at - from } ∷ []) ++ gaps_from ((get_or extents i d).at + (get_or extents i d).units) (drop (i + 1) extents) ≡ gaps_from 0 extents
gaps-more extents i from d gaps lt is =
    let one : gaps_from from (drop i extents) ≡ record { at = from; units = (get_or extents i d).at - from } ∷ gaps_from ((get_or extents i d).at + (get_or extents i d).units) (drop (i + 1) extents) = at_drop_more (gaps_from from) extents i d lt in
    append_assoc gaps (record { at = from; units = (get_or extents i d).at - from } ∷ []) _ ∙ ap (λ (l : List Extent). gaps ++ l) (sym one) ∙ is

pub order-more : (extents : List Extent) (i from : ℕ) (d : Extent) → i < length extents → AreInOrder from (drop i extents) → AreInOrder from (get_or extents i d ∷ drop (i + 1) extents)
order-more extents i from d lt order = subst (λ (l : List Extent). AreInOrder from l) (at_drop_more (λ (l : List Extent). l) extents i d lt) order

pub gaps-last : (extents : List Extent) (i from : ℕ) (gaps : List Extent) → length extents ≤ i → gaps ++ gaps_from from (drop i extents) ≡ gaps_from 0 extents → gaps ++ record { at = from; units = 16777216 - from } ∷ [] ≡ gaps_from 0 extents
gaps-last extents i from gaps le is =
    let one : gaps_from from (drop i extents) ≡ record { at = from; units = region - from } ∷ [] = at_drop_all (gaps_from from) extents i le in
    ap (λ (n : ℕ). gaps ++ record { at = from; units = n - from } ∷ []) (sym region-is) ∙ ap (λ (l : List Extent). gaps ++ l) (sym one) ∙ is
