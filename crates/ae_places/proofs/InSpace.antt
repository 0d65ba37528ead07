-- Places that are found one after another lie outside all versions that stand, and outside one another.
use Rattle.std.proofs.Common.{◌≡◌, inl, inr, ℕ, ◌+◌, ◌/◌, ◌<◌, ◌≤◌, Bool, true, false, cond, ◌&&◌, ◌||◌, List, [], ◌∷◌, length, Option, Some, None, refl, sym, ◌∙◌, ap, subst, arith}
use Rattle.std.specs.Prelude.{nat_le, nat_lt, nat_eq, filter, All}
use Rattle.std.specs.List.{list_all}
use Rattle.std.specs.Option.{option_map, option_and_then}
use Rattle.std.specs.Str.{bytes_eq}
use Rattle.std.proofs.lemmas.Bool.Decides.{nat_tests}
use Rattle.std.proofs.lemmas.List.Elements.{All-head, All-tail}
use Rattle.std.proofs.lemmas.Bool.{and_parts}
use Rattle.std.proofs.lemmas.Option.{same_Some}
use Rattle.ae_base.specs.Rows.{Row, Rows}
use Rattle.ae_types.specs.declared.version.VersionRef.{VersionRef}
use Rattle.ae_types.specs.Observation.{Observation}
use Rattle.ae_types.specs.Versions.{Place, version_at, live, has_units, end_of, meet}
use Rattle.ae_types.proofs.Keys.{by_text}
use Rattle.ae_types.proofs.Members.{In, in-map, all-in}
use Rattle.ae_types.proofs.Ordered.{none-some}
use Rattle.ae_types.proofs.Placed.{stands, stand_version, stands-live, found-stands}
use Rattle.ae_types.specs.Frozen.{made_version, Version, numbered, present, frozen_file, version_of, ref_of, other_places}
use Rattle.ae_types.proofs.Numbered.{new_version, frozen_at}
use Rattle.ae_types.proofs.Numbered as made
use Rattle.ae_space.specs.declared.extent.Extent.{Extent}
use Rattle.ae_space.specs.Fit.{region, is_outside, is_free, fit}
use Rattle.ae_space.proofs.Between.{region-is}
use Rattle.ae_space.proofs.Fitting.{finds-lowest}
use Rattle.ae_space.proofs.Tests.{free-units}
use Rattle.ae_places.specs.Placing.{units_of, extent_of, extents, places_of, IsShort}
use Rattle.ae_places.specs.Laws.{PlacesAreInSpace}

-- ---- the first place, and those after it

record Split (taken : List Extent) (bytes : List ℕ) (more : List (List ℕ)) (places : List ℕ) : Type 0 where
  at : ℕ
  rest : List ℕ
  are : places ≡ at ∷ rest
  fits : fit taken (units_of bytes) ≡ Some at
  behind : places_of (record { at = at; units = units_of bytes } ∷ taken) more ≡ Some rest

split : (taken : List Extent) (bytes : List ℕ) (more : List (List ℕ)) (places : List ℕ) → places_of taken (bytes ∷ more) ≡ Some places → Split taken bytes more places
split taken bytes more places e = go (fit taken (units_of bytes)) refl e
  where
    inner : (at : ℕ) → fit taken (units_of bytes) ≡ Some at → (found : Option (List ℕ)) → places_of (record { at = at; units = units_of bytes } ∷ taken) more ≡ found → option_map (λ places. at ∷ places) found ≡ Some places → Split taken bytes more places
    inner at fits (Some rest) is e = record { at = at; rest = rest; are = sym (same_Some (at ∷ rest) places e); fits = fits; behind = is }
    inner at fits None is e = none-some places e

    go : (found : Option ℕ) → fit taken (units_of bytes) ≡ found → option_and_then (λ at. option_map (λ places. at ∷ places) (places_of (record { at = at; units = units_of bytes } ∷ taken) more)) found ≡ Some places → Split taken bytes more places
    go (Some at) fits e = inner at fits (places_of (record { at = at; units = units_of bytes } ∷ taken) more) refl e
    go None fits e = none-some places e

-- what is free with one more extent taken is free
fewer-taken : (e : Extent) (taken : List Extent) (count at : ℕ) → is_free (e ∷ taken) count at ≡ true → (is_free taken count at ≡ true) × (is_outside at count e ≡ true)
fewer-taken e taken count at free =
    let parts = and_parts (nat_le (at + count) region) (is_outside at count e && list_all (is_outside at count) taken) free in
    let two = and_parts (is_outside at count e) (list_all (is_outside at count) taken) parts.1 in
    ((λ i. parts.0 i && two.1 i), two.0)

-- ---- each version is free

some-units : (bytes : List ℕ) → 0 < length bytes → 0 < units_of bytes
some-units bytes some = go (length bytes) some
  where
    go : (n : ℕ) → 0 < n → 0 < (n + 63) / 64
    go n some = omega (arith, some)

-- the units of a version are free of these
abbrev IsFree : List Extent → Version → Type 0
IsFree taken w = 0 < length w.bytes → is_free taken (units_of w.bytes) w.at ≡ true

each-free : (taken : List Extent) (n : ℕ) (tree : Rows) (places : List ℕ) → places_of taken (present tree) ≡ Some places → (p : List ℕ) (w : Version) → made.version_at n tree places p ≡ Some w → IsFree taken w
each-free taken n [] places e p w at_p = none-some w at_p
each-free taken n ((q, None) ∷ rows) places e p w at_p = go (bytes_eq p q) at_p (each-free taken n rows places e p w)
  where
    go : (b : Bool) → version_of (cond b (Some (frozen_at q None)) (frozen_file (numbered n rows places) p)) ≡ Some w → (made.version_at n rows places p ≡ Some w → IsFree taken w) → IsFree taken w
    go true f rest = none-some w f
    go false f rest = rest f
each-free taken n ((q, Some bytes) ∷ rows) places e p w at_p =
    let s = split taken bytes (present rows) places e in
    go s (bytes_eq p q) (subst (λ (l : List ℕ). version_of (cond (bytes_eq p q) (Some (frozen_at q (Some (new_version n l bytes)))) (frozen_file (numbered (n + 1) rows (other_places l)) p)) ≡ Some w) s.are at_p)
    (each-free (record { at = s.at; units = units_of bytes } ∷ taken) (n + 1) rows s.rest s.behind p w)
  where
    go : (s : Split taken bytes (present rows) places) (b : Bool) → version_of (cond b (Some (frozen_at q (Some (new_version n (s.at ∷ s.rest) bytes)))) (frozen_file (numbered (n + 1) rows s.rest) p)) ≡ Some w
        → (made.version_at (n + 1) rows s.rest p ≡ Some w → IsFree (record { at = s.at; units = units_of bytes } ∷ taken) w) → IsFree taken w
    go s true f rest = subst (IsFree taken) (same_Some (new_version n (s.at ∷ s.rest) bytes) w f) (λ some. (finds-lowest taken (units_of bytes) s.at (some-units bytes some) s.fits).free)
    go s false f rest = λ some. (fewer-taken (record { at = s.at; units = units_of bytes }) taken (units_of w.bytes) w.at (rest f some)).0

-- ---- and no two meet

-- units outside an extent are those of no version there
outside-meets : (wa wl va vl : ℕ) → (nat_eq ((vl + 63) / 64) 0 || (nat_le (wa + (wl + 63) / 64) va || nat_le (va + (vl + 63) / 64) wa)) ≡ true
    → (nat_lt 0 wl && nat_lt 0 vl && nat_lt wa (va + (vl + 63) / 64) && nat_lt va (wa + (wl + 63) / 64)) ≡ true → ⊥
outside-meets wa wl va vl outside m = grind (arith, nat_tests)

not-meet : (w : Version) (v : VersionRef) → is_outside w.at (units_of w.bytes) (extent_of v) ≡ true → meet (ref_of w) v ≡ true → ⊥
not-meet w v outside m = outside-meets w.at (length w.bytes) v.at v.length outside m

meets-some : (w : Version) (v : VersionRef) → meet (ref_of w) v ≡ true → (0 < length w.bytes) × (has_units v ≡ true)
meets-some w v m = (one (length w.bytes) (and_parts (nat_lt 0 (length w.bytes)) (has_units v) first).0, (and_parts (nat_lt 0 (length w.bytes)) (has_units v) first).1)
  where
    first : (nat_lt 0 (length w.bytes) && has_units v) ≡ true
    first = (and_parts (nat_lt 0 (length w.bytes) && has_units v) (nat_lt w.at (end_of v)) (and_parts (nat_lt 0 (length w.bytes) && has_units v && nat_lt w.at (end_of v)) (nat_lt v.at (end_of (ref_of w))) m).0).0

    one : (n : ℕ) → nat_lt 0 n ≡ true → 0 < n
    one n e = grind (arith, nat_tests)

swapped : (one two : Version) → meet (ref_of one) (ref_of two) ≡ true → meet (ref_of two) (ref_of one) ≡ true
swapped one two m = Rattle.ae_types.proofs.RulesTogether.meet-swaps (ref_of two) (ref_of one) ∙ m

no-two-meet : (taken : List Extent) (n : ℕ) (tree : Rows) (places : List ℕ) → places_of taken (present tree) ≡ Some places → (p r : List ℕ) (v w : Version) → made.version_at n tree places p ≡ Some v → made.version_at n tree places r ≡ Some w
    → meet (ref_of v) (ref_of w) ≡ true → p ≡ r
no-two-meet taken n [] places e p r v w at_p at_r m = none-some v at_p
no-two-meet taken n ((q, None) ∷ rows) places e p r v w at_p at_r m = go (bytes_eq p q) at_p (bytes_eq r q) at_r (no-two-meet taken n rows places e p r v w)
  where
    go : (b : Bool) → version_of (cond b (Some (frozen_at q None)) (frozen_file (numbered n rows places) p)) ≡ Some v → (d : Bool) → version_of (cond d (Some (frozen_at q None)) (frozen_file (numbered n rows places) r)) ≡ Some w
        → (made.version_at n rows places p ≡ Some v → made.version_at n rows places r ≡ Some w → meet (ref_of v) (ref_of w) ≡ true → p ≡ r) → p ≡ r
    go true f d g rest = none-some v f
    go false f true g rest = none-some w g
    go false f false g rest = rest f g m
no-two-meet taken n ((q, Some bytes) ∷ rows) places e p r v w at_p at_r m =
    let s = split taken bytes (present rows) places e in
    go s (bytes_eq p q) refl (subst (λ (l : List ℕ). version_of (cond (bytes_eq p q) (Some (frozen_at q (Some (new_version n l bytes)))) (frozen_file (numbered (n + 1) rows (other_places l)) p)) ≡ Some v) s.are at_p)
    (bytes_eq r q) refl (subst (λ (l : List ℕ). version_of (cond (bytes_eq r q) (Some (frozen_at q (Some (new_version n l bytes)))) (frozen_file (numbered (n + 1) rows (other_places l)) r)) ≡ Some w) s.are at_r)
    (no-two-meet (record { at = s.at; units = units_of bytes } ∷ taken) (n + 1) rows s.rest s.behind p r v w)
  where
    -- the first version, and one after it
    first-behind : (s : Split taken bytes (present rows) places) (path : List ℕ) (other : Version) → made.version_at (n + 1) rows s.rest path ≡ Some other → meet (ref_of (new_version n (s.at ∷ s.rest) bytes)) (ref_of other) ≡ true → ⊥
    first-behind s path other at_path m =
        let one = new_version n (s.at ∷ s.rest) bytes in
        let back = swapped one other m in
        let some = (meets-some other (ref_of one) back).0 in
        let free = each-free (record { at = s.at; units = units_of bytes } ∷ taken) (n + 1) rows s.rest s.behind path other at_path some in
        not-meet other (ref_of one) (fewer-taken (record { at = s.at; units = units_of bytes }) taken (units_of other.bytes) other.at free).1 back

    go : (s : Split taken bytes (present rows) places) (b : Bool) → bytes_eq p q ≡ b → version_of (cond b (Some (frozen_at q (Some (new_version n (s.at ∷ s.rest) bytes)))) (frozen_file (numbered (n + 1) rows s.rest) p)) ≡ Some v
        → (d : Bool) → bytes_eq r q ≡ d → version_of (cond d (Some (frozen_at q (Some (new_version n (s.at ∷ s.rest) bytes)))) (frozen_file (numbered (n + 1) rows s.rest) r)) ≡ Some w
        → (made.version_at (n + 1) rows s.rest p ≡ Some v → made.version_at (n + 1) rows s.rest r ≡ Some w → meet (ref_of v) (ref_of w) ≡ true → p ≡ r) → p ≡ r
    go s true is_p f true is_r g rest = by_text.same_is p q is_p ∙ sym (by_text.same_is r q is_r)
    go s true is_p f false is_r g rest = absurd (first-behind s r w g (subst (λ (one : Version). meet (ref_of one) (ref_of w) ≡ true) (sym (same_Some (new_version n (s.at ∷ s.rest) bytes) v f)) m))
    go s false is_p f true is_r g rest = absurd (first-behind s p v f (subst (λ (one : Version). meet (ref_of one) (ref_of v) ≡ true) (sym (same_Some (new_version n (s.at ∷ s.rest) bytes) w g)) (swapped v w m)))
    go s false is_p f false is_r g rest = rest f g m

-- ---- the versions that stand

in-filter : (t : VersionRef → Bool) (xs : List VersionRef) (x : VersionRef) → In xs x → t x ≡ true → In (filter t xs) x
in-filter t [] x h e = absurd h
in-filter t (y ∷ ys) x (inl is) e = subst (λ b. In (cond b (y ∷ filter t ys) (filter t ys)) x) (sym (ap t is ∙ e)) (inl is)
in-filter t (y ∷ ys) x (inr h) e = go (t y) (in-filter t ys x h e)
  where
    go : (b : Bool) → In (filter t ys) x → In (cond b (y ∷ filter t ys) (filter t ys)) x
    go true m = inr m
    go false m = m

stood-outside : (o : Observation) (place : Place) (v : VersionRef) (at count : ℕ) → version_at o.files o.changes place ≡ Some v → has_units v ≡ true → is_free (extents o) count at ≡ true → is_outside at count (extent_of v) ≡ true
stood-outside o place v at count there some free =
    let in_live : In (live o.files o.changes) v = subst (λ vs. In vs v) (stands-live o.files o.changes) (in-map stand_version (stands o.files o.changes) (place, v) (found-stands o.files o.changes place v there)) in
    all-in (is_outside at count) (extents o) (and_parts (nat_le (at + count) region) (list_all (is_outside at count) (extents o)) free).1 (extent_of v) (in-map extent_of (filter has_units (live o.files o.changes)) v (in-filter has_units (live o.files o.changes) v in_live some))

-- ---- the whole

each-short : (n : ℕ) (tree : Rows) (places : List ℕ) → All (λ (row : Row). IsShort row.1) tree → (p : List ℕ) (w : Version) → made.version_at n tree places p ≡ Some w → length w.bytes ≤ 4194304
each-short n [] places short p w e = none-some w e
each-short n ((q, None) ∷ rows) places short p w e = go (bytes_eq p q) e (each-short n rows places (All-tail (λ (row : Row). IsShort row.1) (q, None) rows short) p w)
  where
    go : (b : Bool) → version_of (cond b (Some (frozen_at q None)) (frozen_file (numbered n rows places) p)) ≡ Some w → (made.version_at n rows places p ≡ Some w → length w.bytes ≤ 4194304) → length w.bytes ≤ 4194304
    go true f rest = none-some w f
    go false f rest = rest f
each-short n ((q, Some bytes) ∷ rows) places short p w e = go (bytes_eq p q) e (each-short (n + 1) rows (other_places places) (All-tail (λ (row : Row). IsShort row.1) (q, Some bytes) rows short) p w)
  where
    go : (b : Bool) → version_of (cond b (Some (frozen_at q (Some (new_version n places bytes)))) (frozen_file (numbered (n + 1) rows (other_places places)) p)) ≡ Some w
        → (made.version_at (n + 1) rows (other_places places) p ≡ Some w → length w.bytes ≤ 4194304) → length w.bytes ≤ 4194304
    go true f rest = subst (λ (one : Version). length one.bytes ≤ 4194304) (same_Some (new_version n places bytes) w f) (All-head (λ (row : Row). IsShort row.1) (q, Some bytes) rows short)
    go false f rest = rest f

-- what is kept of a version that is made
of-made : {P : Type 0} (n : ℕ) (tree : Rows) (places : List ℕ) (p : List ℕ) (v : VersionRef) → made_version n tree places p ≡ Some v → ((w : Version) → made.version_at n tree places p ≡ Some w → ref_of w ≡ v → P) → P
of-made {P} n tree places p v e this = go (made.version_at n tree places p) refl e
  where
    go : (w : Option Version) → made.version_at n tree places p ≡ w → option_map ref_of w ≡ Some v → P
    go (Some w) at_p e = this w at_p (same_Some (ref_of w) v e)
    go None at_p e = none-some v e

pub places-in-space : PlacesAreInSpace
places-in-space o tree places short e = record {
  short = λ p v is. of-made next tree places p v is (λ w at_p same. subst (λ (v : VersionRef). v.length ≤ 4194304) same (each-short next tree places short p w at_p));
  inside = λ p v is some. of-made next tree places p v is (λ w at_p same. subst (λ (v : VersionRef). end_of v ≤ 16777216) same
      (let few : 0 < length w.bytes = one (length w.bytes) (ap has_units same ∙ some) in let end = (free-units (extents o) (units_of w.bytes) w.at (each-free (extents o) next tree places e p w at_p few)).0 in omega (arith, end, region-is)));
  apart = λ p r v w is_v is_w m. of-made next tree places p v is_v (λ one at_p same_v. of-made next tree places r w is_w (λ two at_r same_w.
      no-two-meet (extents o) next tree places e p r one two at_p at_r (ap (λ (x : VersionRef). meet x (ref_of two)) same_v ∙ ap (meet v) same_w ∙ m)));
  free = λ p place v w is there m. of-made next tree places p v is (λ one at_p same.
      let meets : meet (ref_of one) w ≡ true = ap (λ (x : VersionRef). meet x w) same ∙ m in
      let some = meets-some one w meets in
      not-meet one w (stood-outside o place w one.at (units_of one.bytes) there some.1 (each-free (extents o) next tree places e p one at_p some.0)) meets);
}
  where
    next : ℕ
    next = o.project.next_version

    one : (n : ℕ) → nat_lt 0 n ≡ true → 0 < n
    one n e = grind (arith, nat_tests)
