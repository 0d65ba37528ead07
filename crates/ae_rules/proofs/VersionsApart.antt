-- Versions whose numbers differ, and versions that share no unit, in a sorted list.
use Rattle.std.proofs.Common.{◌≡◌, ℕ, ◌+◌, ◌/◌, ◌<◌, ◌≤◌, refl, sym, ◌∙◌, List, Bool, true, false, ◌&&◌, eqb-true, arith}
use Rattle.std.specs.Prelude.{length, nat_lt, nat_le}
use Rattle.std.specs.List.{list_all}
use Rattle.std.specs.List.Sorted.{IsPermutation, IsNonDecreasingBy}
use Rattle.std.proofs.lemmas.Bool.{false≢true, false_from_ne_true, leb-true, le-leb, ltb-true, lt-ltb}
use Rattle.ae_types.specs.declared.version.VersionRef.{VersionRef}
use Rattle.ae_types.specs.Versions.{has_units, end_of, meet, same_number, no_two}
use Rattle.ae_types.proofs.RulesTogether.{same_number-swaps, meet-swaps}
use Rattle.ae_types.proofs.Members.{in-all}
use Rattle.ae_types.proofs.Splits.{and4}
use Rattle.ae_types.proofs.Adjacent.{each_next}
use Rattle.ae_rules.proofs.Sorting.{sorted-tells}

abbrev pub version_number : VersionRef → ℕ
version_number version = version.number

abbrev pub version_unit : VersionRef → ℕ
version_unit version = version.at

abbrev pub numbered_before : VersionRef → VersionRef → Bool
numbered_before one other = nat_lt one.number other.number

abbrev pub ends_before : VersionRef → VersionRef → Bool
ends_before one other = nat_le (end_of one) other.at

abbrev any_version : VersionRef → Bool
any_version version = true

all-any : (xs : List VersionRef) → list_all any_version xs ≡ true
all-any xs = in-all any_version xs (λ x m. refl)

pub numbers-sorted : (xs ys : List VersionRef) → IsPermutation xs ys → IsNonDecreasingBy version_number ys → each_next numbered_before ys ≡ no_two same_number xs
numbers-sorted xs ys p up = sorted-tells same_number same_number-swaps numbered_before any_version version_number
    (λ x y z f e g. lt-ltb x.number z.number (lower x.number y.number z.number (ltb-true x.number y.number e) (ltb-true y.number z.number g)))
    (λ x y e. false_from_ne_true (same_number x y) (λ is. differ x.number y.number (ltb-true x.number y.number e) (eqb-true x.number y.number is)))
    (λ x y f g h e. lt-ltb x.number y.number (strict x.number y.number h (Rattle.std.proofs.lemmas.Bool.eqb-false x.number y.number e)))
    xs ys p up (all-any xs)
  where
    lower : (a b c : ℕ) → a < b → b < c → a < c
    lower a b c h k = omega (arith, h, k)

    differ : (a b : ℕ) → a < b → a ≡ b → ⊥
    differ a b h e = absurd (omega (arith, h, e))

    strict : (a b : ℕ) → a ≤ b → (a ≡ b → ⊥) → a < b
    strict a b h ne = omega (arith, h, ne)

-- what has bytes has a unit
some-units : (v : VersionRef) → has_units v ≡ true → v.at < end_of v
some-units v e = go v.length v.at (ltb-true 0 v.length e)
  where
    go : (n a : ℕ) → 0 < n → a < a + (n + 63) / 64
    go n a h = omega (arith, h)

pub units-sorted : (xs ys : List VersionRef) → IsPermutation xs ys → IsNonDecreasingBy version_unit ys → list_all has_units xs ≡ true → each_next ends_before ys ≡ no_two meet xs
units-sorted xs ys p up f = sorted-tells meet meet-swaps ends_before has_units version_unit
    (λ x y z h e g. le-leb (end_of x) z.at (onward (end_of x) y.at (end_of y) z.at (leb-true (end_of x) y.at e) (some-units y h) (leb-true (end_of y) z.at g)))
    (λ x y e. false_from_ne_true (meet x y) (λ is. let a = and4 (has_units x) (has_units y) (nat_lt x.at (end_of y)) (nat_lt y.at (end_of x)) is in cross (end_of x) y.at (leb-true (end_of x) y.at e) (ltb-true y.at (end_of x) a.3)))
    (λ x y h k le e. le-leb (end_of x) y.at (away x y h k le e))
    xs ys p up f
  where
    onward : (a b c d : ℕ) → a ≤ b → b < c → c ≤ d → a ≤ d
    onward a b c d h k m = omega (arith, h, k, m)

    cross : (a b : ℕ) → a ≤ b → b < a → ⊥
    cross a b h k = absurd (omega (arith, h, k))

    behind : (a b c : ℕ) → a ≤ b → b < c → a < c
    behind a b c h k = omega (arith, h, k)

    away : (x y : VersionRef) → has_units x ≡ true → has_units y ≡ true → x.at ≤ y.at → meet x y ≡ false → end_of x ≤ y.at
    away x y h k le e = go (nat_lt y.at (end_of x)) refl
      where
        go : (b : Bool) → nat_lt y.at (end_of x) ≡ b → end_of x ≤ y.at
        go true is = absurd (false≢true (sym e ∙ (λ i. h i && k i && lt-ltb x.at (end_of y) (behind x.at y.at (end_of y) le (some-units y k)) i && is i)))
        go false is = Rattle.std.proofs.lemmas.Bool.ltb-false y.at (end_of x) is
