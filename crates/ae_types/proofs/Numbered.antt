-- The numbers of the versions of a frozen tree.
use Rattle.std.proofs.Common.{◌≡◌, ℕ, ◌+◌, ◌<◌, ◌≤◌, refl, sym, ◌∙◌, ap, List, [], ◌∷◌, Option, Some, None, Bool, true, false, cond, arith}
use Rattle.std.specs.Prelude.{length}
use Rattle.std.specs.Str.{bytes_eq}
use Rattle.std.proofs.lemmas.Option.{same_Some}
use Rattle.ae_base.specs.Rows.{Rows}
use Rattle.ae_types.proofs.Keys.{by_text}
use Rattle.ae_types.proofs.Ordered.{none-some}
use Rattle.ae_types.specs.Frozen.{Version, FrozenFile, numbered, present, frozen_file, version_of, first_place, other_places}

abbrev pub frozen_at : List ℕ → Option Version → FrozenFile
frozen_at path version = record { path = path; version = version }

abbrev pub new_version : ℕ → List ℕ → List ℕ → Version
new_version n places bytes = record { number = n; at = first_place places; bytes = bytes }

-- the version of a path
abbrev pub version_at : ℕ → Rows → List ℕ → List ℕ → Option Version
version_at n tree places p = version_of (frozen_file (numbered n tree places) p)

-- ---- their numbers

-- the number is one of those that are given
pub record Within (n : ℕ) (tree : Rows) (v : Version) : Type 0 where
  pub low : n ≤ v.number
  pub high : v.number < n + length (present tree)

pub within : (n : ℕ) (tree : Rows) (places : List ℕ) (p : List ℕ) (v : Version) → version_at n tree places p ≡ Some v → Within n tree v
within n [] places p v e = none-some v e
within n ((q, None) ∷ rows) places p v e = go (bytes_eq p q) e (within n rows places p v)
  where
    go : (b : Bool) → version_of (cond b (Some (frozen_at q None)) (frozen_file (numbered n rows places) p)) ≡ Some v → (version_at n rows places p ≡ Some v → Within n rows v) → Within n ((q, None) ∷ rows) v
    go true e rest = none-some v e
    go false e rest = let w = rest e in record { low = w.low; high = w.high }
within n ((q, Some bytes) ∷ rows) places p v e = go (bytes_eq p q) e (within (n + 1) rows (other_places places) p v)
  where
    first : v.number ≡ n → Within n ((q, Some bytes) ∷ rows) v
    first e = record { low = omega (arith, e); high = omega (arith, e) }

    more : n + 1 ≤ v.number → v.number < (n + 1) + length (present rows) → Within n ((q, Some bytes) ∷ rows) v
    more l h = record { low = omega (arith, l); high = omega (arith, h) }

    go : (b : Bool) → version_of (cond b (Some (frozen_at q (Some (new_version n places bytes)))) (frozen_file (numbered (n + 1) rows (other_places places)) p)) ≡ Some v
        → (version_at (n + 1) rows (other_places places) p ≡ Some v → Within (n + 1) rows v) → Within n ((q, Some bytes) ∷ rows) v
    go true e rest = first (ap (λ (w : Version). w.number) (sym (same_Some (new_version n places bytes) v e)))
    go false e rest = let w = rest e in more w.low w.high

-- no number is given twice
pub numbers-apart : (n : ℕ) (tree : Rows) (places : List ℕ) (p q : List ℕ) (v w : Version) → version_at n tree places p ≡ Some v → version_at n tree places q ≡ Some w → v.number ≡ w.number → p ≡ q
numbers-apart n [] places p q v w ev ew e = none-some v ev
numbers-apart n ((r, None) ∷ rows) places p q v w ev ew e = go (bytes_eq p r) ev (bytes_eq q r) ew (numbers-apart n rows places p q v w)
  where
    go : (b : Bool) → version_of (cond b (Some (frozen_at r None)) (frozen_file (numbered n rows places) p)) ≡ Some v → (d : Bool) → version_of (cond d (Some (frozen_at r None)) (frozen_file (numbered n rows places) q)) ≡ Some w
        → (version_at n rows places p ≡ Some v → version_at n rows places q ≡ Some w → v.number ≡ w.number → p ≡ q) → p ≡ q
    go true ev d ew rest = none-some v ev
    go false ev true ew rest = none-some w ew
    go false ev false ew rest = rest ev ew e
numbers-apart n ((r, Some bytes) ∷ rows) places p q v w ev ew e = go (bytes_eq p r) refl ev (bytes_eq q r) refl ew (numbers-apart (n + 1) rows (other_places places) p q v w)
  where
    number_is : (v : Version) → Some (new_version n places bytes) ≡ Some v → v.number ≡ n
    number_is v e = ap (λ (w : Version). w.number) (sym (same_Some (new_version n places bytes) v e))

    go : (b : Bool) → bytes_eq p r ≡ b → version_of (cond b (Some (frozen_at r (Some (new_version n places bytes)))) (frozen_file (numbered (n + 1) rows (other_places places)) p)) ≡ Some v
        → (d : Bool) → bytes_eq q r ≡ d → version_of (cond d (Some (frozen_at r (Some (new_version n places bytes)))) (frozen_file (numbered (n + 1) rows (other_places places)) q)) ≡ Some w
        → (version_at (n + 1) rows (other_places places) p ≡ Some v → version_at (n + 1) rows (other_places places) q ≡ Some w → v.number ≡ w.number → p ≡ q) → p ≡ q
    go true pr ev true qr ew rest = by_text.same_is p r pr ∙ sym (by_text.same_is q r qr)
    go true pr ev false qr ew rest = let k = within (n + 1) rows (other_places places) q w ew in absurd (omega (arith, k.low, number_is v ev, e))
    go false pr ev true qr ew rest = let k = within (n + 1) rows (other_places places) p v ev in absurd (omega (arith, k.low, number_is w ew, e))
    go false pr ev false qr ew rest = rest ev ew e
