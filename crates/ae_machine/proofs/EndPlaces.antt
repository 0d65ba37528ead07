-- The places of the versions of an end of development.
use Rattle.std.proofs.Common.{◌≡◌, inl, inr, ℕ, ◌≤◌, refl, sym, ap, subst, List, [], ◌∷◌, map, Option, Some, None, Bool, true, false, cond, length, arith}
use Rattle.std.specs.Prelude.{IfSome}
use Rattle.std.specs.List.{find}
use Rattle.std.specs.Option.{option_map, option_and_then}
use Rattle.std.specs.Str.{bytes_eq}
use Rattle.std.proofs.lemmas.Option.{same_Some}
use Rattle.ae_base.specs.Rows.{Row, Rows}
use Rattle.ae_outside.specs.declared.dir.Content.{Content}
use Rattle.ae_outside.specs.declared.dir.Content.TheVariants.{Absent, Bytes, TooLong}
use Rattle.ae_types.specs.declared.change.ChangeFile.{ChangeFile}
use Rattle.ae_types.specs.declared.version.VersionRef.{VersionRef}
use Rattle.ae_types.specs.Observation.{Observation}
use Rattle.ae_types.specs.Phases.{is_remove}
use Rattle.ae_types.proofs.Members.{In}
use Rattle.ae_types.proofs.Ordered.{none-some}
use Rattle.ae_types.specs.Frozen.{AreInSpace, Version, present, ref_of}
use Rattle.ae_space.specs.declared.extent.Extent.{Extent}
use Rattle.ae_space.specs.Fit.{fit}
use Rattle.ae_places.specs.Placing.{units_of, extents, places_of, IsShort}
use Rattle.ae_places.proofs.InSpace.{places-in-space}
use Rattle.ae_machine.specs.declared.view.View.{View}
use Rattle.ae_outside.specs.Site.{IsAtMost}
use Rattle.ae_machine.specs.Accepted.{RowsShort}
use Rattle.ae_evidence.specs.Directories.{bytes_of}
use Rattle.ae_machine.specs.Sight.{content_of, read_at, bytes_read}
use Rattle.ae_machine.specs.Space.{placing}
use Rattle.ae_machine.proofs.Lists.{all-members, members-all}

-- ---- as many places as versions

as-many : (taken : List Extent) (made : List (List ℕ)) (places : List ℕ) → places_of taken made ≡ Some places → length places ≡ length made
as-many taken [] places e = ap length (sym (same_Some [] places e))
as-many taken (bytes ∷ more) places e = go (fit taken (units_of bytes)) e (λ at. as-many (record { at = at; units = units_of bytes } ∷ taken) more)
  where
    behind : (at : ℕ) (v : Option (List ℕ)) → option_map (λ places. at ∷ places) v ≡ Some places → ((others : List ℕ) → v ≡ Some others → length others ≡ length more) → length places ≡ length (bytes ∷ more)
    behind at (Some others) e rest = let n = rest others refl in let is = ap length (sym (same_Some (at ∷ others) places e)) in omega (arith, n, is)
    behind at None e rest = none-some places e

    go : (v : Option ℕ) → option_and_then (λ at. option_map (λ places. at ∷ places) (places_of (record { at = at; units = units_of bytes } ∷ taken) more)) v ≡ Some places
        → ((at : ℕ) (others : List ℕ) → places_of (record { at = at; units = units_of bytes } ∷ taken) more ≡ Some others → length others ≡ length more)
        → length places ≡ length (bytes ∷ more)
    go (Some at) e rest = behind at (places_of (record { at = at; units = units_of bytes } ∷ taken) more) e (rest at)
    go None e rest = none-some places e

-- ---- what was read is short

abbrev pub AreShort : Rows → Type 0
AreShort tree = (row : Row) → In tree row → IfSome row.1 (λ (bytes : List ℕ). length bytes ≤ 4194304)

content-short : (rows : List (List ℕ × Content)) (path : List ℕ) → ((row : List ℕ × Content) → In rows row → IsAtMost 4194304 row.1) → IsAtMost 4194304 (content_of (find (λ (row : List ℕ × Content). bytes_eq path row.0) rows))
content-short [] path h = tt
content-short (row ∷ rows) path h = go (bytes_eq path row.0) (content-short rows path (λ r m. h r (inr m)))
  where
    go : (b : Bool) → IsAtMost 4194304 (content_of (find (λ (row : List ℕ × Content). bytes_eq path row.0) rows)) → IsAtMost 4194304 (content_of (cond b (Some row) (find (λ (row : List ℕ × Content). bytes_eq path row.0) rows)))
    go true rest = h row (inl refl)
    go false rest = rest

bytes-short : (content : Content) → IsAtMost 4194304 content → IfSome (bytes_of content) (λ (bytes : List ℕ). length bytes ≤ 4194304)
bytes-short (Bytes bytes) h = h
bytes-short Absent h = tt
bytes-short TooLong h = tt

pub read-short : (view : View) → RowsShort view → (files : List ChangeFile) → AreShort (map (λ (file : ChangeFile). (file.path, bytes_read view file)) files)
read-short view short [] row h = absurd h
read-short view short (file ∷ files) row (inr h) = read-short view short files row h
read-short view short (file ∷ files) row (inl is) = subst (λ (row : Row). IfSome row.1 (λ (bytes : List ℕ). length bytes ≤ 4194304)) is (go (is_remove file.action))
  where
    go : (b : Bool) → IfSome (cond b None (bytes_of (read_at view file.path))) (λ (bytes : List ℕ). length bytes ≤ 4194304)
    go true = tt
    go false = bytes-short (read_at view file.path) (content-short view.develop file.path (all-members (λ (row : List ℕ × Content). IsAtMost 4194304 row.1) view.develop short))

-- ---- the whole

pub made-is : (x : Option Version) (v : VersionRef) → option_map ref_of x ≡ Some v → (w : Version) × (x ≡ Some w) × (ref_of w ≡ v)
made-is (Some w) v e = (w, refl, same_Some (ref_of w) v e)
made-is None v e = none-some v e

pub placed-length : (o : Observation) (tree : Rows) (places : List ℕ) → placing o tree ≡ Some places → length places ≡ length (present tree)
unfolding placing
placed-length o tree places e = as-many (extents o) (present tree) places e

pub placed-in-space : (o : Observation) (tree : Rows) (places : List ℕ) → AreShort tree → placing o tree ≡ Some places → AreInSpace o tree places
unfolding placing
placed-in-space o tree places are_short e = places-in-space o tree places (λ k d l. members-all (λ (row : Row). IsShort row.1) tree are_short k d l) e
