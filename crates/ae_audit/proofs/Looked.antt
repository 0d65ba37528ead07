-- Versions that are looked at one after another.
use Rattle.std.proofs.Common.{◌≡◌, inl, inr, ℕ, ◌+◌, ◌<◌, refl, sym, ◌∙◌, ap, subst, List, [], ◌∷◌, ◌++◌, Option, Some, None, Err, length, take, get_or}
use Rattle.std.specs.List.{flat_map, cons_option}
use Rattle.std.proofs.lemmas.List.{take_more, flat_map_more}
use Rattle.std.specs.Option.{option_and_then}
use Rattle.ae_types.specs.declared.file_table.FileRow.{FileRow}
use Rattle.ae_types.specs.declared.file_table.FileVersion.{FileVersion}
use Rattle.ae_types.specs.declared.project.DeltaRow.{DeltaRow}
use Rattle.ae_types.specs.declared.version.VersionRef.{VersionRef}
use Rattle.ae_types.specs.Found.{row_path, entry_in}
use Rattle.ae_types.specs.Observation.{Observation}
use Rattle.ae_types.specs.Sound.{Sound}
use Rattle.ae_types.specs.Versions.{in_table}
use Rattle.ae_types.proofs.BinarySearch.{place-in}
use Rattle.ae_types.proofs.Keys.{by_text}
use Rattle.ae_types.proofs.Members.{In, in-some, some-in, in-flat}
use Rattle.ae_types.proofs.Searched.{in-found}
use Rattle.ae_types.proofs.Places.{filter_map-next}
use Rattle.ae_audit.specs.declared.stop.Stop.{Stop}
use Rattle.ae_audit.specs.declared.stop.Stop.TheVariants.{Lost, DiskFault, Memory}
use Rattle.ae_audit.specs.Intact.{IsIntact, AreIntact, version_by, made_by}
use Rattle.ae_audit.specs.Steps.{IsInside, AreInside, IsLooked}

-- ---- each of them

pub intact-in : (packed : List ℕ) (versions : List VersionRef) → AreIntact packed versions → (version : VersionRef) → In versions version → IsIntact packed version
intact-in packed [] all version there = absurd there
intact-in packed (v ∷ versions) all version (inl is) = subst (IsIntact packed) is all.0
intact-in packed (v ∷ versions) all version (inr there) = intact-in packed versions all.1 version there

pub in-intact : (packed : List ℕ) (versions : List VersionRef) → ((version : VersionRef) → In versions version → IsIntact packed version) → AreIntact packed versions
in-intact packed [] each = tt
in-intact packed (v ∷ versions) each = (each v (inl refl), in-intact packed versions (λ version there. each version (inr there)))

inside-in : (versions : List VersionRef) → AreInside versions → (version : VersionRef) → In versions version → IsInside version
inside-in [] all version there = absurd there
inside-in (v ∷ versions) all version (inl is) = subst IsInside is all.0
inside-in (v ∷ versions) all version (inr there) = inside-in versions all.1 version there

in-inside : (versions : List VersionRef) → ((version : VersionRef) → In versions version → IsInside version) → AreInside versions
in-inside [] each = tt
in-inside (v ∷ versions) each = (each v (inl refl), in-inside versions (λ version there. each version (inr there)))

pub intact-append : (packed : List ℕ) (xs ys : List VersionRef) → AreIntact packed xs → AreIntact packed ys → AreIntact packed (xs ++ ys)
intact-append packed [] ys xs_are ys_are = ys_are
intact-append packed (x ∷ xs) ys xs_are ys_are = (xs_are.0, intact-append packed xs ys xs_are.1 ys_are)

-- what is given is one of one
one-given : (v : Option VersionRef) (version : VersionRef) → In (cons_option v []) version → v ≡ Some version
one-given (Some x) version (inl is) = ap (λ (y : VersionRef). Some y) is
one-given (Some x) version (inr none) = absurd none
one-given None version none = absurd none

-- ---- the row at a place

module _ (delta : ℕ) (rows : List FileRow) (i : ℕ) (row : FileRow) (low : i < length rows) (is : row ≡ get_or rows i row) where
  row-there : In rows row
  row-there = subst (In rows) (sym is) (place-in rows i row low)

  made-there : (version : VersionRef) → In (cons_option (version_by delta row) []) version → In (made_by delta rows) version
  made-there version there = in-some (version_by delta) rows row version row-there (one-given (version_by delta row) version there)

  pub row-inside : AreInside (made_by delta rows) → AreInside (cons_option (version_by delta row) [])
  row-inside all = in-inside _ (λ version there. inside-in _ all version (made-there version there))

  pub row-intact : (packed : List ℕ) → AreIntact packed (made_by delta rows) → AreIntact packed (cons_option (version_by delta row) [])
  row-intact packed all = in-intact packed _ (λ version there. intact-in packed _ all version (made-there version there))

  pub more-intact : (packed : List ℕ) → AreIntact packed (made_by delta (take i rows)) → AreIntact packed (cons_option (version_by delta row) []) → AreIntact packed (made_by delta (take (i + 1) rows))
  more-intact packed before here = subst (AreIntact packed) (sym (filter_map-next (version_by delta) rows i row low is)) (intact-append packed _ _ before here)

-- ---- the delta at a place

abbrev pub made_of : List FileRow → DeltaRow → List VersionRef
made_of rows delta = made_by delta.delta rows

module _ (rows : List FileRow) (deltas : List DeltaRow) (i : ℕ) (made : DeltaRow) (low : i < length deltas) (is : made ≡ get_or deltas i made) (packed : List ℕ) where
  pub delta-intact : AreIntact packed (flat_map (made_of rows) deltas) → AreIntact packed (made_by made.delta rows)
  delta-intact all =
      in-intact packed _ (λ version there. intact-in packed _ all version (in-flat (made_of rows) deltas made version (subst (In deltas) (sym is) (place-in deltas i made low)) there))

  pub more-deltas : AreIntact packed (flat_map (made_of rows) (take i deltas)) → AreIntact packed (made_by made.delta rows) → AreIntact packed (flat_map (made_of rows) (take (i + 1) deltas))
  more-deltas before here =
      subst (AreIntact packed) (flat_map_more (made_of rows) [] (take i deltas) made ∙ ap (flat_map (made_of rows)) (ap (λ (x : DeltaRow). take i deltas ++ x ∷ []) is ∙ sym (take_more deltas i made low)))
      (intact-append packed _ _ before here)

-- the versions of a delta end in the region
pub delta-inside : (o : Observation) → Sound o → (delta : ℕ) → AreInside (made_by delta o.files)
delta-inside o s delta = in-inside _ (λ version there.
    let row = some-in (version_by delta) o.files version there in
    s.versions.inside (in_table row.0.path delta) version
    (ap (option_and_then (λ (r : FileRow). option_and_then (λ (entry : FileVersion). entry.version) (entry_in r.past delta))) (in-found by_text row_path o.files s.rows.ascend row.0 row.1) ∙ row.2))

-- ---- a stop

-- where some of them stop it, all of them do
pub look_stops : (packed : List ℕ) (all some : List VersionRef) (stop : Stop) → (AreIntact packed all → AreIntact packed some) → IsLooked packed some (Err stop) → IsLooked packed all (Err stop)
look_stops packed all some Lost among is = λ intact. is (among intact)
look_stops packed all some DiskFault among is = tt
look_stops packed all some Memory among is = tt
look_stops packed all some _ among is = absurd is
