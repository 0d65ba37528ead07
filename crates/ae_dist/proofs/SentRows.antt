-- The rows of a change that can be sent.
use Rattle.std.specs.Prelude.{◌≡◌, ℕ, ◌≤◌, true, List, [], ◌∷◌, map, Option, Some, None, IfSome, length, nat_le}
use Rattle.std.specs.List.{AllByRecursion, list_all}
use Rattle.std.specs.Option.{option_and_then}
use Rattle.std.proofs.Common.{refl, sym, subst, ◌∙◌}
use Rattle.std.proofs.lemmas.Bool.{and_parts, leb-true}
use Rattle.ae_base.specs.Limits.{most_attribute_bytes, most_change_files, most_frozen_bytes}
use Rattle.ae_base.specs.Rows.{text_cmp}
use Rattle.ae_types.specs.declared.change.Change.{Change}
use Rattle.ae_types.specs.declared.change.ChangeFile.{ChangeFile}
use Rattle.ae_types.specs.declared.file_table.FileRow.{FileRow}
use Rattle.ae_types.specs.declared.file_table.FileVersion.{FileVersion}
use Rattle.ae_types.specs.declared.version.VersionRef.{VersionRef}
use Rattle.ae_types.specs.Found.{change_at, entry_in, file_path, row_in}
use Rattle.ae_types.specs.Observation.{Observation}
use Rattle.ae_types.specs.Ordered.{Above, Ascends}
use Rattle.ae_types.specs.Sound.{Sound}
use Rattle.ae_types.specs.Trees.{past_in}
use Rattle.ae_types.specs.Versions.{in_table}
use Rattle.ae_dist.specs.declared.rows.Row.{Row}
use Rattle.ae_dist.specs.declared.sending.Head.{Head}
use Rattle.ae_dist.specs.Sending.{can_be_sent, delta_made, path_of_row, row_fits, sent_row, sent_rows, sizes_of, version_at}
use Rattle.ae_exec.specs.Reading.{IsInside}
use Rattle.ae_dist.specs.Steps.{AreGood, IsHead}

-- ---- their paths ascend

module _ (o : Observation) (delta : ℕ) where
  above : (path : List ℕ) (files : List ChangeFile) → Above text_cmp file_path path files → Above text_cmp path_of_row path (map (sent_row o delta) files)
  above path [] up = tt
  above path (file ∷ files) up = (up.0, above path files up.1)

  ascend : (files : List ChangeFile) → Ascends text_cmp file_path files → Ascends text_cmp path_of_row (map (sent_row o delta) files)
  ascend [] up = tt
  ascend (file ∷ files) up = (above file.path files up.0, ascend files up.1)

-- ---- their versions end in the region

in_row : (delta : ℕ) (row : Option FileRow) → option_and_then (λ (e : FileVersion). e.version) (entry_in (past_in row) delta) ≡ option_and_then (λ (r : FileRow). option_and_then (λ (e : FileVersion). e.version) (entry_in r.past delta)) row
in_row delta (Some row) = refl
in_row delta None = refl

module _ (o : Observation) (sound : Sound o) (delta : ℕ) where
  one_inside : (path : List ℕ) → IfSome (version_at o delta path) IsInside
  one_inside path = go (version_at o delta path) refl
    where
      go : (v : Option VersionRef) → version_at o delta path ≡ v → IfSome v IsInside
      go (Some version) is = sound.versions.inside (in_table path delta) version (sym (in_row delta (row_in o.files path)) ∙ is)
      go None is = tt

  inside : (files : List ChangeFile) → AllByRecursion (λ (row : Row). IfSome row.version IsInside) (map (sent_row o delta) files)
  inside [] = tt
  inside (file ∷ files) = (one_inside file.path, inside files)

-- ---- so they are good

pub good_rows : (o : Observation) (number : ℕ) (change : Change) (head : Head) (rows : List Row) → Sound o → change_at o number ≡ Some change → IsHead change head → rows ≡ sent_rows o change → can_be_sent change rows ≡ true → AreGood head rows
good_rows o number change head rows sound there is made can =
    let a5 = and_parts _ (nat_le (sizes_of rows) most_frozen_bytes) can in
    let a4 = and_parts _ (list_all row_fits rows) a5.0 in
    let a3 = and_parts _ (nat_le (length rows) most_change_files) a4.0 in
    let a2 = and_parts _ (nat_le 1 (length rows)) a3.0 in
    let a1 = and_parts (nat_le (length change.attributes.brief) most_attribute_bytes) (nat_le (length change.attributes.description) most_attribute_bytes) a2.0 in
    record {
      brief = subst (λ (text : List ℕ). length text ≤ most_attribute_bytes) (sym is.brief) (leb-true (length change.attributes.brief) most_attribute_bytes a1.0);
      description = subst (λ (text : List ℕ). length text ≤ most_attribute_bytes) (sym is.description) (leb-true (length change.attributes.description) most_attribute_bytes a1.1);
      some = leb-true 1 (length rows) a2.1;
      few = leb-true (length rows) most_change_files a3.1;
      ascend = subst (λ (r : List Row). Ascends text_cmp path_of_row r) (sym made) (ascend o (delta_made o change) change.files (sound.changes.good number change there).files.ascend);
      fit = a4.1;
      bytes = leb-true (sizes_of rows) most_frozen_bytes a5.1;
      inside = subst (λ (r : List Row). AllByRecursion (λ (row : Row). IfSome row.version IsInside) r) (sym made) (inside o sound (delta_made o change) change.files);
    }
