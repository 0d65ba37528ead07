-- What a branch brings: its rows, what holds of them, and the bytes of their files.
use Rattle.std.specs.Prelude.{◌≡◌, ◌+◌, ◌<◌, ◌≤◌, ◌==◌, ℕ, Bool, true, false, if◌then◌else◌, List, [], ◌∷◌, ◌++◌, map, filter, take, length, nat_le, Option, Some, None, IfSome}
use Rattle.std.specs.List.{AllByRecursion}
use Rattle.std.specs.Option.{option_map}
use Rattle.std.proofs.Common.{suc, refl, sym, ap, subst, ◌∙◌, arith, append-nil}
use Rattle.std.proofs.Math.ListN.{get_or}
use Rattle.std.proofs.lemmas.Bool.{leb-true}
use Rattle.std.proofs.lemmas.List.{map-append, take_more}
use Rattle.std.proofs.lemmas.List.Elements.{filter-append}
use Rattle.ae_base.specs.Limits.{most_change_files}
use Rattle.ae_base.specs.declared.refusal.Refusal.{Refusal}
use Rattle.ae_base.specs.declared.refusal.Refusal.TheVariants.{Limit, NoFiles}
use Rattle.ae_base.specs.declared.words.Which.TheVariants.{ChangeFiles}
use Rattle.ae_outside.specs.Image.{Image}
use Rattle.ae_types.specs.declared.file_table.FileRow.{FileRow}
use Rattle.ae_types.specs.Observation.{Observation}
use Rattle.ae_types.specs.Sound.{Sound}
use Rattle.ae_types.specs.Trees.{TreeRow, baseline_of, last_delta, tree_path, tree_row}
use Rattle.ae_types.proofs.Keys.{by_text}
use Rattle.ae_types.proofs.Members.{some-in}
use Rattle.ae_types.proofs.Searched.{found-in}
use Rattle.ae_files.specs.InTree.{row_at}
use Rattle.ae_exec.specs.Bytes.{bytes_at, row_of_path, row_version}
use Rattle.ae_exec.specs.Reading.{IsInside}
use Rattle.ae_exec.proofs.Baseline.{row-inside}
use Rattle.ae_dist.specs.declared.rows.Row.{Row}
use Rattle.ae_dist.specs.Sending.{or_refuses, sent_file}
use Rattle.ae_branch.specs.Carried.{brings, brings_file, brought, carried, carried_row, carried_rows, changed_rows, is_changed, last_usage}
use Rattle.ae_branch.specs.Carrying.{AreReadable}
use Rattle.ae_branch.specs.Finish.{refuses_carrying, refuses_count, refuses_open}

-- ---- the rows, one after another

pub rows_more : (o : Observation) (rows : List FileRow) (i : ℕ) (row : FileRow) (old new : List Row) → i < length rows → row ≡ get_or rows i row → old ≡ map (carried_row o) (filter is_changed (take i rows))
    → new ≡ old ++ map (carried_row o) (filter is_changed (row ∷ [])) → new ≡ map (carried_row o) (filter is_changed (take (i + 1) rows))
rows_more o rows i row old new below is was made =
    let more : take (i + 1) rows ≡ take i rows ++ row ∷ [] = take_more rows i row below ∙ ap (λ (r : FileRow). take i rows ++ r ∷ []) (sym is) in
    made ∙ ap (λ (first : List Row). first ++ map (carried_row o) (filter is_changed (row ∷ []))) was
    ∙ sym (map-append (carried_row o) (filter is_changed (take i rows)) (filter is_changed (row ∷ [])))
    ∙ sym (ap (map (carried_row o)) (filter-append is_changed (take i rows) (row ∷ [])))
    ∙ sym (ap (λ (r : List FileRow). map (carried_row o) (filter is_changed r)) more)

pub row_changed : (o : Observation) (row : FileRow) (made : Row) (old new : List Row) → is_changed row ≡ true → made ≡ carried_row o row → new ≡ old ++ made ∷ [] → new ≡ old ++ map (carried_row o) (filter is_changed (row ∷ []))
row_changed o row made old new is same pushed =
    pushed ∙ ap (λ (r : Row). old ++ r ∷ []) same ∙ sym (ap (λ (b : Bool). old ++ map (carried_row o) (if b then row ∷ [] else [])) is)

pub row_unchanged : (o : Observation) (row : FileRow) (old : List Row) → is_changed row ≡ false → old ≡ old ++ map (carried_row o) (filter is_changed (row ∷ []))
row_unchanged o row old is = sym (append-nil old) ∙ sym (ap (λ (b : Bool). old ++ map (carried_row o) (if b then row ∷ [] else [])) is)

-- ---- they can be read

no_more : (count : ℕ) → refuses_count count ≡ None → count ≤ most_change_files
no_more count is = go (count == 0) (nat_le count most_change_files) refl is
  where
    go : (none few : Bool) → nat_le count most_change_files ≡ few → (if none then Some NoFiles else if few then None else Some (Limit ChangeFiles most_change_files)) ≡ None → count ≤ most_change_files
    go true few fits free = absurd (let both : Some NoFiles ≡ None = free in cc)
    go false true fits free = leb-true count most_change_files fits
    go false false fits free = absurd (let both : Some (Limit ChangeFiles most_change_files) ≡ None = free in cc)

last_reason : (first next : Option Refusal) → or_refuses first next ≡ None → next ≡ None
last_reason (Some refusal) next is = absurd (let both : Some refusal ≡ None = is in cc)
last_reason None next is = is

module _ (o : Observation) (sound : Sound o) where
  file_inside : (path : List ℕ) (file : TreeRow) → row_at (baseline_of o) path ≡ Some file → IsInside file.version
  file_inside path file is =
      let row = some-in (tree_row (last_delta o)) o.files file (found-in by_text tree_path (baseline_of o) path file is) in
      row-inside o sound (last_delta o) row.0 row.1 file row.2

  row_inside : (row : FileRow) → IfSome (carried_row o row).version IsInside
  row_inside row = go (row_at (baseline_of o) row.path) refl
    where
      go : (file : Option TreeRow) → row_at (baseline_of o) row.path ≡ file → IfSome (brought row.path (last_usage o row) file).version IsInside
      go (Some file) is = file_inside row.path file is
      go None is = tt

  all_inside : (rows : List FileRow) → AllByRecursion (λ (row : Row). IfSome row.version IsInside) (map (carried_row o) rows)
  all_inside [] = tt
  all_inside (row ∷ rows) = (row_inside row, all_inside rows)

same_length : {A B : Type 0} (f : A → B) (xs : List A) → length (map f xs) ≡ length xs
same_length f [] = refl
same_length f (x ∷ xs) = ap (λ (n : ℕ). suc n) (same_length f xs)

pub readable : (o : Observation) (rows : List Row) → Sound o → refuses_carrying o ≡ None → rows ≡ carried_rows o → AreReadable rows
readable o rows sound free are = subst AreReadable (sym are) (record {
  few = let many : length (carried_rows o) ≡ length (changed_rows o) = same_length (carried_row o) (changed_rows o) in
      omega (arith, many, no_more (length (changed_rows o)) (last_reason (refuses_open o) (refuses_count (length (changed_rows o))) free));
  inside = all_inside o sound (changed_rows o);
})

-- ---- the files of the rows bring what is carried

module _ (files : Option Image) (o : Observation) where
  file_brings : (row : FileRow) → brings_file (sent_file files (carried_row o row)) ≡ row_of_path files (baseline_of o) row.path
  file_brings row = go (row_at (baseline_of o) row.path)
    where
      go : (file : Option TreeRow) → brings_file (sent_file files (brought row.path (last_usage o row) file)) ≡ (row.path, option_map (bytes_at files) (option_map row_version file))
      go (Some file) = refl
      go None = refl

  all_bring : (rows : List FileRow) → brings (map (sent_file files) (map (carried_row o) rows)) ≡ map (row_of_path files (baseline_of o)) (map (λ (row : FileRow). row.path) rows)
  all_bring [] = refl
  all_bring (row ∷ rows) = λ i. file_brings row i ∷ all_bring rows i

  -- the files that are read for the rows of a branch bring just that
  pub bring_carried : brings (map (sent_file files) (carried_rows o)) ≡ carried files o
  bring_carried = all_bring (changed_rows o)
