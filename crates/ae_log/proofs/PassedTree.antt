-- The files at the delta of a change are those of its candidate before it.
use Rattle.std.proofs.Common.{◌≡◌, ℕ, ◌+◌, ◌≤◌, refl, sym, ◌∙◌, ap, subst, List, [], ◌∷◌, ◌++◌, Option, Some, None, Bool, true, false, cond, nat_eq, arith, not}
use Rattle.std.specs.Prelude.{is_some, nat_le, filter}
use Rattle.std.specs.List.{filter_map}
use Rattle.std.specs.Option.{option_map, option_and_then, option_or}
use Rattle.std.specs.Str.{bytes_eq}
use Rattle.std.proofs.lemmas.Option.{same_Some}
use Rattle.std.proofs.lemmas.Bool.{le-leb}
use Rattle.ae_types.specs.declared.change.Change.{Change}
use Rattle.ae_types.specs.declared.change.ChangeFile.{ChangeFile}
use Rattle.ae_types.specs.declared.file_table.FileRow.{FileRow}
use Rattle.ae_types.specs.declared.file_table.FileVersion.{FileVersion}
use Rattle.ae_types.specs.declared.version.VersionRef.{VersionRef}
use Rattle.ae_types.specs.Found.{file_path, row_path, entry_delta, file_in, row_in, entry_in, has_file}
use Rattle.ae_types.specs.Ordered.{put_by}
use Rattle.ae_types.specs.Trees.{TreeRow, tree_path, frozen_row, tree_row, entry_row, past_in, last_up_to, unless_later, put_rows, overlaid}
use Rattle.ae_base.specs.Rows.{text_cmp}
use Rattle.ae_types.specs.Sound.{IsGoodRow}
use Rattle.ae_types.proofs.Keys.{by_text, by_number}
use Rattle.ae_types.proofs.Ordered.{Above, Ascends, at, at-put, put-ascends, at-rows, rows-ascend, at-filter, filter-ascends, if_so, ascending-is, at-above, at-first, above-at, apart, less-other, found-key, none-some}
use Rattle.ae_log.specs.After.{all_entered, row_of, new_entry}
use Rattle.ae_log.proofs.PassSteps.{at-all_entered, all_entered-ascend, row_with}

-- ---- each row is at its own path

entry_own : (p : List ℕ) (x : FileVersion) (t : TreeRow) → entry_row p x ≡ Some t → tree_path t ≡ p
entry_own p x t e = go x.version e
  where
    go : (v : Option VersionRef) → option_map (λ (v : VersionRef). record { path = p; usage = x.usage; version = v }) v ≡ Some t → tree_path t ≡ p
    go (Some v) e = ap tree_path (sym (same_Some _ t e))
    go None e = none-some t e

pub tree_own : (n : ℕ) (r : FileRow) (t : TreeRow) → tree_row n r ≡ Some t → tree_path t ≡ row_path r
tree_own n r t e = go (last_up_to n r.past) e
  where
    go : (x : Option FileVersion) → option_and_then (entry_row r.path) x ≡ Some t → tree_path t ≡ row_path r
    go (Some x) e = entry_own r.path x t e
    go None e = none-some t e

pub frozen_own : (f : ChangeFile) (t : TreeRow) → frozen_row f ≡ Some t → tree_path t ≡ file_path f
frozen_own f t e = go f.frozen e
  where
    go : (v : Option VersionRef) → option_map (λ (v : VersionRef). record { path = f.path; usage = f.usage; version = v }) v ≡ Some t → tree_path t ≡ file_path f
    go (Some v) e = ap tree_path (sym (same_Some _ t e))
    go None e = none-some t e

-- ---- the last entry up to a delta

last-snoc : (n : ℕ) (xs : List FileVersion) (y : FileVersion) → y.delta ≡ n → last_up_to n (xs ++ y ∷ []) ≡ Some y
last-snoc n [] y e = ap (λ b. cond b (Some y) None) (le-leb y.delta n (omega (arith, e)))
last-snoc n (x ∷ xs) y e = go (nat_le x.delta n) (last-snoc n xs y e)
  where
    go : (b : Bool) → last_up_to n (xs ++ y ∷ []) ≡ Some y → cond b (unless_later x (last_up_to n (xs ++ y ∷ []))) (last_up_to n (xs ++ y ∷ [])) ≡ Some y
    go true rest = ap (unless_later x) rest
    go false rest = rest

last-more : (n k : ℕ) (xs : List FileVersion) → Ascends by_number entry_delta xs → ((m : ℕ) (x : FileVersion) → entry_in xs m ≡ Some x → (1 ≤ m) × (m ≤ n)) → n ≤ k → last_up_to k xs ≡ last_up_to n xs
last-more n k [] a all h = refl
last-more n k (x ∷ xs) a all h =
    let here = all x.delta x (at-first by_number entry_delta x xs) in
    ap (λ b. cond b (unless_later x (last_up_to k xs)) (last_up_to k xs)) (le-leb x.delta k (omega (arith, here.1, h)))
    ∙ ap (unless_later x) (last-more n k xs a.1 (λ m y e. all m y (skip m y e)) h)
    ∙ sym (ap (λ b. cond b (unless_later x (last_up_to n xs)) (last_up_to n xs)) (le-leb x.delta n here.1))
  where
    skip : (m : ℕ) (y : FileVersion) → entry_in xs m ≡ Some y → cond (nat_eq m x.delta) (Some x) (entry_in xs m) ≡ Some y
    skip m y e = ap (λ b. cond b (Some x) (entry_in xs m)) (apart by_number m x.delta (λ is. less-other by_number x.delta m (above-at by_number entry_delta x.delta m xs y a.0 e) (sym is))) ∙ e

-- ---- the candidate's rows

pub at-put_rows : (rs rows : List TreeRow) (p : List ℕ) → Ascends by_text tree_path rs → at by_text tree_path p (put_rows rs rows) ≡ option_or (at by_text tree_path p rs) (at by_text tree_path p rows)
at-put_rows [] rows p h = refl
at-put_rows (r ∷ rs) rows p h = at-put_rows rs (put_by text_cmp tree_path r rows) p h.1 ∙ ap (option_or (at by_text tree_path p rs)) (at-put by_text tree_path p r rows) ∙ go (bytes_eq p r.path) refl
  where
    go : (b : Bool) → bytes_eq p r.path ≡ b → option_or (at by_text tree_path p rs) (cond b (Some r) (at by_text tree_path p rows)) ≡ option_or (cond b (Some r) (at by_text tree_path p rs)) (at by_text tree_path p rows)
    go true e = ap (λ x. option_or x (Some r)) (at-above by_text tree_path p rs (subst (λ q. Above by_text tree_path q rs) (sym (by_text.same_is p r.path e)) h.0))
    go false e = refl

put_rows-ascend : (rs rows : List TreeRow) → Ascends by_text tree_path rows → Ascends by_text tree_path (put_rows rs rows)
put_rows-ascend [] rows h = h
put_rows-ascend (r ∷ rs) rows h = put_rows-ascend rs (put_by text_cmp tree_path r rows) (put-ascends by_text tree_path r rows h)

module _ (x : Change) (rows : List FileRow) (deltas : ℕ) (up : Ascends by_text row_path rows) (files_up : Ascends by_text file_path x.files) (good : (p : List ℕ) (r : FileRow) → row_in rows p ≡ Some r → IsGoodRow deltas r) where
  abbrev pub outside : TreeRow → Bool
  outside row = not (has_file x row.path)

  -- what a path finds in both
  pair : (p : List ℕ) (f : Option ChangeFile) → file_in x.files p ≡ f → (r : Option FileRow) → row_in rows p ≡ r
      → option_and_then (tree_row (deltas + 1)) (row_with (deltas + 1) f r) ≡ option_or (option_and_then frozen_row f) (if_so by_text tree_path outside (option_and_then (tree_row deltas) r))
  pair p (Some f) ef r er = fresh (past_in r) ∙ with_frozen f.frozen ef
    where
      fresh : (xs : List FileVersion) → tree_row (deltas + 1) (row_of f.path (xs ++ new_entry (deltas + 1) f ∷ [])) ≡ frozen_row f
      fresh xs = ap (option_and_then (entry_row f.path)) (last-snoc (deltas + 1) xs (new_entry (deltas + 1) f) refl)

      inside : (t : Option TreeRow) → option_and_then (tree_row deltas) r ≡ t → file_in x.files p ≡ Some f → if_so by_text tree_path outside t ≡ None
      inside (Some t) et ef = ap (λ (q : List ℕ). cond (not (is_some (file_in x.files q))) (Some t) None) (path_of r er et) ∙ ap (λ (g : Option ChangeFile). cond (not (is_some g)) (Some t) None) ef
        where
          path_of : (r : Option FileRow) → row_in rows p ≡ r → option_and_then (tree_row deltas) r ≡ Some t → t.path ≡ p
          path_of (Some r) er et = tree_own deltas r t et ∙ found-key by_text row_path p rows r er
          path_of None er et = none-some t et
      inside None et ef = refl

      with_frozen : (v : Option VersionRef) → file_in x.files p ≡ Some f
          → option_map (λ (v : VersionRef). record { path = f.path; usage = f.usage; version = v }) v ≡ option_or (option_map (λ (v : VersionRef). record { path = f.path; usage = f.usage; version = v }) v) (if_so by_text tree_path outside (option_and_then (tree_row deltas) r))
      with_frozen (Some v) ef = refl
      with_frozen None ef = sym (inside (option_and_then (tree_row deltas) r) refl ef)
  pair p None ef None er = refl
  pair p None ef (Some r) er = ap (option_and_then (entry_row r.path)) (let g = good p r er in last-more deltas (deltas + 1) r.past g.ascends g.there (omega arith))
      ∙ kept (tree_row deltas r) refl
    where
      kept : (t : Option TreeRow) → tree_row deltas r ≡ t → t ≡ if_so by_text tree_path outside t
      kept (Some t) et = sym (ap (λ (q : List ℕ). cond (not (is_some (file_in x.files q))) (Some t) None) (tree_own deltas r t et ∙ found-key by_text row_path p rows r er) ∙ ap (λ (g : Option ChangeFile). cond (not (is_some g)) (Some t) None) ef)
      kept None et = refl

  pub passed-tree : filter_map (tree_row (deltas + 1)) (all_entered (deltas + 1) x.files rows) ≡ overlaid (filter_map (tree_row deltas) rows) x
  passed-tree =
      let later_up = all_entered-ascend (deltas + 1) x.files rows up in
      let old_up = rows-ascend by_text row_path tree_path (tree_row deltas) (tree_own deltas) rows up in
      ascending-is by_text tree_path _ _ (rows-ascend by_text row_path tree_path (tree_row (deltas + 1)) (tree_own (deltas + 1)) _ later_up)
      (put_rows-ascend (filter_map frozen_row x.files) _ (filter-ascends by_text tree_path outside _ old_up))
      (λ p. at-rows by_text row_path tree_path (tree_row (deltas + 1)) (tree_own (deltas + 1)) p _ later_up
      ∙ ap (option_and_then (tree_row (deltas + 1))) (at-all_entered (deltas + 1) x.files rows p files_up)
      ∙ pair p (file_in x.files p) refl (row_in rows p) refl
      ∙ sym (at-put_rows (filter_map frozen_row x.files) _ p (rows-ascend by_text file_path tree_path frozen_row frozen_own x.files files_up)
      ∙ ap (λ t. option_or t (at by_text tree_path p (filter outside (filter_map (tree_row deltas) rows)))) (at-rows by_text file_path tree_path frozen_row frozen_own p x.files files_up)
      ∙ ap (option_or (option_and_then frozen_row (file_in x.files p))) (at-filter by_text tree_path outside p _ old_up ∙ ap (if_so by_text tree_path outside) (at-rows by_text row_path tree_path (tree_row deltas) (tree_own deltas) p rows up))))
