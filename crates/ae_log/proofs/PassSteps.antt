-- What stands after an integration passes: its files are entered in the file table, and their versions and locks go.
use Rattle.std.proofs.Common.{◌≡◌, ℕ, ◌+◌, refl, sym, ◌∙◌, ap, subst, List, [], ◌∷◌, ◌++◌, map, Option, Some, None, Bool, true, false, cond, ◌&&◌}
use Rattle.std.specs.Prelude.{is_some, length}
use Rattle.std.specs.List.{filter_map}
use Rattle.std.specs.Option.{option_map}
use Rattle.std.specs.Str.{bytes_eq}
use Rattle.std.proofs.lemmas.Bool.{and_right}
use Rattle.ae_types.specs.declared.project.Attributes.{Attributes}
use Rattle.ae_types.specs.declared.change.Change.{Change}
use Rattle.ae_types.specs.declared.change.ChangeAttributes.{ChangeAttributes}
use Rattle.ae_types.specs.declared.change.ChangeFile.{ChangeFile}
use Rattle.ae_types.specs.declared.file_table.FileRow.{FileRow}
use Rattle.ae_types.specs.declared.file_table.FileVersion.{FileVersion}
use Rattle.ae_types.specs.declared.version.VersionRef.{VersionRef}
use Rattle.ae_types.specs.Found.{file_path, row_path, file_in, row_in}
use Rattle.ae_types.specs.Phases.{holds_locks}
use Rattle.ae_types.specs.Trees.{past_in}
use Rattle.ae_types.proofs.Keys.{by_text, by_number}
use Rattle.ae_types.proofs.Ordered.{member, Above, Ascends, at-above, at-put, put-ascends, at-filter_map, listed-is, filter_map-ascends, none-some}
use Rattle.ae_types.specs.Frozen.{ref_of, version_of, frozen_file}
use Rattle.ae_log.specs.declared.event.EventKind.TheVariants as on
use Rattle.ae_log.specs.Log.{Log, Course, Happened, course}
use Rattle.ae_log.specs.Phases.{phase_of}
use Rattle.ae_log.specs.Settings.{is_there, change_attributes, change_numbers}
use Rattle.ae_log.specs.Files.{FileFact, file, paths, frozen, next_version}
use Rattle.ae_log.specs.Baseline.{Entry, past, with_entry, deltas}
use Rattle.ae_log.specs.Observed.{observation_with, change, change_with, change_file, change_file_of, change_files, file_row, file_version, frozen_version}
use Rattle.ae_log.specs.After.{after, change_after, new_entry, row_of, entered, all_entered, rows_after, files_of}
use Rattle.ae_log.specs.Maker.{Maker}
use Rattle.ae_log.proofs.Lists.{option_map-step}
use Rattle.ae_log.proofs.Ascending.{paths-ascend}
use Rattle.ae_log.proofs.Listed.{own_row, unlisted-file, at-files, files-ascend}
use Rattle.ae_log.proofs.Steps.{of_change, happens, same-parts, changes-step, numbers-stay, found}
use Rattle.ae_log.proofs.FileSteps.{files-thaw}
use Rattle.ae_log.proofs.LockSteps.{OneHolder, locks-go}

-- ---- the rows of many paths

-- what a path finds after a delta in which it has this file
abbrev pub row_with : ℕ → Option ChangeFile → Option FileRow → Option FileRow
row_with delta (Some file) row = Some (row_of file.path (past_in row ++ new_entry delta file ∷ []))
row_with delta None row = row

at-entered : (delta : ℕ) (f : ChangeFile) (rows : List FileRow) (p : List ℕ) → row_in (entered delta f rows) p ≡ cond (bytes_eq p f.path) (row_with delta (Some f) (row_in rows p)) (row_in rows p)
at-entered delta f rows p = at-put by_text row_path p _ rows ∙ go (bytes_eq p f.path) refl
  where
    go : (b : Bool) → bytes_eq p f.path ≡ b → cond b (Some (row_of f.path (past_in (row_in rows f.path) ++ new_entry delta f ∷ []))) (row_in rows p) ≡ cond b (row_with delta (Some f) (row_in rows p)) (row_in rows p)
    go true e = ap (λ (q : List ℕ). row_with delta (Some f) (row_in rows q)) (sym (by_text.same_is p f.path e))
    go false e = refl

pub at-all_entered : (delta : ℕ) (fs : List ChangeFile) (rows : List FileRow) (p : List ℕ) → Ascends by_text file_path fs → row_in (all_entered delta fs rows) p ≡ row_with delta (file_in fs p) (row_in rows p)
at-all_entered delta [] rows p h = refl
at-all_entered delta (f ∷ fs) rows p h = at-all_entered delta fs (entered delta f rows) p h.1 ∙ ap (row_with delta (file_in fs p)) (at-entered delta f rows p) ∙ go (bytes_eq p f.path) refl
  where
    go : (b : Bool) → bytes_eq p f.path ≡ b → row_with delta (file_in fs p) (cond b (row_with delta (Some f) (row_in rows p)) (row_in rows p)) ≡ row_with delta (cond b (Some f) (file_in fs p)) (row_in rows p)
    go true e = ap (λ (o : Option ChangeFile). row_with delta o (row_with delta (Some f) (row_in rows p))) (at-above by_text file_path p fs (subst (λ q. Above by_text file_path q fs) (sym (by_text.same_is p f.path e)) h.0))
    go false e = refl

pub all_entered-ascend : (delta : ℕ) (fs : List ChangeFile) (rows : List FileRow) → Ascends by_text row_path rows → Ascends by_text row_path (all_entered delta fs rows)
all_entered-ascend delta [] rows h = h
all_entered-ascend delta (f ∷ fs) rows h = all_entered-ascend delta fs (entered delta f rows) (put-ascends by_text row_path _ rows h)

pub map-snoc : {A B : Type 0} (h : A → B) (xs : List A) (y : A) → map h (xs ++ y ∷ []) ≡ map h xs ++ h y ∷ []
map-snoc h [] y = refl
map-snoc h (x ∷ xs) y = ap (λ ys. h x ∷ ys) (map-snoc h xs y)

-- a path's row with one more entry
row-snoc : (p : List ℕ) (xs : List Entry) (y : Entry) → file_row p (xs ++ y ∷ []) ≡ Some (row_of p (past_in (file_row p xs) ++ file_version y ∷ []))
row-snoc p [] y = refl
row-snoc p (x ∷ xs) y = ap (λ (vs : List FileVersion). Some (row_of p (file_version x ∷ vs))) (map-snoc file_version xs y)

module _ (log : Log) (maker : Maker) (c : ℕ) (held : holds_locks (phase_of (course log c)) ≡ true) where
  -- the entry of a path in the delta
  past-at : (p : List ℕ) (f : Option FileFact) → file (course log c) p ≡ f
      → cond (member by_text p (paths log)) (file_row p (with_entry (length (deltas log) + 1) (frozen_file (frozen (course log c)) p) f (past log p))) None
      ≡ row_with (length (deltas log) + 1) (option_map (change_file_of p (frozen_version (course log c) p)) f) (cond (member by_text p (paths log)) (file_row p (past log p)) None)
  past-at p None is = refl
  past-at p (Some f) is = go (member by_text p (paths log)) refl
    where
      entry : Option VersionRef → FileVersion
      entry v = record { delta = length (deltas log) + 1; usage = f.usage; version = v }

      go : (b : Bool) → member by_text p (paths log) ≡ b
          → cond b (file_row p (past log p ++ record { delta = length (deltas log) + 1; usage = f.usage; version = version_of (frozen_file (frozen (course log c)) p) } ∷ [])) None
          ≡ Some (row_of p (past_in (cond b (file_row p (past log p)) None) ++ record { delta = length (deltas log) + 1; usage = f.usage; version = frozen_version (course log c) p } ∷ []))
      go true e = row-snoc p (past log p) _ ∙ ap (λ (v : Option VersionRef). Some (row_of p (past_in (file_row p (past log p)) ++ record { delta = length (deltas log) + 1; usage = f.usage; version = v } ∷ [])))
          (ap (λ (b : Bool). cond b (option_map ref_of (version_of (frozen_file (frozen (course log c)) p))) None) (sym held))
      go false e = none-some f (sym (unlisted-file log c p e) ∙ is)

  rows-pass : filter_map (λ p. file_row p (past (of_change maker c on.IPass ∷ log) p)) (paths log) ≡ all_entered (length (deltas log) + 1) (change_files (course log c)) (filter_map (λ p. file_row p (past log p)) (paths log))
  rows-pass = listed-is by_text row_path (λ p. file_row p (past (of_change maker c on.IPass ∷ log) p)) (own_row (of_change maker c on.IPass ∷ log)) (paths log) _ (paths-ascend log)
      (all_entered-ascend _ (change_files (course log c)) _ (filter_map-ascends by_text row_path (λ p. file_row p (past log p)) (own_row log) (paths log) (paths-ascend log)))
      (λ p. past-at p (file (course log c) p) refl ∙ sym (
      at-all_entered _ (change_files (course log c)) _ p (files-ascend (course log c))
      ∙ ap (λ (f : Option ChangeFile). row_with (length (deltas log) + 1) f (row_in (filter_map (λ p. file_row p (past log p)) (paths log)) p)) (at-files (course log c) p)
      ∙ ap (row_with (length (deltas log) + 1) (change_file (course log c) p)) (at-filter_map by_text row_path (λ p. file_row p (past log p)) (own_row log) p (paths log))))

change-pass : (ss : Course) (before : Log) (maker : Maker) (next c n : ℕ) → change n (happens before maker c on.IPass ∷ ss) ≡ option_map (change_after next (of_change maker c on.IPass)) (change n ss)
change-pass ss before maker next c n =
    let s : Happened = happens before maker c on.IPass in
    option_map-step (change_with n (s ∷ ss)) (change_with n ss) (change_after next s.event) (λ a.
    ap (λ (fs : List ChangeFile). record (change_with n (s ∷ ss) a) { files = fs }) (files-thaw s ss (λ p. refl) refl (λ p. refl))) (change_attributes ss)

pub with-pass : (log : Log) (maker : Maker) (c : ℕ) (a : Attributes) (x : ChangeAttributes) → member by_number c change_numbers ≡ true → change_attributes (course log c) ≡ Some x
    → holds_locks (phase_of (course log c)) ≡ true → OneHolder log
    → observation_with (of_change maker c on.IPass ∷ log) a ≡ after (observation_with log a) (of_change maker c on.IPass)
with-pass log maker c a x is there held one = same-parts _ _ refl
    (numbers-stay log maker c on.IPass (λ n e. refl))
    (rows-pass log maker c held ∙ ap (λ (y : Option Change). rows_after on.IPass (length (deltas log) + 1) (files_of y) (filter_map (λ p. file_row p (past log p)) (paths log))) (sym (found log a c is ∙ ap (option_map (change_with c (course log c))) there)))
    (locks-go log maker c on.IPass one (λ p n e. and_right (is_there (course log n) && is_some (file (course log n) p)) false refl))
    (changes-step log maker c on.IPass _ (λ s ss. refl) (λ n e. change-pass (course log n) log maker (next_version log) c n))
