-- A path of which nothing is listed has no row, and each row is at its own key.
use Rattle.std.proofs.Common.{◌≡◌, ℕ, ◌+◌, refl, sym, ◌∙◌, ap, List, [], ◌∷◌, Option, Some, None, Bool, true, false, cond, ◌&&◌}
use Rattle.std.specs.Prelude.{is_some, length}
use Rattle.std.specs.Option.{option_map}
use Rattle.std.specs.Str.{bytes_eq}
use Rattle.std.proofs.lemmas.Option.{same_Some}
use Rattle.ae_types.specs.declared.file_table.Lock.{Lock}
use Rattle.ae_types.specs.declared.file_table.FileRow.{FileRow}
use Rattle.ae_types.specs.declared.change.Change.{Change}
use Rattle.ae_types.specs.declared.change.ChangeAttributes.{ChangeAttributes}
use Rattle.ae_types.specs.declared.change.ChangeFile.{ChangeFile}
use Rattle.ae_types.specs.Found.{file_path, row_path, lock_path, number_of_change, file_in}
use Rattle.ae_types.specs.Phases.{holds_locks}
use Rattle.ae_types.proofs.Keys.{by_text}
use Rattle.ae_types.proofs.Ordered.{member, Ascends, member-with_key, at-listed, filter_map-ascends, none-some}
use Rattle.ae_types.specs.Frozen.{frozen_file}
use Rattle.ae_log.specs.declared.event.EventKind.{EventKind}
use Rattle.ae_log.specs.declared.event.EventKind.TheVariants as on
use Rattle.ae_log.specs.Log.{Log, Course, Happened, makes, ends, leaves, marked, course, continued, is_of, standing}
use Rattle.ae_log.specs.Phases.{phase_of}
use Rattle.ae_log.specs.Settings.{is_there, change_attributes, change_numbers}
use Rattle.ae_log.specs.Files.{FileFact, file, file_by, file_mark, paths, paths_after, course_paths, frozen}
use Rattle.ae_log.specs.Baseline.{Entry, past, past_after, with_entry, deltas, locked, holds}
use Rattle.ae_log.specs.Observed.{lock, lock_of, change, change_with, change_file, change_file_of, change_files, frozen_version, file_row}
use Rattle.ae_log.proofs.Lists.{find-none}
use Rattle.ae_log.proofs.Ascending.{course_paths-ascend}

-- ---- paths that aren't listed

-- it is not one of fewer paths either
pub fewer : (kind : EventKind) (p : List ℕ) (ps : List (List ℕ)) → member by_text p (paths_after kind ps) ≡ false → member by_text p ps ≡ false
fewer (on.File q action usage origin) p ps e = go (bytes_eq p q) (sym (member-with_key by_text p q ps) ∙ e)
  where
    go : (b : Bool) → cond b true (member by_text p ps) ≡ false → member by_text p ps ≡ false
    go true e = cc
    go false e = e
fewer kind p ps e = e

ended-or-left : (b : Bool) (s : Happened) (earlier : Option Happened) → file_by earlier ≡ None → file_by (marked (cond b ends leaves) s earlier) ≡ None
ended-or-left true s earlier e = refl
ended-or-left false s earlier e = e

-- one more event of a change makes no row of a path that isn't listed
no_file-step : (kind : EventKind) (s : Happened) (p : List ℕ) (ps : List (List ℕ)) (earlier : Option Happened) → member by_text p (paths_after kind ps) ≡ false → file_by earlier ≡ None → file_by (marked (file_mark p kind) s earlier) ≡ None
no_file-step (on.File q action usage origin) s p ps earlier e none = go (bytes_eq p q) (sym (member-with_key by_text p q ps) ∙ e)
  where
    go : (b : Bool) → cond b true (member by_text p ps) ≡ false → file_by (marked (cond b makes leaves) s earlier) ≡ None
    go true e = cc
    go false e = none
no_file-step (on.Unfile q) s p ps earlier e none = ended-or-left (bytes_eq p q) s earlier none
no_file-step on.Begin s p ps earlier e none = refl
no_file-step on.BeginUndo s p ps earlier e none = refl
no_file-step kind s p ps earlier e none = none

pub unlisted-course : (ss : Course) (p : List ℕ) → member by_text p (course_paths ss) ≡ false → file ss p ≡ None
unlisted-course [] p e = refl
unlisted-course (s ∷ ss) p e = no_file-step s.event.what s p (course_paths ss) (standing (file_mark p) ss) e (unlisted-course ss p (fewer s.event.what p (course_paths ss) e))

continued-none : (kind : EventKind) (s : Happened) (ss : Course) (p : List ℕ) → file (s ∷ []) p ≡ None → file (s ∷ ss) p ≡ None → file (continued kind s ss) p ≡ None
continued-none (on.New attributes) s ss p one more = one
continued-none on.NewUndo s ss p one more = refl
continued-none kind s ss p one more = more

pub unlisted-file : (log : Log) (c : ℕ) (p : List ℕ) → member by_text p (paths log) ≡ false → file (course log c) p ≡ None
unlisted-file [] c p e = refl
unlisted-file (e ∷ log) c p out = go (is_of c e) (unlisted-file log c p (fewer e.what p (paths log) out))
  where
    go : (b : Bool) → file (course log c) p ≡ None → file (cond b (continued e.what (record { event = e; before = log }) (course log c)) (course log c)) p ≡ None
    go true rest =
        let s : Happened = record { event = e; before = log } in
        continued-none e.what s (course log c) p (no_file-step e.what s p (paths log) None out refl) (no_file-step e.what s p (paths log) (standing (file_mark p) (course log c)) out rest)
    go false rest = rest

no_past : (c : Option ℕ) (kind : EventKind) (log : Log) (p : List ℕ) (entries : List Entry) → member by_text p (paths log) ≡ false → entries ≡ [] → past_after log p entries c kind ≡ []
no_past (Some c) on.IPass log p entries out none = ap (λ f. with_entry (length (deltas log) + 1) (frozen_file (frozen (course log c)) p) f entries) (unlisted-file log c p out) ∙ none
no_past (Some c) kind log p entries out none = none
no_past None kind log p entries out none = none

pub unlisted-past : (log : Log) (p : List ℕ) → member by_text p (paths log) ≡ false → past log p ≡ []
unlisted-past [] p e = refl
unlisted-past (e ∷ log) p out = let less = fewer e.what p (paths log) out in no_past e.change e.what log p (past log p) less (unlisted-past log p less)

pub unlisted-lock : (log : Log) (p : List ℕ) → member by_text p (paths log) ≡ false → lock log p ≡ None
unlisted-lock log p out = ap (option_map (lock_of p)) (find-none (λ c. holds p (course log c)) (λ c. ap (λ f. is_there (course log c) && is_some f && holds_locks (phase_of (course log c))) (unlisted-file log c p out) ∙ no_file (is_there (course log c)) (holds_locks (phase_of (course log c)))) change_numbers)
  where
    no_file : (a b : Bool) → (a && false && b) ≡ false
    no_file true b = refl
    no_file false b = refl

-- ---- each row is at its own key

pub own_lock : (log : Log) (p : List ℕ) (l : Lock) → lock log p ≡ Some l → lock_path l ≡ p
own_lock log p l e = go (locked log p) e
  where
    go : (o : Option ℕ) → option_map (lock_of p) o ≡ Some l → lock_path l ≡ p
    go (Some c) e = ap lock_path (sym (same_Some (lock_of p c) l e))
    go None e = none-some l e

pub own_change : (log : Log) (c : ℕ) (x : Change) → change c (course log c) ≡ Some x → number_of_change x ≡ c
own_change log c x e = go (change_attributes (course log c)) e
  where
    go : (o : Option ChangeAttributes) → option_map (change_with c (course log c)) o ≡ Some x → number_of_change x ≡ c
    go (Some a) e = ap number_of_change (sym (same_Some (change_with c (course log c) a) x e))
    go None e = none-some x e

pub own_row : (log : Log) (p : List ℕ) (r : FileRow) → file_row p (past log p) ≡ Some r → row_path r ≡ p
own_row log p r e = go (past log p) e
  where
    go : (entries : List Entry) → file_row p entries ≡ Some r → row_path r ≡ p
    go [] e = none-some r e
    go (x ∷ xs) e = ap row_path (sym (same_Some _ r e))

pub own_file : (ss : Course) (p : List ℕ) (f : ChangeFile) → change_file ss p ≡ Some f → file_path f ≡ p
own_file ss p f e = go (file ss p) e
  where
    go : (o : Option FileFact) → option_map (change_file_of p (frozen_version ss p)) o ≡ Some f → file_path f ≡ p
    go (Some fact) e = ap file_path (sym (same_Some (change_file_of p (frozen_version ss p) fact) f e))
    go None e = none-some f e

-- ---- a path finds its file

unlisted-own : (ss : Course) (p : List ℕ) → member by_text p (course_paths ss) ≡ false → change_file ss p ≡ None
unlisted-own ss p out = ap (option_map (change_file_of p (frozen_version ss p))) (unlisted-course ss p out)

pub at-files : (ss : Course) (p : List ℕ) → file_in (change_files ss) p ≡ change_file ss p
at-files ss p = at-listed by_text file_path (change_file ss) (own_file ss) (course_paths ss) (unlisted-own ss) p

pub files-ascend : (ss : Course) → Ascends by_text file_path (change_files ss)
files-ascend ss = filter_map-ascends by_text file_path (change_file ss) (own_file ss) (course_paths ss) (course_paths-ascend ss)
