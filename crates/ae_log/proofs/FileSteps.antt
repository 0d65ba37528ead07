-- The files of a change after one more event: one is put in its place, one is taken out, or their versions come or go.
use Rattle.std.proofs.Common.{◌≡◌, ℕ, sym, ◌∙◌, ap, List, ◌∷◌, map, Option, Some, None, cond}
use Rattle.std.specs.List.{filter_map}
use Rattle.std.specs.Option.{option_map}
use Rattle.ae_base.specs.declared.words.Action.{Action}
use Rattle.ae_base.specs.declared.words.Usage.{Usage}
use Rattle.ae_types.specs.declared.version.VersionRef.{VersionRef}
use Rattle.ae_types.specs.Found.{file_path}
use Rattle.ae_types.proofs.Keys.{by_text}
use Rattle.ae_types.proofs.Ordered.{listed-put, listed-without, member-with_key, apart}
use Rattle.ae_log.specs.declared.event.EventKind.TheVariants as on
use Rattle.ae_log.specs.Log.{Log, Course, Happened, standing, marked, makes, ends, leaves}
use Rattle.ae_log.specs.Files.{FileFact, file, file_by, file_mark, course_paths}
use Rattle.ae_log.specs.Observed.{change_file, change_file_of, change_files, frozen_version}
use Rattle.ae_log.specs.After.{new_file, with_file, without_file, thawed}
use Rattle.ae_log.specs.Maker.{Maker}
use Rattle.ae_log.proofs.Lists.{option_map-step, filter_map-step, filter_map-same}
use Rattle.ae_log.proofs.Ascending.{course_paths-ascend}
use Rattle.ae_log.proofs.Listed.{own_file}
use Rattle.ae_log.proofs.Steps.{happens}

-- ---- a file is put

module _ (ss : Course) (before : Log) (maker : Maker) (c : ℕ) (p : List ℕ) (action : Action) (usage : Usage) (origin : ℕ) where
  abbrev pub put : Happened
  put = happens before maker c (on.File p action usage origin)

  module _ (none : (q : List ℕ) → frozen_version ss q ≡ None) (none_then : (q : List ℕ) → frozen_version (put ∷ ss) q ≡ None) where
    gives : change_file (put ∷ ss) p ≡ Some (new_file p action usage origin)
    gives = ap (λ b. option_map (change_file_of p (frozen_version (put ∷ ss) p)) (file_by (marked (cond b makes leaves) put (standing (file_mark p) ss)))) (by_text.same_self p)
        ∙ ap (λ v. Some (record { path = p; action = action; usage = usage; origin = origin; frozen = v })) (none_then p)

    other : (q : List ℕ) → (q ≡ p → ⊥) → change_file (put ∷ ss) q ≡ change_file ss q
    other q differ = ap (λ b. option_map (change_file_of q (frozen_version (put ∷ ss) q)) (file_by (marked (cond b makes leaves) put (standing (file_mark q) ss)))) (apart by_text q p differ)
        ∙ ap (λ v. option_map (change_file_of q v) (file ss q)) (none_then q ∙ sym (none q))

    pub files-put : change_files (put ∷ ss) ≡ with_file (new_file p action usage origin) (change_files ss)
    files-put = listed-put by_text file_path (change_file ss) (change_file (put ∷ ss)) (own_file ss) (own_file (put ∷ ss)) p (new_file p action usage origin)
        (course_paths ss) (course_paths (put ∷ ss)) (course_paths-ascend ss) (course_paths-ascend (put ∷ ss)) (λ k. member-with_key by_text k p (course_paths ss)) gives other

-- ---- a file is taken out

module _ (ss : Course) (before : Log) (maker : Maker) (c : ℕ) (p : List ℕ) where
  abbrev pub out : Happened
  out = happens before maker c (on.Unfile p)

  module _ (none : (q : List ℕ) → frozen_version ss q ≡ None) (none_then : (q : List ℕ) → frozen_version (out ∷ ss) q ≡ None) where
    gone : change_file (out ∷ ss) p ≡ None
    gone = ap (λ b. option_map (change_file_of p (frozen_version (out ∷ ss) p)) (file_by (marked (cond b ends leaves) out (standing (file_mark p) ss)))) (by_text.same_self p)

    left : (q : List ℕ) → (q ≡ p → ⊥) → change_file (out ∷ ss) q ≡ change_file ss q
    left q differ = ap (λ b. option_map (change_file_of q (frozen_version (out ∷ ss) q)) (file_by (marked (cond b ends leaves) out (standing (file_mark q) ss)))) (apart by_text q p differ)
        ∙ ap (λ v. option_map (change_file_of q v) (file ss q)) (none_then q ∙ sym (none q))

    pub files-out : change_files (out ∷ ss) ≡ without_file p (change_files ss)
    files-out = listed-without by_text file_path (change_file ss) (change_file (out ∷ ss)) (own_file ss) (own_file (out ∷ ss)) p (course_paths ss) (course_paths-ascend ss) gone left

-- ---- the files stay

module _ (s : Happened) (ss : Course) (same : (p : List ℕ) → file (s ∷ ss) p ≡ file ss p) (listed : course_paths (s ∷ ss) ≡ course_paths ss) where
  -- and their versions too
  pub files-stay : ((p : List ℕ) → frozen_version (s ∷ ss) p ≡ frozen_version ss p) → change_files (s ∷ ss) ≡ change_files ss
  files-stay frozen = ap (filter_map (change_file (s ∷ ss))) listed
      ∙ filter_map-same (change_file (s ∷ ss)) (change_file ss) (λ p. ap (option_map (change_file_of p (frozen_version (s ∷ ss) p))) (same p) ∙ ap (λ v. option_map (change_file_of p v) (file ss p)) (frozen p)) (course_paths ss)

  -- and their versions go
  pub files-thaw : ((p : List ℕ) → frozen_version (s ∷ ss) p ≡ None) → change_files (s ∷ ss) ≡ map thawed (change_files ss)
  files-thaw none = ap (filter_map (change_file (s ∷ ss))) listed
      ∙ filter_map-step (change_file (s ∷ ss)) (change_file ss) thawed
      (λ p. ap (option_map (change_file_of p (frozen_version (s ∷ ss) p))) (same p)
      ∙ option_map-step _ (change_file_of p (frozen_version ss p)) thawed (λ (fact : FileFact). ap (λ (v : Option VersionRef). change_file_of p v fact) (none p)) (file ss p)) (course_paths ss)
