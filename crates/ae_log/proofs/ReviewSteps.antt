-- What stands after events under review, and after an integration begins or is given up: the change holds its files before and
-- after.
use Rattle.std.proofs.Common.{◌≡◌, ℕ, refl, sym, ◌∙◌, ap, List, ◌∷◌, None, true, cond, nat_eq}
use Rattle.std.specs.Option.{option_map}
use Rattle.ae_base.specs.declared.words.Ground.TheVariants as part
use Rattle.ae_types.specs.declared.project.Attributes.{Attributes}
use Rattle.ae_types.specs.declared.change.Change.{Change}
use Rattle.ae_types.specs.declared.change.ChangeFile.{ChangeFile}
use Rattle.ae_types.specs.declared.change.Evidence.{Evidence}
use Rattle.ae_types.specs.Observation.{Observation}
use Rattle.ae_types.specs.Phases.{holds_locks}
use Rattle.ae_log.specs.declared.event.EventKind.TheVariants as on
use Rattle.ae_log.specs.Log.{Log, Course, Happened, course}
use Rattle.ae_log.specs.Phases.{phase_of}
use Rattle.ae_log.specs.Settings.{change_attributes}
use Rattle.ae_log.specs.Files.{paths, next_version, frozen}
use Rattle.ae_types.specs.Frozen.{ref_of, version_of, frozen_file}
use Rattle.ae_log.specs.Observed.{observation_with, change_with, frozen_version}
use Rattle.ae_log.specs.After.{after, change_after}
use Rattle.ae_log.specs.Maker.{Maker}
use Rattle.ae_log.proofs.Lists.{filter_map-same, option_map-step}
use Rattle.ae_log.proofs.Steps.{of_change, happens, same-parts, changes-step, numbers-stay, locks-stay}
use Rattle.ae_log.proofs.RunSteps.{evidence-cleared}
use Rattle.ae_log.proofs.FileSteps.{files-stay}
use Rattle.ae_log.proofs.ChangeSteps.{awaits_review-is, reviewed-is, awaits_integration-is, integrated-is, at-its, holds-both, Finds}

-- the versions of a change that holds its files before and after
still-frozen : (ss : Course) → holds_locks (phase_of ss) ≡ true → (p : List ℕ) → option_map ref_of (version_of (frozen_file (frozen ss) p)) ≡ frozen_version ss p
still-frozen ss held p = ap (λ b. cond b (option_map ref_of (version_of (frozen_file (frozen ss) p))) None) (sym held)

-- the change after the event, but for its files
abbrev pub with_files : ℕ → Course → (files : List ChangeFile) → (a : Rattle.ae_types.specs.declared.change.ChangeAttributes.ChangeAttributes) → Change
with_files n ss files a = record (change_with n ss a) { files = files }

module _ (log : Log) (maker : Maker) (c : ℕ) (a : Attributes) (held : holds_locks (phase_of (course log c)) ≡ true) where
  held-at : (n : ℕ) → nat_eq c n ≡ true → holds_locks (phase_of (course log n)) ≡ true
  held-at n e = at-its log c n (λ m. holds_locks (phase_of (course log m)) ≡ true) e held

  pub with-review_begin : observation_with (of_change maker c on.ReviewBegin ∷ log) a ≡ after (observation_with log a) (of_change maker c on.ReviewBegin)
  with-review_begin = same-parts _ _ refl
      (numbers-stay log maker c on.ReviewBegin (λ n e. refl))
      refl
      (filter_map-same _ _ (locks-stay log maker c on.ReviewBegin (holds-both log maker c on.ReviewBegin held (λ n. refl) (λ p n. refl) (λ n. refl))) (paths log))
      (changes-step log maker c on.ReviewBegin _ (λ s ss. refl) (λ n e.
      let s : Happened = happens log maker c on.ReviewBegin in
      option_map-step (change_with n (s ∷ course log n)) (change_with n (course log n)) (change_after (next_version log) s.event)
      (λ b. ap (λ (fs : List ChangeFile). with_files n (s ∷ course log n) fs b) (files-stay s (course log n) (λ p. refl) refl (still-frozen (course log n) (held-at n e)))) (change_attributes (course log n))))

  pub with-review_begin_undo : observation_with (of_change maker c on.ReviewBeginUndo ∷ log) a ≡ after (observation_with log a) (of_change maker c on.ReviewBeginUndo)
  with-review_begin_undo = same-parts _ _ refl
      (numbers-stay log maker c on.ReviewBeginUndo (λ n e. refl))
      refl
      (filter_map-same _ _ (locks-stay log maker c on.ReviewBeginUndo (holds-both log maker c on.ReviewBeginUndo held (λ n. refl) (λ p n. refl) (λ n. refl))) (paths log))
      (changes-step log maker c on.ReviewBeginUndo _ (λ s ss. refl) (λ n e.
      let s : Happened = happens log maker c on.ReviewBeginUndo in
      option_map-step (change_with n (s ∷ course log n)) (change_with n (course log n)) (change_after (next_version log) s.event)
      (λ b. ap (λ (fs : List ChangeFile). with_files n (s ∷ course log n) fs b) (files-stay s (course log n) (λ p. refl) refl (still-frozen (course log n) (held-at n e)))) (change_attributes (course log n))))

  pub with-review_pass : observation_with (of_change maker c on.Pass ∷ log) a ≡ after (observation_with log a) (of_change maker c on.Pass)
  with-review_pass = same-parts _ _ refl
      (numbers-stay log maker c on.Pass (λ n e. refl))
      refl
      (filter_map-same _ _ (locks-stay log maker c on.Pass (holds-both log maker c on.Pass held (λ n. refl) (λ p n. refl) (λ n. refl))) (paths log))
      (changes-step log maker c on.Pass _ (λ s ss. refl) (λ n e.
      let s : Happened = happens log maker c on.Pass in
      option_map-step (change_with n (s ∷ course log n)) (change_with n (course log n)) (change_after (next_version log) s.event)
      (λ b. ap (λ (fs : List ChangeFile). with_files n (s ∷ course log n) fs b) (files-stay s (course log n) (λ p. refl) refl (still-frozen (course log n) (held-at n e)))) (change_attributes (course log n))))

  pub with-review_pass_undo : observation_with (of_change maker c on.PassUndo ∷ log) a ≡ after (observation_with log a) (of_change maker c on.PassUndo)
  with-review_pass_undo = same-parts _ _ refl
      (numbers-stay log maker c on.PassUndo (λ n e. refl))
      refl
      (filter_map-same _ _ (locks-stay log maker c on.PassUndo (holds-both log maker c on.PassUndo held (λ n. refl) (λ p n. refl) (λ n. refl))) (paths log))
      (changes-step log maker c on.PassUndo _ (λ s ss. refl) (λ n e.
      let s : Happened = happens log maker c on.PassUndo in
      option_map-step (change_with n (s ∷ course log n)) (change_with n (course log n)) (change_after (next_version log) s.event)
      (λ b. ap (λ (fs : List ChangeFile). with_files n (s ∷ course log n) fs b) (files-stay s (course log n) (λ p. refl) refl (still-frozen (course log n) (held-at n e)))) (change_attributes (course log n))))

  pub with-integrate_begin : observation_with (of_change maker c on.IBegin ∷ log) a ≡ after (observation_with log a) (of_change maker c on.IBegin)
  with-integrate_begin = same-parts _ _ refl
      (numbers-stay log maker c on.IBegin (λ n e. refl))
      refl
      (filter_map-same _ _ (locks-stay log maker c on.IBegin (holds-both log maker c on.IBegin held (λ n. refl) (λ p n. refl) (λ n. refl))) (paths log))
      (changes-step log maker c on.IBegin _ (λ s ss. refl) (λ n e.
      let s : Happened = happens log maker c on.IBegin in
      option_map-step (change_with n (s ∷ course log n)) (change_with n (course log n)) (change_after (next_version log) s.event)
      (λ b. ap (λ (fs : List ChangeFile). with_files n (s ∷ course log n) fs b) (files-stay s (course log n) (λ p. refl) refl (still-frozen (course log n) (held-at n e)))
      ∙ ap (λ (rows : List Evidence). record (change_after (next_version log) s.event (change_with n (course log n) b)) { evidence = rows }) (evidence-cleared part.Integrate s (course log n) refl (λ key. refl))) (change_attributes (course log n))))

  pub with-integrate_begin_undo : observation_with (of_change maker c on.IBeginUndo ∷ log) a ≡ after (observation_with log a) (of_change maker c on.IBeginUndo)
  with-integrate_begin_undo = same-parts _ _ refl
      (numbers-stay log maker c on.IBeginUndo (λ n e. refl))
      refl
      (filter_map-same _ _ (locks-stay log maker c on.IBeginUndo (holds-both log maker c on.IBeginUndo held (λ n. refl) (λ p n. refl) (λ n. refl))) (paths log))
      (changes-step log maker c on.IBeginUndo _ (λ s ss. refl) (λ n e.
      let s : Happened = happens log maker c on.IBeginUndo in
      option_map-step (change_with n (s ∷ course log n)) (change_with n (course log n)) (change_after (next_version log) s.event)
      (λ b. ap (λ (fs : List ChangeFile). with_files n (s ∷ course log n) fs b) (files-stay s (course log n) (λ p. refl) refl (still-frozen (course log n) (held-at n e)))
      ∙ ap (λ (rows : List Evidence). record (change_after (next_version log) s.event (change_with n (course log n) b)) { evidence = rows }) (evidence-cleared part.Integrate s (course log n) refl (λ key. refl))) (change_attributes (course log n))))

-- ---- what each finds suffices

pub review_begin-found : (log : Log) (o : Observation) (maker : Maker) (c : ℕ) (a : Attributes) → Finds log o a c on.ReviewBegin → observation_with (of_change maker c on.ReviewBegin ∷ log) a ≡ after (observation_with log a) (of_change maker c on.ReviewBegin)
review_begin-found log o maker c a f = with-review_begin log maker c a (ap holds_locks (awaits_review-is _ f.comes))

pub review_begin_undo-found : (log : Log) (o : Observation) (maker : Maker) (c : ℕ) (a : Attributes) → Finds log o a c on.ReviewBeginUndo
    → observation_with (of_change maker c on.ReviewBeginUndo ∷ log) a ≡ after (observation_with log a) (of_change maker c on.ReviewBeginUndo)
review_begin_undo-found log o maker c a f = with-review_begin_undo log maker c a (ap holds_locks (reviewed-is _ f.comes))

pub review_pass-found : (log : Log) (o : Observation) (maker : Maker) (c : ℕ) (a : Attributes) → Finds log o a c on.Pass → observation_with (of_change maker c on.Pass ∷ log) a ≡ after (observation_with log a) (of_change maker c on.Pass)
review_pass-found log o maker c a f = with-review_pass log maker c a (ap holds_locks (reviewed-is _ f.comes))

pub review_pass_undo-found : (log : Log) (o : Observation) (maker : Maker) (c : ℕ) (a : Attributes) → Finds log o a c on.PassUndo → observation_with (of_change maker c on.PassUndo ∷ log) a ≡ after (observation_with log a) (of_change maker c on.PassUndo)
review_pass_undo-found log o maker c a f = with-review_pass_undo log maker c a (ap holds_locks (awaits_integration-is _ f.comes))

pub integrate_begin-found : (log : Log) (o : Observation) (maker : Maker) (c : ℕ) (a : Attributes) → Finds log o a c on.IBegin → observation_with (of_change maker c on.IBegin ∷ log) a ≡ after (observation_with log a) (of_change maker c on.IBegin)
integrate_begin-found log o maker c a f = with-integrate_begin log maker c a (ap holds_locks (awaits_integration-is _ f.comes))

pub integrate_begin_undo-found : (log : Log) (o : Observation) (maker : Maker) (c : ℕ) (a : Attributes) → Finds log o a c on.IBeginUndo
    → observation_with (of_change maker c on.IBeginUndo ∷ log) a ≡ after (observation_with log a) (of_change maker c on.IBeginUndo)
integrate_begin_undo-found log o maker c a f = with-integrate_begin_undo log maker c a (ap holds_locks (integrated-is _ f.comes))
