-- What stands after a change goes back into development: its versions and its locks go.
use Rattle.std.proofs.Common.{◌≡◌, ℕ, refl, ◌∙◌, ap, List, ◌∷◌, false, ◌&&◌}
use Rattle.std.specs.Prelude.{is_some}
use Rattle.std.specs.Option.{option_map}
use Rattle.std.proofs.lemmas.Bool.{and_right}
use Rattle.ae_base.specs.declared.words.Ground.TheVariants as part
use Rattle.ae_types.specs.declared.project.Attributes.{Attributes}
use Rattle.ae_types.specs.declared.change.ChangeFile.{ChangeFile}
use Rattle.ae_types.specs.declared.change.Evidence.{Evidence}
use Rattle.ae_log.specs.declared.event.EventKind.TheVariants as on
use Rattle.ae_log.specs.Log.{Log, Course, Happened, course}
use Rattle.ae_log.specs.Settings.{is_there, change_attributes}
use Rattle.ae_log.specs.Files.{file, next_version}
use Rattle.ae_log.specs.Observed.{observation_with, change, change_with}
use Rattle.ae_log.specs.After.{after, change_after}
use Rattle.ae_log.specs.Maker.{Maker}
use Rattle.ae_log.proofs.Lists.{option_map-step}
use Rattle.ae_log.proofs.Steps.{of_change, happens, same-parts, changes-step, numbers-stay}
use Rattle.ae_log.proofs.RunSteps.{evidence-cleared}
use Rattle.ae_log.proofs.FileSteps.{files-thaw}
use Rattle.ae_log.proofs.LockSteps.{OneHolder, locks-go}

change-end_undo : (ss : Course) (before : Log) (maker : Maker) (next c n : ℕ) → change n (happens before maker c on.EndUndo ∷ ss) ≡ option_map (change_after next (of_change maker c on.EndUndo)) (change n ss)
change-end_undo ss before maker next c n =
    let s : Happened = happens before maker c on.EndUndo in
    option_map-step (change_with n (s ∷ ss)) (change_with n ss) (change_after next s.event) (λ a.
    ap (λ (fs : List ChangeFile). record (change_with n (s ∷ ss) a) { files = fs }) (files-thaw s ss (λ p. refl) refl (λ p. refl))) (change_attributes ss)

change-fail : (ss : Course) (before : Log) (maker : Maker) (next c n : ℕ) → change n (happens before maker c on.Fail ∷ ss) ≡ option_map (change_after next (of_change maker c on.Fail)) (change n ss)
change-fail ss before maker next c n =
    let s : Happened = happens before maker c on.Fail in
    option_map-step (change_with n (s ∷ ss)) (change_with n ss) (change_after next s.event) (λ a.
    ap (λ (fs : List ChangeFile). record (change_with n (s ∷ ss) a) { files = fs }) (files-thaw s ss (λ p. refl) refl (λ p. refl))) (change_attributes ss)

change-integrate_fail : (ss : Course) (before : Log) (maker : Maker) (next c n : ℕ) → change n (happens before maker c on.IFail ∷ ss) ≡ option_map (change_after next (of_change maker c on.IFail)) (change n ss)
change-integrate_fail ss before maker next c n =
    let s : Happened = happens before maker c on.IFail in
    option_map-step (change_with n (s ∷ ss)) (change_with n ss) (change_after next s.event) (λ a.
    ap (λ (fs : List ChangeFile). record (change_with n (s ∷ ss) a) { files = fs }) (files-thaw s ss (λ p. refl) refl (λ p. refl))
    ∙ ap (λ (rows : List Evidence). record (change_after next s.event (change_with n ss a)) { evidence = rows }) (evidence-cleared part.Integrate s ss refl (λ key. refl))) (change_attributes ss)

module _ (log : Log) (maker : Maker) (c : ℕ) (a : Attributes) (one : OneHolder log) where
  pub with-end_undo : observation_with (of_change maker c on.EndUndo ∷ log) a ≡ after (observation_with log a) (of_change maker c on.EndUndo)
  with-end_undo = same-parts _ _ refl
      (numbers-stay log maker c on.EndUndo (λ n e. refl))
      refl
      (locks-go log maker c on.EndUndo one (λ p n e. and_right (is_there (course log n) && is_some (file (course log n) p)) false refl))
      (changes-step log maker c on.EndUndo _ (λ s ss. refl) (λ n e. change-end_undo (course log n) log maker (next_version log) c n))

  pub with-fail : observation_with (of_change maker c on.Fail ∷ log) a ≡ after (observation_with log a) (of_change maker c on.Fail)
  with-fail = same-parts _ _ refl
      (numbers-stay log maker c on.Fail (λ n e. refl))
      refl
      (locks-go log maker c on.Fail one (λ p n e. and_right (is_there (course log n) && is_some (file (course log n) p)) false refl))
      (changes-step log maker c on.Fail _ (λ s ss. refl) (λ n e. change-fail (course log n) log maker (next_version log) c n))

  pub with-integrate_fail : observation_with (of_change maker c on.IFail ∷ log) a ≡ after (observation_with log a) (of_change maker c on.IFail)
  with-integrate_fail = same-parts _ _ refl
      (numbers-stay log maker c on.IFail (λ n e. refl))
      refl
      (locks-go log maker c on.IFail one (λ p n e. and_right (is_there (course log n) && is_some (file (course log n) p)) false refl))
      (changes-step log maker c on.IFail _ (λ s ss. refl) (λ n e. change-integrate_fail (course log n) log maker (next_version log) c n))
