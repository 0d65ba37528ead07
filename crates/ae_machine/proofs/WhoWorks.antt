-- Who builds and tests a change: in development its developer, in integration its integrator.
use Rattle.std.specs.Prelude.{◌≡◌, ℕ, ◌+◌, ◌<◌, List, [], ◌∷◌, Option, Some, None, true, false, not, is_some, map, length}
use Rattle.std.specs.Option.{option_and_then, option_or}
use Rattle.std.proofs.Common.{refl, sym, ap, ◌∙◌, arith, get_or, zero, suc}
use Rattle.std.proofs.lemmas.Bool.Decides.{nat_tests}
use Rattle.ae_machine.proofs.Accepted.{tested}
use Rattle.ae_base.specs.Limits.{most_deltas}
use Rattle.ae_base.specs.declared.words.Phase.{Phase}
use Rattle.ae_base.specs.declared.words.Phase.TheVariants as phase
use Rattle.ae_base.specs.declared.refusal.Refusal.{Refusal}
use Rattle.ae_base.specs.declared.refusal.Refusal.TheVariants.{WrongPhase}
use Rattle.ae_types.specs.declared.change.Change.{Change}
use Rattle.ae_types.specs.declared.project.DeltaRow.{DeltaRow}
use Rattle.ae_types.specs.Observation.{Observation}
use Rattle.ae_types.specs.Phases.{is_awaiting_development, is_integrating, has_integrator}
use Rattle.ae_types.specs.Rules.{counts_up}
use Rattle.ae_types.specs.Sound.{Sound, IsGoodChange}
use Rattle.ae_machine.specs.Call.{Call, change_named, change_of, first_of}
use Rattle.ae_machine.specs.Permission.{caller_works, may_come_in, phase_is_right, right_phase, worker_is_caller}
use Rattle.ae_machine.proofs.Conditions.{of-change}

-- what stands of the change that is named
pub named-good : (o : Observation) (number : Option ℕ) (change : Change) → Sound o → change_named o number ≡ Some change → IsGoodChange change
named-good o (Some number) change s is = s.changes.good number change is
named-good o None change s is = cc

-- and there is room for its delta, where it is being integrated
pub named-room : (o : Observation) (number : Option ℕ) (change : Change) → Sound o → change_named o number ≡ Some change → is_integrating change.phase ≡ true → length o.project.deltas < most_deltas
named-room o (Some number) change s is e = s.integrating.room number change is e
named-room o None change s is e = cc

integrator-in : (p : Phase) → is_integrating p ≡ true → has_integrator p ≡ true
integrator-in phase.BeingIntegrated e = refl
integrator-in phase.AwaitingDevelopment e = cc
integrator-in phase.BeingDeveloped e = cc
integrator-in phase.AwaitingReview e = cc
integrator-in phase.BeingReviewed e = cc
integrator-in phase.AwaitingIntegration e = cc
integrator-in phase.Completed e = cc

pub integrator-there : (change : Change) → IsGoodChange change → is_integrating change.phase ≡ true → is_some change.integrator ≡ true
integrator-there change good e = good.people.integrator ∙ integrator-in change.phase e

-- the function comes in the phase of the change
pub comes : (call : Call) (change : Change) → change_of call ≡ Some change → right_phase call ≡ None → may_come_in call.command.function change.phase ≡ true
comes call change is right = tested (may_come_in call.command.function change.phase) (WrongPhase change.phase) (sym (of-change phase_is_right call change is) ∙ right)

-- where it comes only when development was begun, there is a developer
pub developer-there : (call : Call) (change : Change) → Sound call.stands → change_of call ≡ Some change → right_phase call ≡ None → may_come_in call.command.function phase.AwaitingDevelopment ≡ false → is_some change.developer ≡ true
developer-there call change s is right later = (named-good call.stands call.command.change change s is).people.developer ∙ go change.phase (comes call change is right)
  where
    go : (p : Phase) → may_come_in call.command.function p ≡ true → not (is_awaiting_development p) ≡ true
    go phase.AwaitingDevelopment e = let never = sym later ∙ e in cc
    go phase.BeingDeveloped e = refl
    go phase.AwaitingReview e = refl
    go phase.BeingReviewed e = refl
    go phase.AwaitingIntegration e = refl
    go phase.BeingIntegrated e = refl
    go phase.Completed e = refl

-- after the phase only the caller is asked for
pub works : (call : Call) (change : Change) → right_phase call ≡ None → change_of call ≡ Some change → worker_is_caller call change ≡ first_of (right_phase ∷ caller_works ∷ []) call
works call change right is = sym (front (right_phase call) (caller_works call) right ∙ ap (option_and_then (worker_is_caller call)) is)
  where
    front : (x y : Option Refusal) → x ≡ None → option_or x (option_or y None) ≡ y
    front (Some x) y e = cc
    front None (Some y) e = refl
    front None None e = refl

-- deltas are numbered by their places
pub numbered-at : (n : ℕ) (deltas : List DeltaRow) (i : ℕ) (d : DeltaRow) → counts_up n (map (λ (delta : DeltaRow). delta.delta) deltas) ≡ true → i < length deltas → (get_or deltas i d).delta ≡ n + i
numbered-at n [] i d e l = absurd (omega (arith, l))
numbered-at n (x ∷ xs) zero d e l = grind (arith, nat_tests)
numbered-at n (x ∷ xs) (suc i) d e l = numbered-at (n + 1) xs i d (grind (arith, nat_tests)) (omega (arith, l)) ∙ omega arith
