-- Why a review isn't begun.
use Rattle.std.specs.Prelude.{◌≡◌, ◌||◌, true, false, [], ◌∷◌, Option, Some, None}
use Rattle.std.specs.Option.{is_none, option_and_then, option_or}
use Rattle.std.proofs.Common.{refl, sym, ap, ◌∙◌}
use Rattle.ae_base.specs.declared.words.Phase.{Phase}
use Rattle.ae_base.specs.declared.words.Phase.TheVariants as phase
use Rattle.ae_base.specs.declared.refusal.Refusal.{Refusal}
use Rattle.ae_base.specs.declared.refusal.Refusal.TheVariants.{NotThisReviewer}
use Rattle.ae_policy.specs.Reviewing.{is_person}
use Rattle.ae_types.specs.declared.change.Change.{Change}
use Rattle.ae_types.specs.Phases.{may_be_reviewing}
use Rattle.ae_types.specs.Sound.{Sound}
use Rattle.ae_log.specs.Applies.{is_awaiting_review}
use Rattle.ae_words.specs.declared.table.Function.{Function}
use Rattle.ae_words.specs.declared.table.Function.TheVariants as function
use Rattle.ae_machine.specs.Call.{Call, change_of, first_of, unless}
use Rattle.ae_machine.specs.Permission.{caller_is_reviewer, history_has_room, may_come_in, may_review, nobody_else_reviews, reviewer_is_caller_or_nobody, right_phase}
use Rattle.ae_machine.proofs.WhoWorks.{comes, named-good}

abbrev R : Type 0
R = Option Refusal

unreviewed : (p : Phase) → is_awaiting_review p ≡ true → may_be_reviewing p ≡ false
unreviewed phase.AwaitingReview e = refl
unreviewed phase.AwaitingDevelopment e = cc
unreviewed phase.BeingDeveloped e = cc
unreviewed phase.BeingReviewed e = cc
unreviewed phase.AwaitingIntegration e = cc
unreviewed phase.BeingIntegrated e = cc
unreviewed phase.Completed e = cc

-- nobody began a review that is to be begun
begun-by-nobody : (call : Call) → Sound call.stands → call.command.function ≡ function.ReviewBegin → right_phase call ≡ None → nobody_else_reviews call ≡ None
begun-by-nobody call s begin right = go (change_of call) refl
  where
    go : (v : Option Change) → change_of call ≡ v → option_and_then (reviewer_is_caller_or_nobody call) v ≡ None
    go None is = refl
    go (Some change) is =
        let awaits : is_awaiting_review change.phase ≡ true = ap (λ (f : Function). may_come_in f change.phase) (sym begin) ∙ comes call change is right in
        let nobody : change.reviewing ≡ None = (named-good call.stands call.command.change change s is).people.reviewing (unreviewed change.phase awaits) in
        ap (λ r. unless (is_none r || is_person call.who r) (NotThisReviewer r)) nobody

-- so that its begin is refused as the pass of the change would be
pub begin-asked : (call : Call) → Sound call.stands → call.command.function ≡ function.ReviewBegin
    → first_of (right_phase ∷ caller_is_reviewer ∷ nobody_else_reviews ∷ may_review ∷ history_has_room ∷ []) call ≡ first_of (right_phase ∷ caller_is_reviewer ∷ may_review ∷ history_has_room ∷ []) call
begin-asked call s begin = go (right_phase call) (begun-by-nobody call s begin)
  where
    go : (x : R) → (x ≡ None → nobody_else_reviews call ≡ None) → option_or x (option_or (caller_is_reviewer call) (option_or (nobody_else_reviews call) (first_of (may_review ∷ history_has_room ∷ []) call)))
        ≡ option_or x (option_or (caller_is_reviewer call) (first_of (may_review ∷ history_has_room ∷ []) call))
    go (Some x) nobody = refl
    go None nobody = ap (λ (x : R). option_or (caller_is_reviewer call) (option_or x (first_of (may_review ∷ history_has_room ∷ []) call))) (nobody refl)
