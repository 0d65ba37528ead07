use Rattle.std.proofs.Common.{◌∙◌, List, [], ◌∷◌, None}
use Rattle.std.proofs.lemmas.Result.{err_from_is_err_and}
use Rattle.ae_machine.specs.Call.{Condition, first_of}
use Rattle.ae_machine.specs.Permission.{caller_is_reviewer, history_has_room, may_review, nobody_else_reviews, right_phase}
use Rattle.ae_machine.proofs.Conditions.{first-pass, first-refuse, or-pass, or-refuse, refuses-so}
use Rattle.ae_machine.proofs.reviewing.review_pass.Goals as goal

abbrev of_caller : List Condition
of_caller = caller_is_reviewer ∷ nobody_else_reviews ∷ may_review ∷ []

abbrev after_phase : List Condition
after_phase = caller_is_reviewer ∷ nobody_else_reviews ∷ may_review ∷ history_has_room ∷ []

pub returns-in_err-caller_may_review : goal.returns-in_err-caller_may_review
returns-in_err-caller_may_review c =
    let call = c.args.call.now in
    let p = err_from_is_err_and c.from_residual-in_err-caller_may_review.result c.from_residual-in_err-caller_may_review.ensures.1 in
    rw (p.1, p.2) (refuses-so (first_of of_caller call) (first_of (right_phase ∷ after_phase) call) _ (λ refusal is.
    or-pass (right_phase call) (first_of after_phase call) c.in_ok-right_phase.ensures ∙ first-refuse of_caller (history_has_room ∷ []) call refusal is) c.in_err-caller_may_review.ensures)

pub returns-in_err-history_has_room : goal.returns-in_err-history_has_room
returns-in_err-history_has_room c =
    let call = c.args.call.now in
    let p = err_from_is_err_and c.from_residual-in_err-history_has_room.result c.from_residual-in_err-history_has_room.ensures.1 in
    rw (p.1, p.2) (or-pass (right_phase call) (first_of after_phase call) c.in_ok-right_phase.ensures
    ∙ first-pass of_caller (history_has_room ∷ []) call c.in_ok-caller_may_review.ensures
    ∙ or-refuse (history_has_room call) None _ c.in_err-history_has_room.ensures)
