use Rattle.std.proofs.Common.{◌∙◌, List, [], ◌∷◌, ◌++◌, None}
use Rattle.std.proofs.lemmas.Result.{err_from_is_err_and}
use Rattle.ae_machine.specs.Call.{Condition, first_of}
use Rattle.ae_machine.specs.Freezing.{deltas_have_room, files_have_room, leaves_no_clash, nobody_integrates, tests_have_room}
use Rattle.ae_machine.specs.Permission.{caller_is_integrator, developer_may_integrate, history_has_room, reviewer_may_integrate, right_phase}
use Rattle.ae_machine.proofs.Conditions.{first-pass, first-refuse, or-pass, or-refuse}
use Rattle.ae_machine.proofs.integrating.integrate_begin.Goals as goal

abbrev of_caller : List Condition
of_caller = caller_is_integrator ∷ developer_may_integrate ∷ reviewer_may_integrate ∷ []

abbrev of_rest : List Condition
of_rest = nobody_integrates ∷ leaves_no_clash ∷ files_have_room ∷ tests_have_room ∷ deltas_have_room ∷ history_has_room ∷ []

pub returns-in_err-caller_may_integrate : goal.returns-in_err-caller_may_integrate
returns-in_err-caller_may_integrate c =
    let call = c.args.call.now in
    let p = err_from_is_err_and c.from_residual-in_err-caller_may_integrate.result c.from_residual-in_err-caller_may_integrate.ensures.1 in
    rw (p.1, p.2) (or-pass (right_phase call) (first_of (of_caller ++ of_rest) call) c.in_ok-right_phase.ensures ∙ first-refuse of_caller of_rest call _ c.in_err-caller_may_integrate.ensures)

pub returns-in_err-history_has_room : goal.returns-in_err-history_has_room
returns-in_err-history_has_room c =
    let call = c.args.call.now in
    let p = err_from_is_err_and c.from_residual-in_err-history_has_room.result c.from_residual-in_err-history_has_room.ensures.1 in
    rw (p.1, p.2) (or-pass (right_phase call) (first_of (of_caller ++ of_rest) call) c.in_ok-right_phase.ensures
    ∙ first-pass of_caller of_rest call c.in_ok-caller_may_integrate.ensures
    ∙ or-pass (nobody_integrates call) (first_of (leaves_no_clash ∷ files_have_room ∷ tests_have_room ∷ deltas_have_room ∷ history_has_room ∷ []) call) c.in_ok-nobody_integrates.ensures
    ∙ or-pass (leaves_no_clash call) (first_of (files_have_room ∷ tests_have_room ∷ deltas_have_room ∷ history_has_room ∷ []) call) c.in_ok-leaves_no_clash.ensures
    ∙ or-pass (files_have_room call) (first_of (tests_have_room ∷ deltas_have_room ∷ history_has_room ∷ []) call) c.in_ok-files_have_room.ensures
    ∙ or-pass (tests_have_room call) (first_of (deltas_have_room ∷ history_has_room ∷ []) call) c.in_ok-tests_have_room.ensures
    ∙ or-pass (deltas_have_room call) (first_of (history_has_room ∷ []) call) c.in_ok-deltas_have_room.ensures
    ∙ or-refuse (history_has_room call) None _ c.in_err-history_has_room.ensures)
