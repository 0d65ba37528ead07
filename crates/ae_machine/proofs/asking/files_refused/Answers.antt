use Rattle.std.proofs.Common.{rules, ◌≡◌, Some, false}
use Rattle.ae_log.proofs.AppliedSteps.{if-ok}
use Rattle.ae_types.specs.Phases.{is_integrating}
use Rattle.ae_machine.specs.Call.{change_named, given_of}
use Rattle.ae_machine.proofs.AskedFor.{kept-refuse}
use Rattle.ae_machine.proofs.asking.files_refused.Goals as goal

pub returns-in-Some-change : goal.returns-in-Some-change
returns-in-Some-change c = λ places bytes who when.
    let found : change_named c.args.state.now c.args.command.now.change ≡ Some c.in-Some-change.change.now = search rules in
    let develops : is_integrating c.in-Some-change.change.now.phase ≡ false = search rules in
    if-ok c.kept_refused.result _ _ (c.kept_refused.ensures c.args.command.now who)
    (kept-refuse (given_of places c.args.state.now bytes c.args.command.now who when c.args.view.now) c.in-Some-change.change.now found develops)
