use Rattle.std.proofs.Common.{rules, ◌≡◌, Some, true}
use Rattle.ae_log.proofs.AppliedSteps.{if-ok}
use Rattle.ae_machine.specs.Call.{call_of, change_named}
use Rattle.ae_machine.specs.Fits.{makes_runs}
use Rattle.ae_machine.proofs.AskedFor.{version-asked}
use Rattle.ae_machine.proofs.asking.config_version.Goals as goal

pub returns-in-Some : goal.returns-in-Some
returns-in-Some c = λ who.
    let found : change_named c.args.state.now c.args.command.now.change ≡ Some c.in-Some.change.now = search rules in
    let makes : makes_runs c.args.command.now.function ≡ true = search rules in
    if-ok c.config_below.result _ _ (c.config_below.ensures c.args.command.now who) (version-asked (call_of c.args.state.now c.args.command.now who) c.in-Some.change.now found makes)
