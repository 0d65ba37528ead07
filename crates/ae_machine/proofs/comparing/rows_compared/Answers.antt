use Rattle.std.proofs.Common.{rules, ◌≡◌, Some, true}
use Rattle.ae_log.proofs.AppliedSteps.{if-ok}
use Rattle.ae_types.specs.Phases.{is_integrating}
use Rattle.ae_machine.specs.Call.{call_of, change_named}
use Rattle.ae_machine.proofs.AskedFor.{compared-asked}
use Rattle.ae_machine.proofs.comparing.rows_compared.Goals as goal

pub returns-in-Some-change : goal.returns-in-Some-change
returns-in-Some-change c = λ who.
    let found : change_named c.args.state.now c.args.command.now.change ≡ Some c.in-Some-change.change.now = search rules in
    let integrates : is_integrating c.in-Some-change.change.now.phase ≡ true = search rules in
    if-ok c.candidate_tree.result _ _ c.candidate_tree.ensures (compared-asked (call_of c.args.state.now c.args.command.now who) c.in-Some-change.change.now found integrates)
