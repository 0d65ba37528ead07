use Rattle.std.proofs.Common.{rules, ◌≡◌, Some, false}
use Rattle.ae_log.proofs.AppliedSteps.{if-ok}
use Rattle.ae_types.specs.Phases.{is_integrating}
use Rattle.ae_machine.specs.Call.{call_of, change_named}
use Rattle.ae_machine.proofs.AskedFor.{refreshed-asked}
use Rattle.ae_machine.proofs.PathSplits.{named-files}
use Rattle.ae_machine.proofs.asking.rows_refreshed.Goals as goal

pub rows_outside-requires : goal.rows_outside-requires
rows_outside-requires c =
    let found : change_named c.args.state.now c.args.command.now.change ≡ Some c.in-Some.change.now = search rules in
    named-files c.args.state.now c.args.command.now.change c.in-Some.change.now c.note_sound.ensures.sound found

pub returns-in-Some : goal.returns-in-Some
returns-in-Some c = λ who.
    let found : change_named c.args.state.now c.args.command.now.change ≡ Some c.in-Some.change.now = search rules in
    let develops : is_integrating c.in-Some.change.now.phase ≡ false = search rules in
    if-ok c.rows_outside.result _ _ c.rows_outside.ensures (refreshed-asked (call_of c.args.state.now c.args.command.now who) c.in-Some.change.now found develops)
