use Rattle.std.proofs.Common.{rules, ◌≡◌, true}
use Rattle.ae_types.specs.Phases.{is_integrating}
use Rattle.ae_machine.specs.Call.{call_of}
use Rattle.ae_machine.proofs.AskedFor.{integrate-dir}
use Rattle.ae_machine.proofs.asking.dir_of_change.Goals as goal

pub returns-then-is_integrating : goal.returns-then-is_integrating
returns-then-is_integrating c = λ command who.
    let is : is_integrating c.args.change.now.phase ≡ true = search rules in
    integrate-dir (call_of c.args.state.now command who) c.args.change.now c.delta_of_run.result is (c.delta_of_run.ensures command who)
