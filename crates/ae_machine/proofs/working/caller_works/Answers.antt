use Rattle.std.proofs.Common.{rules, ◌≡◌, Some}
use Rattle.ae_machine.specs.Call.{change_of}
use Rattle.ae_machine.proofs.WhoWorks.{named-good, integrator-there}
use Rattle.ae_machine.proofs.working.caller_works.Goals as goal

pub worker_is_caller-requires-clause-integrated : goal.worker_is_caller-requires-clause-integrated
worker_is_caller-requires-clause-integrated c =
    let found : change_of c.args.call.now ≡ Some c.in-Some.change.now = search rules in
    integrator-there c.in-Some.change.now (named-good c.args.call.now.stands c.args.call.now.command.change c.in-Some.change.now c.note_sound.ensures found)
