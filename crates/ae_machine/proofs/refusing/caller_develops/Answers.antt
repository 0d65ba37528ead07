use Rattle.std.proofs.Common.{rules, ◌≡◌, Some}
use Rattle.ae_machine.specs.Call.{change_of}
use Rattle.ae_machine.proofs.WhoWorks.{developer-there}
use Rattle.ae_machine.proofs.refusing.caller_develops.Goals as goal

pub developer_is_caller-requires : goal.developer_is_caller-requires
developer_is_caller-requires c =
    let found : change_of c.args.call.now ≡ Some c.in-Some.change.now = search rules in
    record { developed = developer-there c.args.call.now c.in-Some.change.now c.note_sound.ensures found c.requires.phase c.requires.developed }
