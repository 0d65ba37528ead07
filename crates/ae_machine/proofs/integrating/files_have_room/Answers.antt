use Rattle.std.proofs.Common.{rules, ◌≡◌, Some}
use Rattle.ae_machine.specs.Call.{change_of}
use Rattle.ae_machine.proofs.PathSplits.{named-files}
use Rattle.ae_machine.proofs.integrating.files_have_room.Goals as goal

pub paths_ever-requires : goal.paths_ever-requires
paths_ever-requires c =
    let found : change_of c.args.call.now ≡ Some c.in-Some.change.now = search rules in
    named-files c.args.call.now.stands c.args.call.now.command.change c.in-Some.change.now c.note_sound.ensures found
