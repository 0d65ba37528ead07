use Rattle.std.proofs.Common.{rules, ◌≡◌, sym, subst, Some}
use Rattle.ae_base.specs.Rows.{text_cmp}
use Rattle.ae_types.specs.Found.{file_path}
use Rattle.ae_types.specs.Ordered.{Ascends}
use Rattle.ae_machine.specs.Call.{change_of}
use Rattle.ae_machine.proofs.PathSplits.{named-files}
use Rattle.ae_machine.proofs.clashes.leaves_no_clash.Goals as goal

pub are_clear-requires : goal.are_clear-requires
are_clear-requires c =
    let found : change_of c.args.call.now ≡ Some c.in-Some.change.now = search rules in
    subst (Ascends text_cmp file_path) (sym c.as_slice.ensures) (named-files c.args.call.now.stands c.args.call.now.command.change c.in-Some.change.now c.note_sound.ensures found)
