use Rattle.std.proofs.Common.{rules, sym, subst}
use Rattle.ae_types.specs.Found.{file_path}
use Rattle.ae_types.specs.Ordered.{Ascends}
use Rattle.ae_types.specs.Sound.{Sound}
use Rattle.ae_base.specs.Rows.{text_cmp}
use Rattle.ae_machine.proofs.reading.subject.Goals as goal

pub change_tree-requires : goal.change_tree-requires
change_tree-requires c =
    let sound : Sound c.args.state.now = search rules in
    subst (Ascends text_cmp file_path) (sym c.as_slice.ensures) (sound.changes.good c.args.number c.args.change.now c.requires.named).files.ascend
