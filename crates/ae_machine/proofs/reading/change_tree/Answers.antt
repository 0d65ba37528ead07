use Rattle.std.proofs.Common.{◌∙◌, sym, ap, subst, map}
use Rattle.std.proofs.lemmas.List.{take_all}
use Rattle.ae_base.specs.Rows.{Ascends}
use Rattle.ae_types.specs.declared.change.ChangeFile.{ChangeFile}
use Rattle.ae_types.specs.Found.{file_path}
use Rattle.ae_machine.specs.Sight.{bytes_read}
use Rattle.ae_machine.proofs.SnapshotRows.{rows-ascend}
use Rattle.ae_machine.proofs.reading.change_tree.Goals as goal

pub of-requires : goal.of-requires
of-requires c =
    subst Ascends
    (sym (c.loop-file.invariant ∙ ap (map (λ (file : ChangeFile). (file.path, bytes_read c.args.view.now file))) (take_all c.loop-file.file-index c.args.files.now c.loop-file-test.false)))
    (rows-ascend file_path (bytes_read c.args.view.now) c.args.files.now c.requires)
