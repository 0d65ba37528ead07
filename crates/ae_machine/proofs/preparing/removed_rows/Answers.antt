use Rattle.ae_types.specs.declared.change.ChangeFile.{ChangeFile}
use Rattle.ae_types.specs.Phases.{is_remove}
use Rattle.ae_machine.specs.Directories.{removed}
use Rattle.ae_machine.proofs.Picked.{picked-more}
use Rattle.ae_machine.proofs.preparing.removed_rows.Goals as goal

pub loop-file-preserved : goal.loop-file-preserved
loop-file-preserved c = picked-more (λ (file : ChangeFile). is_remove file.action) (λ (file : ChangeFile). removed file.path) c.args.files.now c.loop-file.file-index c.file-item.result c.loop-file.rows.items c.push_removed.new.rows.items c.loop-file-test.true c.file-item.is c.loop-file.invariant c.in_ok-push_removed.ensures
