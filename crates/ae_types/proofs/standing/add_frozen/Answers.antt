use Rattle.std.proofs.Common.{arith}
use Rattle.std.proofs.lemmas.Grind.{common_steps}
use Rattle.ae_types.specs.declared.change.ChangeFile.{ChangeFile}
use Rattle.ae_types.proofs.Versions.{some-more}
use Rattle.ae_types.proofs.standing.add_frozen.Goals as goal

pub loop-file-preserved : goal.loop-file-preserved
loop-file-preserved c = grind (arith, common_steps, some-more (λ (file : ChangeFile). file.frozen) c.args.files.now c.loop-file.file-index c.file-item.result (omega arith) c.file-item.is)
