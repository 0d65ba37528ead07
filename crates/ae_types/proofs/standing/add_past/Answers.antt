use Rattle.std.proofs.Common.{arith}
use Rattle.std.proofs.lemmas.Grind.{common_steps}
use Rattle.ae_types.specs.declared.file_table.FileVersion.{FileVersion}
use Rattle.ae_types.proofs.Versions.{some-more}
use Rattle.ae_types.proofs.standing.add_past.Goals as goal

pub loop-entry-preserved : goal.loop-entry-preserved
loop-entry-preserved c = grind (arith, common_steps, some-more (λ (entry : FileVersion). entry.version) c.args.past.now c.loop-entry.entry-index c.entry-item.result (omega arith) c.entry-item.is)
