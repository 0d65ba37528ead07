use Rattle.std.proofs.Common.{take}
use Rattle.ae_dist.specs.Steps.{ArePaths}
use Rattle.ae_dist.proofs.planning.note_paths.Given as goal

abbrev pub invariant-loop-file : goal.invariant-loop-file
invariant-loop-file l = ArePaths (take l.file-index l.files)
