use Rattle.std.proofs.Common.{◌≡◌, ◌++◌, map, take, drop}
use Rattle.ae_log.specs.After.{thawed}
use Rattle.ae_log.proofs.freezing.thaw_files.Given as goal

abbrev pub invariant-loop-file : goal.invariant-loop-file
invariant-loop-file l = l.file-items ≡ map thawed (take l.file-index l.fn.files.items) ++ drop l.file-index l.fn.files.items
