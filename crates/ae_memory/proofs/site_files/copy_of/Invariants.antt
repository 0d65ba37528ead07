use Rattle.std.proofs.Common.{◌≡◌, take}
use Rattle.ae_memory.proofs.site_files.copy_of.Given as goal

abbrev pub invariant-loop-file : goal.invariant-loop-file
invariant-loop-file l = l.copy.items ≡ take l.file-index l.files
