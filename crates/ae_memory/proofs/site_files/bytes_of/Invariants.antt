use Rattle.std.proofs.Common.{◌≡◌, drop, option_copied}
use Rattle.ae_memory.specs.FileRows.{bytes_after, tree_of}
use Rattle.ae_memory.proofs.site_files.bytes_of.Given as goal

abbrev pub invariant-loop-file : goal.invariant-loop-file
invariant-loop-file l = bytes_after (option_copied l.found) (drop l.file-index l.files) l.dir l.path ≡ tree_of l.files l.dir l.path
