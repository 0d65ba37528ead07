use Rattle.std.proofs.Common.{◌≡◌, take}
use Rattle.ae_outside.specs.Trees.{no_files, with_rows}
use Rattle.ae_memory.specs.FileRows.{tree_of}
use Rattle.ae_memory.proofs.site_files.snapshot_of.Given as goal

abbrev pub invariant-loop-file : goal.invariant-loop-file
invariant-loop-file l = with_rows l.snapshot no_files ≡ tree_of (take l.file-index l.files) l.dir
