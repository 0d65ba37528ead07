use Rattle.std.proofs.Common.{ℕ, ◌<◌, get_or}
use Rattle.ae_base.specs.Bytes.{AreBytes}
use Rattle.ae_memory.specs.declared.site_files.FileRow.{FileRow}
use Rattle.ae_memory.proofs.site_files.note_file_bytes.Given as goal

abbrev pub invariant-loop-file : goal.invariant-loop-file
invariant-loop-file l = (k : ℕ) (d : FileRow) → k < l.file-index → AreBytes (get_or l.files k d).bytes
