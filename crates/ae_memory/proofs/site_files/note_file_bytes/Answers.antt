use Rattle.std.proofs.Common.{None, arith}
use Rattle.ae_memory.proofs.FileRowLaws.{rows_hold}
use Rattle.ae_memory.proofs.site_files.note_file_bytes.Goals as goal

pub returns : goal.returns
returns c = rows_hold c.args.files.now (λ k d lt. c.loop-file.invariant k d (omega (arith, lt, c.loop-file-test.false))) None tt
