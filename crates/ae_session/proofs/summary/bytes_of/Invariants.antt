use Rattle.std.proofs.Common.{◌≡◌, min, take}
use Rattle.ae_session.specs.Summary.{bytes_of, most_told}
use Rattle.ae_session.proofs.summary.bytes_of.Given as goal

abbrev pub invariant-loop-file : goal.invariant-loop-file
invariant-loop-file l = record {
  sum : l.bytes ≡ min (bytes_of (take l.file-index l.files)) most_told;
}
