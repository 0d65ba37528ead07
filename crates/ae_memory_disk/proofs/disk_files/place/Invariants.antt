use Rattle.std.proofs.Common.{◌≡◌, ◌+◌, drop}
use Rattle.std.specs.List.{position_or_len}
use Rattle.std.specs.Str.{bytes_eq}
use Rattle.ae_memory_disk.proofs.disk_files.place.Given as goal

abbrev pub invariant-loop-file : goal.invariant-loop-file
invariant-loop-file l = (l.at ≡ l.file-index) × (l.at + position_or_len (λ file. bytes_eq file.name l.name) (drop l.at l.files) ≡ position_or_len (λ file. bytes_eq file.name l.name) l.files)
