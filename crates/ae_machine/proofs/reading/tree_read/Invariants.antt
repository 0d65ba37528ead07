use Rattle.std.proofs.Common.{◌≡◌, map, take}
use Rattle.ae_evidence.specs.Directories.{bytes_of}
use Rattle.ae_machine.specs.Sight.{read_at}
use Rattle.ae_machine.proofs.reading.tree_read.Given as goal

abbrev pub invariant-loop-path : goal.invariant-loop-path
invariant-loop-path l = l.rows.items ≡ map (λ path. (path, bytes_of (read_at l.view path))) (take l.path-index l.paths)
