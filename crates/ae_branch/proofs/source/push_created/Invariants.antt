use Rattle.std.proofs.Common.{◌≡◌, ◌++◌, map}
use Rattle.ae_branch.specs.Begin.{created}
use Rattle.ae_branch.proofs.source.push_created.Given as goal

abbrev pub invariant-loop-file : goal.invariant-loop-file
invariant-loop-file l = l.rows.items ++ map created l.file-iterator.rest.items ≡ l.fn.rows.items ++ map created l.fn.files.items
