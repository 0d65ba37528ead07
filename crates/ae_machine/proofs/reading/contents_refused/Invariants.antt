use Rattle.std.proofs.Common.{◌≡◌, drop}
use Rattle.ae_machine.specs.Freezing.{first_content_refused}
use Rattle.ae_machine.proofs.reading.contents_refused.Given as goal

abbrev pub invariant-loop-path : goal.invariant-loop-path
invariant-loop-path l = first_content_refused l.view l.paths ≡ first_content_refused l.view (drop l.path-index l.paths)
