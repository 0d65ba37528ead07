use Rattle.std.proofs.Common.{◌≡◌, take, flat_map}
use Rattle.ae_text.specs.Canonical.{piece}
use Rattle.ae_text.proofs.print.are_plain.Given as goal

abbrev pub invariant-loop-b : goal.invariant-loop-b
invariant-loop-b l = flat_map piece (take l.b-index l.s) ≡ take l.b-index l.s
