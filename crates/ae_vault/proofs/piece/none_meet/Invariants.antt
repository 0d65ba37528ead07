use Rattle.std.proofs.Common.{◌≡◌, length}
use Rattle.ae_vault.specs.Pieces.{none_meet}
use Rattle.ae_vault.proofs.piece.none_meet.Given as goal

abbrev pub invariant-loop-rest : goal.invariant-loop-rest
invariant-loop-rest l = none_meet l.fn.pieces ≡ none_meet l.rest

abbrev pub decreases-loop-rest : goal.decreases-loop-rest
decreases-loop-rest l = length l.rest
