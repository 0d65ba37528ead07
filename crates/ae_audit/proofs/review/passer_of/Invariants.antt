use Rattle.std.proofs.Common.{◌≡◌, drop, None}
use Rattle.std.specs.Option.{option_copied}
use Rattle.ae_audit.specs.Review.{passer_from}
use Rattle.ae_audit.proofs.review.passer_of.Given as goal

abbrev pub invariant-loop-row : goal.invariant-loop-row
invariant-loop-row l = passer_from None l.rows ≡ passer_from (option_copied l.passed) (drop l.row-index l.rows)
