-- Counts of faults over several calls.
use Rattle.std.specs.Prelude.{ℕ, ◌≤◌}
use Rattle.std.proofs.Common.{arith}
use Rattle.std.proofs.Math.Nat.{le_trans}
use Rattle.ae_outside.specs.Causes.{HasRisen, Counted}

-- what rose later has risen
pub risen_later : (before mid now : ℕ) → before ≤ mid → HasRisen mid now → HasRisen before now
risen_later before mid now later rose = omega (arith, later, rose)

-- a failure of a later call has its cause
pub counted_on : (before mid now : ℕ) (F G : Type 0) → before ≤ mid → (F → G) → Counted mid now G → Counted before now F
counted_on before mid now F G earlier was counted = record {
  later = le_trans earlier counted.later;
  rose = λ is. risen_later before mid now earlier (counted.rose (was is));
}
