-- Counts of faults, which never fall.
use Rattle.std.specs.Prelude.{ℕ, ◌+◌, ◌-◌, ◌^◌, ◌≤◌, min, Result, IsErr}

-- the count after one more; at its last value it stands still
abbrev pub next : ℕ → ℕ
next count = min (count + 1) (2 ^ 64 - 1)

-- the count rose, or stands at its last value
abbrev pub HasRisen : ℕ → ℕ → Type 0
HasRisen before now = next before ≤ now

-- the count didn't fall, and where there was a fault it rose
pub record Counted (before now : ℕ) (Fault : Type 0) : Type 0 where
  pub later : before ≤ now
  pub rose : Fault → HasRisen before now

-- a failure is answered only where the count rose
abbrev pub HasCause : {T E : Type 0} → ℕ → ℕ → Result T E → Type 0
HasCause before now result = Counted before now (IsErr result)
