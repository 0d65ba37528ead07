-- The calls of a form in memory.
use Rattle.std.specs.Prelude.{◌≡◌, ◌⊎◌, ℕ, List, Contains}
use Rattle.ae_outside.specs.Causes.{HasRisen, next}

-- the numbers of the calls that fail, and how many calls there were so far, failed, and found no memory
pub record Counts : Type 0 where
  pub fails : List ℕ
  pub calls : ℕ
  pub failed : ℕ
  pub starved : ℕ

-- One call more. It failed exactly where its number is listed or it found no memory, and is counted then; running out of memory
-- is counted besides.
pub record IsCall (old new : Counts) (Fault : Type 0) : Type 0 where
  pub listed_stay : new.fails ≡ old.fails
  pub number : new.calls ≡ next old.calls
  pub because : Fault → Contains old.fails new.calls ⊎ HasRisen old.starved new.starved
  pub listed : Contains old.fails new.calls → Fault
  pub starving : (new.starved ≡ old.starved) ⊎ ((new.starved ≡ next old.starved) × Fault)
  pub counted : Fault → new.failed ≡ next old.failed
  pub uncounted : (Fault → ⊥) → new.failed ≡ old.failed

-- a call that takes no memory of its own
abbrev pub IsFed : Counts → Counts → Type 0
IsFed old new = new.starved ≡ old.starved
