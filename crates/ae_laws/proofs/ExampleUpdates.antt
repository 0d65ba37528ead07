-- The updates of the examples: two files that were added where no delta was there yet.
use Rattle.std.proofs.Common.{◌≡◌, ℕ, List, Option, Some, None, Bool, true, false, cond}
use Rattle.std.specs.Prelude.{IsSomeAnd}
use Rattle.ae_types.proofs.Ordered.{none-some}
use Rattle.ae_log.specs.Files.{FileFact, file_by, file_in}
use Rattle.ae_log.specs.Log.{Log, Happened, makes, leaves, marked}
use Rattle.ae_machine.specs.Updates.{IsUntouched}

-- what adds a file from the edit 0
abbrev pub FromNothing : Happened → Type 0
FromNothing added = (fact : FileFact) → file_in added.event.what ≡ Some fact → fact.origin ≡ 0

-- what makes the fact of a path, of two files that were added
abbrev pub made_by : Bool → Bool → Happened → Happened → Option Happened
made_by one other test config = marked (cond one makes leaves) test (marked (cond other makes leaves) config None)

pub record IsFirst (log : Log) (path : List ℕ) (fact : FileFact) (made : Option Happened) : Type 0 where
  pub origin : fact.origin ≡ 0
  pub untouched : IsSomeAnd made (IsUntouched log path)

pub first-of : (log : Log) (path : List ℕ) (fact : FileFact) (test config : Happened) → IsUntouched log path test → IsUntouched log path config → FromNothing test → FromNothing config
    → (one other : Bool) → file_by (made_by one other test config) ≡ Some fact → IsFirst log path fact (made_by one other test config)
first-of log path fact test config t c from_t from_c true other e = record { origin = from_t fact e; untouched = t }
first-of log path fact test config t c from_t from_c false true e = record { origin = from_c fact e; untouched = c }
first-of log path fact test config t c from_t from_c false false e = none-some fact e
