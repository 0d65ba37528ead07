-- What the reader of a whole text answers.
use Rattle.std.specs.Prelude.{◌≡◌, ℕ, ◌+◌, List, length, if◌then◌else◌, Err}
use Rattle.ae_text.specs.Pushdown as spec
use Rattle.ae_text.specs.Pushdown.{step}
use Rattle.ae_text.specs.Parsing.{is_done}
use Rattle.ae_text.specs.Scan.{next}
use Rattle.ae_text.specs.WellFormed.{max_depth}
use Rattle.ae_text.specs.Parsing.{Stopped}
use Rattle.ae_text.specs.declared.pushdown.Stop.{Stop}
use Rattle.ae_text.specs.declared.pushdown.Stop.TheVariants as stops
use Rattle.ae_text.specs.declared.read.Fault.{Fault}
use Rattle.ae_text.specs.declared.read.Fault.TheVariants.{Syntax, TooDeep, Memory}

-- the fault of a token that begins at this place
abbrev pub fault_of : Stop → ℕ → Fault
fault_of stops.Syntax at = Syntax at
fault_of stops.TooDeep at = TooDeep at
fault_of stops.Memory at = Memory

-- the reader stopped for this reason
abbrev pub IsFault : List ℕ → Fault → Type 0
IsFault bytes (Syntax at) = Stopped bytes at spec.syntax
IsFault bytes (TooDeep at) = Stopped bytes at spec.too_deep
IsFault bytes Memory = Unit {0}

-- what the loop has left to do
abbrev pub left : spec.State → List ℕ → ℕ
left s rest = length rest + (if is_done s.place then 0 else 1)

-- the step at the next token, where memory doesn't run out
abbrev pub TurnFails : ℕ → spec.State → List ℕ → Fault → Type 0
TurnFails total s rest (Syntax at) = (step max_depth s (next total rest) ≡ Err spec.syntax) × (at ≡ (next total rest).at)
TurnFails total s rest (TooDeep at) = (step max_depth s (next total rest) ≡ Err spec.too_deep) × (at ≡ (next total rest).at)
TurnFails total s rest Memory = Unit {0}
