-- What the loop over the tokens has done.
use Rattle.std.specs.Prelude.{◌≡◌, ℕ, List, length, Bool, true, false, Ok, Err}
use Rattle.ae_text.specs.Token.{Placed}
use Rattle.ae_text.specs.WellFormed.{max_depth}
use Rattle.ae_text.specs.Pushdown as spec
use Rattle.ae_text.specs.Pushdown.{State, Fault, start, step, run}
use Rattle.ae_text.specs.Scan.{next, Leads}

-- the text has ended
abbrev pub is_done : spec.Place → Bool
is_done (spec.at_name fs) = false
is_done (spec.at_equals fs k) = false
is_done (spec.at_value fs k) = false
is_done (spec.at_semicolon fs k v) = false
is_done (spec.at_item vs) = false
is_done (spec.at_comma vs) = false
is_done (spec.done fs) = true

-- the tokens up to `rest` were taken, and lead to this state
pub record Taken (bytes : List ℕ) (rest : List ℕ) (s : State) : Type 0 where
  pub front : List Placed
  pub leads : Leads (length bytes) bytes front rest
  pub runs : run max_depth (Ok start) front ≡ Ok s

-- the next token was not taken
pub record Stopped (bytes : List ℕ) (at : ℕ) (f : Fault) : Type 0 where
  pub rest : List ℕ
  pub state : State
  pub taken : Taken bytes rest state
  pub not_done : is_done state.place ≡ false
  pub stopped : step max_depth state (next (length bytes) rest) ≡ Err f
  pub place : at ≡ (next (length bytes) rest).at
