-- What a sink took of a piece.
use Rattle.std.specs.Prelude.{◌≡◌, ℕ, ◌≤◌, List, ◌++◌, length, take}

-- some first bytes of the piece were taken, perhaps none, and nothing else
pub record TakesPrefix (old new bytes : List ℕ) : Type 0 where
  pub count : ℕ
  pub within : count ≤ length bytes
  pub taken : new ≡ old ++ take count bytes
