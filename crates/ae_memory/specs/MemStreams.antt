-- What contracts see of a source and of a sink in memory.
use Rattle.std.specs.Prelude.{ℕ, List}
use Rattle.ae_memory.specs.Calls.{Counts}

-- a source: the bytes that are left, the most that a call gives, and its calls
pub record SourceState : Type 0 where
  pub left : List ℕ
  pub piece : ℕ
  pub counts : Counts

-- a sink: the bytes that it has taken, and its calls
pub record SinkState : Type 0 where
  pub taken : List ℕ
  pub counts : Counts
