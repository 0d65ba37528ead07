-- What is so of each log that a disk may hold.
use Rattle.std.specs.Prelude.{List, Contains}
use Rattle.ae_log.specs.Log.{Log}

-- it is so of the log that is read, and of each that is held
pub record AllHeld (P : Log → Type 0) (held : List Log) (log : Log) : Type 0 where
  pub read : P log
  pub each : (l : Log) → Contains held l → P l
