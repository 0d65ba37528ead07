-- Of two sinks, that to which a call tells what it says, and the other.
use Rattle.std.specs.Prelude.{◌≡◌, Bool, true, false}
use Rattle.ae_telling.specs.Telling.{SinkUse}

abbrev pub told_to : (to_out : Bool) → (out err : SinkUse) → SinkUse
told_to true out err = out
told_to false out err = err

abbrev pub silent : (to_out : Bool) → (out err : SinkUse) → SinkUse
silent true out err = err
silent false out err = out

-- a sink has taken nothing
abbrev pub TakesNothing : SinkUse → Type 0
TakesNothing sink = sink.told → sink.after ≡ sink.before
