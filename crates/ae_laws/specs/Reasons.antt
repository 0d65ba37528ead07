-- The reason that goes with an event.
use Rattle.std.specs.Prelude.{◌≡◌, ℕ, List, [], if◌then◌else◌, is_some, unwrap_or, All}
use Rattle.ae_log.specs.declared.event.Event.{Event}
use Rattle.ae_log.specs.declared.event.EventKind.{EventKind}
use Rattle.ae_log.specs.Phases.{word_of}
use Rattle.ae_words.specs.declared.command.Command.{Command}
use Rattle.ae_machine.specs.Call.{Given}
use Rattle.ae_machine.specs.Verdict.{events_of}

-- that of the command where the event adds a row to a history, and none where it doesn't
abbrev pub reason_with : Command → EventKind → List ℕ
reason_with command kind = if is_some (word_of kind) then unwrap_or command.reason [] else []

-- each event of a command that is accepted has it
abbrev pub ReasonsAreTold : Type 0
ReasonsAreTold = (given : Given) → All (λ (event : Event). event.why ≡ reason_with given.call.command event.what) (events_of given)
