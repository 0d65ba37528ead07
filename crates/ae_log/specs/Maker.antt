-- Of whom an event is, and the event that such a one makes.
use Rattle.std.specs.Prelude.{ℕ, List, Option}
use Rattle.ae_log.specs.declared.event.Event.{Event}
use Rattle.ae_log.specs.declared.event.EventKind.{EventKind}

-- the user who makes it, the moment, in seconds since 1970, and the reason; the empty text where none is given
pub record Maker : Type 0 where
  pub who : List ℕ
  pub when : ℕ
  pub why : List ℕ

abbrev pub made_by : List ℕ → ℕ → List ℕ → Maker
made_by who when why = record { who = who; when = when; why = why }

-- who made an event
abbrev pub maker_of : Event → Maker
maker_of event = made_by event.who event.when event.why

-- the event of this kind, of a change or of none
abbrev pub event_by : Maker → Option ℕ → EventKind → Event
event_by maker change kind = record { who = maker.who; when = maker.when; why = maker.why; change = change; what = kind }
