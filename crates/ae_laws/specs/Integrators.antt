-- That at each integration that passes the right people are there.
use Rattle.std.specs.Prelude.{ℕ, [], ◌∷◌, Option, Some, None}
use Rattle.ae_log.specs.declared.event.Event.{Event}
use Rattle.ae_log.specs.declared.event.EventKind.{EventKind}
use Rattle.ae_log.specs.declared.event.EventKind.TheVariants as on
use Rattle.ae_log.specs.Log.{Log, course}
use Rattle.ae_machine.specs.Integrators.{HasPeople}
use Rattle.ae_machine.specs.Legal.{Legal}

abbrev pub HasPeopleAt : Log → Event → Option ℕ → EventKind → Type 0
HasPeopleAt log event (Some number) on.IPass = HasPeople (course log number) event
HasPeopleAt log event None on.IPass = ⊥
HasPeopleAt log event change _ = Unit {0}

-- so it is at each IPass
abbrev pub ArePeopleRight : Log → Type 0
ArePeopleRight [] = Unit {0}
ArePeopleRight (event ∷ log) = HasPeopleAt log event event.change event.what × ArePeopleRight log

-- of a legal log
abbrev pub LegalHasPeople : Type 0
LegalHasPeople = (log : Log) → Legal log → ArePeopleRight log
