-- Logs, and what befell a change. A log has its newest event first, so that a recursion on it goes back from the last event.
use Rattle.std.specs.Prelude.{ℕ, List, [], ◌∷◌, Option, Some, None, Bool, if◌then◌else◌, nat_eq}
use Rattle.std.specs.Option.{option_map, option_eq}
use Rattle.ae_log.specs.declared.event.Event.{Event}
use Rattle.ae_log.specs.declared.event.EventKind.{EventKind}
use Rattle.ae_log.specs.declared.event.EventKind.TheVariants as on

abbrev pub Log : Type 0
Log = List Event

-- the log with these events after it, the first of them first
abbrev pub followed : Log → List Event → Log
followed log [] = log
followed log (event ∷ events) = followed (event ∷ log) events

-- ---- what befell a change

-- an event, and the log before it
pub record Happened : Type 0 where
  pub event : Event
  pub before : Log

-- what befell a change, the newest first
abbrev pub Course : Type 0
Course = List Happened

abbrev pub is_of : ℕ → Event → Bool
is_of number event = option_eq nat_eq event.change (Some number)

-- a course with one more event: a New begins it anew, and a NewUndo leaves nothing of it
abbrev pub continued : EventKind → Happened → Course → Course
continued (on.New attributes) happened course = happened ∷ []
continued on.NewUndo happened course = []
continued _ happened course = happened ∷ course

-- the events of a change from its last New on, and none where that was undone
abbrev pub course : Log → ℕ → Course
course [] number = []
course (event ∷ log) number = if is_of number event then continued event.what (record { event = event; before = log }) (course log number) else course log number

-- ---- facts of a change

-- what an event is to a fact of its change: it makes it, ends it, or leaves it as it is
pub data Mark : Type 0 where
  makes : Mark
  ends : Mark
  leaves : Mark

-- what makes the fact after one more event, with that event's mark
abbrev pub marked : Mark → Happened → Option Happened → Option Happened
marked makes happened earlier = Some happened
marked ends happened earlier = None
marked leaves happened earlier = earlier

-- the last event that makes the fact, where none that ends it is later
abbrev pub standing : (EventKind → Mark) → Course → Option Happened
standing mark [] = None
standing mark (happened ∷ course) = marked (mark happened.event.what) happened (standing mark course)

abbrev pub who_of : Option Happened → Option (List ℕ)
who_of happened = option_map (λ (happened : Happened). happened.event.who) happened
