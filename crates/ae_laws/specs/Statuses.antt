-- How the runs of a log ended.
use Rattle.std.specs.Prelude.{◌<◌, List, [], ◌∷◌}
use Rattle.ae_log.specs.declared.event.Event.{Event}
use Rattle.ae_log.specs.declared.event.EventKind.{EventKind}
use Rattle.ae_log.specs.declared.event.EventKind.TheVariants as on
use Rattle.ae_log.specs.Log.{Log}
use Rattle.ae_log.specs.Runs.{run_status}
use Rattle.ae_machine.specs.Legal.{Legal}

-- a run has a status below 512: a code below 256, or 256 and a signal below it
abbrev pub HasStatus : EventKind → Type 0
HasStatus (on.Run run) = run_status run.exit < 512
HasStatus _ = Unit {0}

-- each run of these events has
abbrev pub HaveStatuses : List Event → Type 0
HaveStatuses [] = Unit {0}
HaveStatuses (event ∷ events) = HasStatus event.what × HaveStatuses events

-- those of a legal log, so that each status can be recorded
abbrev pub LegalHasStatuses : Type 0
LegalHasStatuses = (log : Log) → Legal log → HaveStatuses log
