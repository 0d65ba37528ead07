-- Two calls, one after the other.
use Rattle.std.specs.Prelude.{◌≡◌, ℕ, Bool, List, [], ◌∷◌, ◌++◌, Contains}
use Rattle.ae_base.specs.declared.outcome.Outcome.{Outcome}
use Rattle.ae_base.specs.declared.outcome.Outcome.TheVariants.{Done, RunFailed, Refused, Damaged}
use Rattle.ae_outside.specs.Image.{Image}
use Rattle.ae_outside.specs.State.{DiskState, Continues}
use Rattle.ae_vault.specs.Kept.{Holds, Kept, last_of}
use Rattle.ae_log.specs.Log.{Log}
use Rattle.ae_machine.specs.Called.{Called}
use Rattle.ae_exec.specs.Endings.{Ends}
use Rattle.ae_exec.specs.Holding.{HoldsLegal, MayGive}
use Rattle.ae_exec.specs.Performs.{Performs}
use Rattle.ae_exec.specs.Refined.{Refined}
use Rattle.ae_exec.specs.Stands.{StandsForLog}
use Rattle.ae_exec.specs.Step.{outcome_done, step}
use Rattle.ae_exec.specs.Stops.{StopsBetween}

-- a run of logs and one that begins where it ended are one run
abbrev pub RunsJoin : (old new : DiskState) → Type 0
RunsJoin old new =
    (t : ℕ) (log : Log) (logs more : List Log) → Continues old new → Kept StandsForLog old t log logs → Kept StandsForLog new old.moment (last_of StandsForLog log logs) more
    → Kept StandsForLog new t log (logs ++ more)

-- once a command is done, whether or not a run failed, the disk holds the log with its events
abbrev pub DoneIsHeld : (base disk : DiskState) → Type 0
DoneIsHeld base disk = (failed : Bool) (held : List Log) (log next : Log) → Refined StandsForLog base disk held log next (outcome_done failed) → Holds StandsForLog disk (next ∷ [])

-- However two commands end, and wherever a stop comes, from the first moment of the first to the last of the second: what is left
-- stands for the log that was held, for that with the events of the first command, or for the one that was then read with the
-- events of the second.
pub record LeaveThree (base disk : DiskState) (log : Log) (first second : Called) : Type 0 where
  pub read : Log
  pub among : Contains (log ∷ step log first ∷ []) read
  pub stops : StopsBetween StandsForLog disk base.moment disk.moment (log ∷ step log first ∷ step read second ∷ [])

abbrev pub TwoCommands : (base mid disk : DiskState) → Type 0
TwoCommands base mid disk =
    (log : Log) (first second : Called) (one two : Outcome) → HoldsLegal base (log ∷ []) log → MayGive first → Performs base mid first one → Continues base mid → Continues mid disk → Performs mid disk second two → LeaveThree base disk log first second

-- ---- causes

-- an outcome whose cause lies in the files and the command
abbrev pub IsAnswered : Outcome → Type 0
IsAnswered Done = Unit {0}
IsAnswered RunFailed = Unit {0}
IsAnswered (Refused refusal) = Unit {0}
IsAnswered (Damaged name) = Unit {0}
IsAnswered _ = ⊥

-- a command has one such outcome: passed runs, failed ones, each refusal and each damage exclude one another
abbrev pub EndsOnce : Type 0
EndsOnce = (image : Image) (called : Called) (one other : Outcome) → Ends image called one → Ends image called other → IsAnswered one → IsAnswered other → one ≡ other
