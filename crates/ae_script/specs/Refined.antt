-- Crash refinement over lines that are done one after another, and what the disk holds after them.
use Rattle.std.specs.Prelude.{◌≡◌, ◌⊎◌, ℕ, List, [], ◌∷◌, All, Contains}
use Rattle.ae_base.specs.declared.outcome.Outcome.{Outcome}
use Rattle.ae_outside.specs.State.{DiskState}
use Rattle.ae_lines.specs.declared.line.Line.{Line}
use Rattle.ae_lines.specs.declared.line.Line.TheVariants.{Nothing, As, At, Do, Put, Fill, Remove}
use Rattle.ae_vault.specs.Kept.{Holds}
use Rattle.ae_log.specs.Log.{Log}
use Rattle.ae_machine.specs.Provenance.{Provenance}
use Rattle.ae_exec.specs.Holding.{HoldsLegal}
use Rattle.ae_exec.specs.Refined.{MayBeUnsynced, SinceSync}
use Rattle.ae_exec.specs.Stands.{StandsForLog}
use Rattle.ae_exec.specs.Stops.{Leaves}
use Rattle.ae_script.specs.Along.{KeptAlong, held_along}
use Rattle.ae_script.specs.Steps.{LineDone, reached}

-- a line that may have been done before the gate was synced: any but a command, and a command that the disk or memory stopped
abbrev pub IsUnsynced : Line → Outcome → Type 0
IsUnsynced Nothing outcome = Unit {0}
IsUnsynced (As user) outcome = Unit {0}
IsUnsynced (At moment) outcome = Unit {0}
IsUnsynced (Do command) outcome = MayBeUnsynced outcome
IsUnsynced (Put dir path text) outcome = Unit {0}
IsUnsynced (Fill dir path count byte) outcome = Unit {0}
IsUnsynced (Remove dir path) outcome = Unit {0}

abbrev pub NoneSynced : List LineDone → Type 0
NoneSynced [] = Unit {0}
NoneSynced (done ∷ more) = IsUnsynced done.line done.outcome × NoneSynced more

-- The lines were done since base, where the disk held one of the logs and read this one.
pub data RefinedAlong (base disk : DiskState) (held : List Log) (log : Log) (done : List LineDone) : Type 0 where
  -- no command has synced the gate, and a stop leaves what stands for a log that was held
  unsynced : NoneSynced done → Leaves StandsForLog base disk held → RefinedAlong base disk held log done
  -- from the first sync on a stop leaves what stands for the log that was read, and then for the log after each line in turn
  synced : SinceSync StandsForLog base disk held (λ (s : ℕ). KeptAlong StandsForLog disk s log (reached done)) → Holds StandsForLog disk (held_along log (reached done))
      → RefinedAlong base disk held log done

-- What the disk holds after the lines, so that a next call can go on.
pub record HoldsAfter (disk : DiskState) (held : List Log) (log : Log) (done : List LineDone) : Type 0 where
  -- the logs that were held, where no command has synced the gate; else some of those that the lines may leave
  pub logs : List Log
  pub are : (NoneSynced done × (logs ≡ held)) ⊎ ((l : Log) → Contains logs l → Contains (held_along log (reached done)) l)
  -- it reads one that is legal, and so are all that it may hold
  pub read : Log
  pub holds : HoldsLegal disk logs read
  -- the baselines of each were built, tested and reviewed as required
  pub provided : All Provenance logs
