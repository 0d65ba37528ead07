-- Lines that are done on a disk that holds legal logs: each is one step of the log machine.
use Rattle.std.specs.Prelude.{◌≡◌, ◌≤◌, ◌⊎◌, List, [], ◌∷◌, Contains}
use Rattle.ae_base.specs.declared.outcome.Outcome.TheVariants.{DiskFault}
use Rattle.ae_outside.specs.State.{Continues, DiskState, reads}
use Rattle.ae_vault.specs.Kept.{Holds}
use Rattle.ae_log.specs.Log.{Log}
use Rattle.ae_exec.specs.Holding.{HoldsLegal}
use Rattle.ae_exec.specs.Migrated.{AgreesInFormat}
use Rattle.ae_exec.specs.Performs.{LeavesDisk}
use Rattle.ae_exec.specs.Stands.{StandsForLog}
use Rattle.ae_exec.specs.Stops.{IsSettledNow, Leaves}
use Rattle.ae_script.specs.Lines.{Did, Stand}
use Rattle.ae_script.specs.Refined.{HoldsAfter, RefinedAlong}
use Rattle.ae_script.specs.Steps.{LineDone, Runs, point, stop}
use Rattle.ae_script.specs.Uses.{Disks, Sites}
use Rattle.ae_script.specs.declared.manner.Manner.{Manner}

-- the disk failed the last of these
abbrev pub LastFailed : List LineDone → Type 0
LastFailed [] = ⊥
LastFailed (done ∷ []) = done.outcome ≡ DiskFault
LastFailed (done ∷ next ∷ more) = LastFailed (next ∷ more)

-- From one disk to another nothing happens to a log: time goes on; a stop leaves what stands for a log that was held, and the disk
-- holds that; it is settled and its images agree in their format, where they were; and it reads the log that it read.
pub record StaysAsItWas (base disk : DiskState) : Type 0 where
  pub time : Continues base disk
  pub kept : (held : List Log) → Holds StandsForLog base held → Leaves StandsForLog base disk held
  pub settled : IsSettledNow base → IsSettledNow disk
  pub in_format : IsSettledNow base → AgreesInFormat base → AgreesInFormat disk
  pub reads_on : (log : Log) → StandsForLog (reads base) log → StandsForLog (reads disk) log

module _ (d : Disks) (s : Sites) where
  -- a step of the log machine is that of this line
  pub record IsStepOf (done : Did d s) (step : LineDone) : Type 0 where
    pub line : step.line ≡ done.line
    pub outcome : step.outcome ≡ done.outcome
    pub text : step.text ≡ done.text
    pub to : step.to ≡ point done.to.who done.to.now step.to.log (s.state done.to.site)

  abbrev pub AreStepsOf : List (Did d s) → List LineDone → Type 0
  AreStepsOf [] [] = Unit {0}
  AreStepsOf (done ∷ more) (step ∷ steps) = IsStepOf done step × AreStepsOf more steps
  AreStepsOf [] (step ∷ steps) = ⊥
  AreStepsOf (done ∷ more) [] = ⊥

  -- What the lines come to that were done from this stand on, and left this disk, where the one before held one of these logs and read
  -- this one.
  pub record IsLogged (manner : Manner) (from : Stand d s) (done : List (Did d s)) (disk : d.Disk) (held : List Log) (log : Log) : Type 0 where
    -- each is one step of the log machine from where the one before it led
    pub steps : List LineDone
    pub are : AreStepsOf done steps
    pub runs : Runs manner (point from.who from.now log (s.state from.site)) steps
    -- time goes on; wherever they are stopped, what is left stands for the log after some of them, in their order
    pub time : Continues (d.state from.disk) (d.state disk)
    pub refined : RefinedAlong (d.state from.disk) (d.state disk) held log steps
    -- and what the disk holds then: it reads the log after the last line, or where it failed that one it may hold one of two
    pub holds : HoldsAfter (d.state disk) held log steps
    pub reads : (holds.read ≡ (stop (point from.who from.now log (s.state from.site)) steps).log) ⊎ (LastFailed steps × Contains holds.logs holds.read)

  abbrev pub FollowLogs : Manner → Stand d s → List (Did d s) → d.Disk → Type 0
  FollowLogs manner from done disk = (held : List Log) (log : Log) → HoldsLegal (d.state from.disk) held log → IsLogged manner from done disk held log

  -- From one stand to another nothing happens to a log, whatever else is written on the disk.
  pub record Stays (from to : Stand d s) : Type 0 where
    pub same : to ≡ record from { disk = to.disk }
    pub later : d.faults from.disk ≤ d.faults to.disk
    pub stays : d.told → StaysAsItWas (d.state from.disk) (d.state to.disk)

  -- lines that are done after that follow the logs from its start
  abbrev pub StaysFollow : Type 0
  StaysFollow = (manner : Manner) (from begun : Stand d s) (done : List (Did d s)) (disk : d.Disk) → Stays from begun → d.told → FollowLogs manner begun done disk → FollowLogs manner from done disk

  -- From one stand to another the disk is read, and nothing written there but what a recovery and a migration write: as a plan is
  -- made, or the store loaded.
  pub record Looks (from to : Stand d s) : Type 0 where
    pub same : to ≡ record from { disk = to.disk }
    pub later : d.faults from.disk ≤ d.faults to.disk
    pub leaves : d.told → LeavesDisk (d.state from.disk) (d.state to.disk) (Unit {0})

  -- so nothing happens to a log, and lines that are done after that follow the logs from its start
  abbrev pub LooksStay : Type 0
  LooksStay = (from to : Stand d s) → Looks from to → Stays from to

  abbrev pub LooksFollow : Type 0
  LooksFollow = (manner : Manner) (from begun : Stand d s) (done : List (Did d s)) (disk : d.Disk) → Looks from begun → d.told → FollowLogs manner begun done disk → FollowLogs manner from done disk
