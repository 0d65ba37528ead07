-- That what lines of a script came to outlasts every stop.
use Rattle.std.specs.Prelude.{◌≡◌, ◌++◌, ℕ, ◌≤◌, List, ◌∷◌, Contains}
use Rattle.ae_base.specs.declared.outcome.Outcome.{Outcome}
use Rattle.ae_exec.specs.Holding.{HoldsLegal}
use Rattle.ae_exec.specs.Stands.{StandsForLog}
use Rattle.ae_log.specs.Log.{Log, followed}
use Rattle.ae_log.specs.declared.event.Event.{Event}
use Rattle.ae_outside.specs.Image.{Image}
use Rattle.ae_script.specs.Ends.{ScriptDone}
use Rattle.ae_script.specs.Follows.{IsLogged}
use Rattle.ae_script.specs.Lines.{AllLead, Did, Stand, last_stand}
use Rattle.ae_script.specs.Uses.{Disks, Sites, Streams, read_from, written_from}
use Rattle.ae_script.specs.declared.manner.Manner.{Manner}

-- the log is one of these, with any events after it
pub record GoesOnFrom (logs : List Log) (log : Log) : Type 0 where
  pub from : Log
  pub among : Contains logs from
  pub events : List Event
  pub is : log ≡ followed from events

-- the image stands for a log that goes on from one of these
pub record HasLog (logs : List Log) (image : Image) : Type 0 where
  pub log : Log
  pub goes_on : GoesOnFrom logs log
  pub stands : StandsForLog image log

module _ (d : Disks) (s : Sites) where
  -- The first lines led from one log to the one that the disk read once they were done, and to those that it held, which differ from it only
  -- where no command of them was done. Each image that the disk had from that moment on stands for a log that goes on from one of these.
  pub record Outlast (manner : Manner) (from : Stand d s) (first : List (Did d s)) (disk : d.Disk) (held : List Log) (log : Log) : Type 0 where
    pub logged : IsLogged d s manner from first (last_stand d s from first).disk held log
    pub since : (u : ℕ) (image : Image) → (d.state (last_stand d s from first).disk).moment ≤ u → u ≤ (d.state disk).moment → (d.state disk).image_at u image → HasLog (logged.holds.read ∷ logged.holds.logs) image

module _ (d : Disks) (s : Sites) (i o : Streams) where
  -- So it is of a script, wherever its lines are parted into those that were done, after each of which another may come, and the rest.
  abbrev pub DoneLinesOutlast : Type 0
  DoneLinesOutlast =
      (manner : Manner) (from : Stand d s) (disk : d.Disk) (site : s.Site) (input left : i.Stream) (out taken : o.Stream) (result : Outcome)
      → (did : ScriptDone d s manner from disk site (read_from i input left) (written_from o out taken) result) → d.told → s.told
      → (first rest : List (Did d s)) → did.done ≡ first ++ rest → AllLead d s manner first → (held : List Log) (log : Log) → HoldsLegal (d.state from.disk) held log
      → Outlast d s manner from first disk held log
