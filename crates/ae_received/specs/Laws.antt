-- What is so of every change that is received.
use Rattle.std.specs.Prelude.{◌≡◌, ◌⊎◌, ℕ, List, Some}
use Rattle.ae_base.specs.declared.outcome.Outcome.TheVariants.{Done}
use Rattle.ae_base.specs.declared.outcome.Outcome.{Outcome}
use Rattle.ae_base.specs.declared.want.Want.TheVariants.{Nothing}
use Rattle.ae_bundle.specs.Bundled.{Fits}
use Rattle.ae_bundle.specs.declared.bundle.Bundle.{Bundle}
use Rattle.ae_dist.specs.Plan.{free_number, plan_of}
use Rattle.ae_exec.specs.Holding.{HoldsLegal}
use Rattle.ae_lines.specs.declared.act.Act.{Act}
use Rattle.ae_log.specs.Files.{version_bytes}
use Rattle.ae_log.specs.Log.{Log}
use Rattle.ae_log.specs.Observed.{observation}
use Rattle.ae_outside.specs.declared.dir.Dir.TheVariants.{Develop}
use Rattle.ae_script.specs.Acts.{ActsDone}
use Rattle.ae_script.specs.Lines.{Stand}
use Rattle.ae_script.specs.Uses.{Disks, Sites, Streams, written_from}
use Rattle.ae_script.specs.declared.manner.Manner.TheVariants.{Plan}
use Rattle.ae_types.specs.Observation.{Observation}
use Rattle.ae_types.specs.Part.{part}
use Rattle.ae_types.specs.Trees.{baseline_of}
use Rattle.ae_received.specs.Received.{HasReceived}

-- The acts are the plan of a change set that has a text, for the least free number; it was made over what stood, or over that without
-- its changes.
pub record ArePlan (stood : Observation) (number : ℕ) (bundle : Bundle) (acts : List Act) : Type 0 where
  pub fits : Fits bundle
  pub seen : Observation
  pub sees : (seen ≡ part Nothing stood) ⊎ (seen ≡ stood)
  pub free : free_number seen ≡ Some number
  pub are : acts ≡ plan_of (baseline_of seen) number bundle

module _ (d : Disks) (s : Sites) (o : Streams) where
  -- Where the acts of a plan end with Done, on a disk that held legal logs and read one after which this stood: the log that the disk
  -- reads then has the change as it was sent, and the develop directory its files.
  abbrev pub ReceivedAreAsSent : Type 0
  ReceivedAreAsSent =
      (stood : Observation) (number : ℕ) (bundle : Bundle) (acts : List Act) → ArePlan stood number bundle acts
      → (from to : Stand d s) (old new : o.Stream) (result : Outcome) (done : ActsDone d s Plan acts from to (written_from o old new) result) → result ≡ Done
      → (seen : d.told) (shown : s.told) (held : List Log) (log : Log) (holds : HoldsLegal (d.state from.disk) held log) → observation log ≡ Some stood
      → HasReceived stood (version_bytes log) bundle number from.who (done.logs seen shown held log holds).holds.read ((s.state to.site).trees (Develop number))
