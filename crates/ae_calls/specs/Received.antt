-- What holds of every call of the program that receives.
use Rattle.std.specs.Prelude.{◌≡◌, ℕ, List, Option, Some}
use Rattle.ae_base.specs.declared.outcome.Outcome.TheVariants.{Done}
use Rattle.ae_bundle.specs.Bundled.{Bundled}
use Rattle.ae_bundle.specs.declared.bundle.Bundle.{Bundle}
use Rattle.ae_dist.specs.Plan.{free_number}
use Rattle.ae_exec.specs.Holding.{HoldsLegal}
use Rattle.ae_log.specs.Files.{version_bytes}
use Rattle.ae_log.specs.Log.{Log}
use Rattle.ae_log.specs.Observed.{observation}
use Rattle.ae_outside.specs.Site.{SiteState}
use Rattle.ae_outside.specs.declared.dir.Dir.TheVariants.{Develop}
use Rattle.ae_script.specs.Uses.{Disks, Sites, Streams}
use Rattle.ae_session.specs.Called.{CallDone}
use Rattle.ae_session.specs.Devices.{Standard, Workspace}
use Rattle.ae_session.specs.Request.{Asked, AsksForReceiving}
use Rattle.ae_types.specs.Observation.{Observation}
use Rattle.ae_received.specs.Received.{HasReceived}

-- The text is that of a change set, and the next log has a change that is what was sent, beside what stood after the log before.
pub record WasReceived (text : List ℕ) (log : Log) (who : List ℕ) (next : Log) (site : SiteState) : Type 0 where
  pub bundle : Bundle
  pub is_text : Bundled text bundle
  pub stood : Observation
  pub stands : observation log ≡ Some stood
  pub number : ℕ
  -- the change is new: its number is the least that none has
  pub free : free_number stood ≡ Some number
  pub received : HasReceived stood (version_bytes log) bundle number who next (site.trees (Develop number))

module _ (d : Disks) (s : Sites) (i o e : Streams) where
  -- Where the words ask that a change set be received, and the call ends with Done on a disk that held legal logs and read one: its
  -- input is the text of a change set, and the log that the disk reads then has the change as it was sent.
  abbrev pub CallsReceiveAsSent : Type 0
  CallsReceiveAsSent =
      (asked : Asked) (name : Option (List ℕ)) → AsksForReceiving asked name → (workspace : Workspace d s) (streams : Standard i o e) (call : CallDone asked workspace streams Done)
      → (seen : d.told) (shown : s.told) → i.told → (held : List Log) (log : Log) (holds : HoldsLegal (d.state workspace.disk.old) held log)
      → WasReceived (i.bytes streams.input.old) log asked.who (call.logs seen shown held log holds).holds.read (s.state workspace.site.new)
