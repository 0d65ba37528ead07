-- One line, where the disk holds legal logs, and what the lines so far left of it.
use Rattle.std.specs.Prelude.{◌≡◌, ◌≢◌, ℕ, List, [], ◌∷◌, true, Contains}
use Rattle.ae_base.specs.declared.outcome.Outcome.{Outcome}
use Rattle.ae_base.specs.declared.outcome.Outcome.TheVariants.{DiskFault}
use Rattle.ae_outside.specs.Site.{SiteState}
use Rattle.ae_outside.specs.State.{DiskState}
use Rattle.ae_lines.specs.declared.line.Line.{Line}
use Rattle.ae_log.specs.Log.{Log}
use Rattle.ae_exec.specs.Holding.{HoldsLegal}
use Rattle.ae_exec.specs.Refined.{SinceSync}
use Rattle.ae_exec.specs.Stands.{StandsForLog}
use Rattle.ae_exec.specs.Stops.{Leaves}
use Rattle.ae_script.specs.Along.{KeptAlong, held_along}
use Rattle.ae_script.specs.Manner.{leads_on}
use Rattle.ae_script.specs.Refined.{HoldsAfter, NoneSynced, RefinedAlong}
use Rattle.ae_script.specs.Steps.{Point, point, LineDone, Does, reached}
use Rattle.ae_script.specs.declared.manner.Manner.{Manner}

-- The lines were done since base, and the disk now holds one of these.
pub data KeptSoFar (base disk : DiskState) (held : List Log) (log : Log) (done : List LineDone) (now : List Log) : Type 0 where
  -- no command has synced the gate
  fresh : NoneSynced done → Leaves StandsForLog base disk held → now ≡ held → KeptSoFar base disk held log done now
  since : SinceSync StandsForLog base disk held (λ (s : ℕ). KeptAlong StandsForLog disk s log (reached done)) → now ≡ held_along log (reached done) → KeptSoFar base disk held log done now

-- What one line did, where the disk held one of these logs and read that of the point. After it these are the user and the moment.
pub record StepDone (manner : Manner) (from : Point) (line : Line) (held : List Log) (base disk : DiskState) (site : SiteState) (who : List ℕ) (now : ℕ) (outcome : Outcome) (text : List ℕ) : Type 0 where
  pub done : LineDone
  pub is_line : done.line ≡ line
  pub is_outcome : done.outcome ≡ outcome
  pub is_text : done.text ≡ text
  pub does : Does manner from done
  pub to : done.to ≡ point who now done.to.log site
  pub refined : RefinedAlong base disk held from.log (done ∷ [])
  pub holds : HoldsAfter disk held from.log (done ∷ [])
  pub reads : outcome ≢ DiskFault → holds.read ≡ done.to.log
  pub among : outcome ≡ DiskFault → Contains holds.logs holds.read
  -- where the next line is done, the disk holds these logs and reads the one after this line
  pub goes : leads_on manner outcome ≡ true
      → (later : List Log) × KeptSoFar base disk held from.log (done ∷ []) later × HoldsLegal disk later done.to.log
