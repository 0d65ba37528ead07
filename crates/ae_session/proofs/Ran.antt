-- A call that ends with a failed run may make runs.
use Rattle.std.specs.Prelude.{◌≡◌, ◌≢◌, ℕ, Bool, List, Option}
use Rattle.std.proofs.lemmas.Bool.{false≢true}
use Rattle.ae_base.specs.declared.outcome.Outcome.{Outcome}
use Rattle.ae_base.specs.declared.outcome.Outcome.TheVariants.{Done, RunFailed, Refused, DiskFault, Damaged, Memory}
use Rattle.ae_base.specs.declared.refusal.Refusal.TheVariants.{NoProject, NotShown}
use Rattle.ae_audit.specs.Audits.{Answer}
use Rattle.ae_audit.specs.declared.error.AuditError.{AuditError}
use Rattle.ae_audit.specs.declared.error.AuditError.TheVariants as audit
use Rattle.ae_audited.specs.Telling.{Means, outcome_of}
use Rattle.ae_audited.specs.Telling as audited
use Rattle.ae_exec.proofs.Unfailed.{failed-so}
use Rattle.ae_outside.specs.State.{reads}
use Rattle.ae_reporting.specs.Reports.{Asked as AskedReport}
use Rattle.ae_reporting.proofs.Told.{Ended, ended}
use Rattle.ae_telling.specs.Sinks.{told_to}
use Rattle.ae_telling.specs.Telling.{SinkUse}
use Rattle.ae_exec.specs.Said.{is_listing}
use Rattle.ae_words.specs.declared.command.Command.{Command}
use Rattle.ae_script.specs.Lines.{Stand}
use Rattle.ae_script.specs.Uses.{Disks, Sites, Streams}
use Rattle.ae_script.proofs.Unfailed.{meant_failed}
use Rattle.ae_session.specs.Called.{AuditDone, CommandCalled, ReportDone, SendDone}
use Rattle.ae_session.specs.Devices.{Standard, Workspace, disk_rose, err_use, out_use, site_rose}
use Rattle.ae_session.specs.Request.{Asked, AsksFor, MayMakeRuns}
use Rattle.ae_session.specs.Request as request
use Rattle.ae_session.proofs.Sent.{sent_ended}

-- a command alone makes runs where one fails
pub command_ran : (d : Disks) (s : Sites) (asked : Asked) (c : Command) → AsksFor asked c → (from : Stand d s) (disk : d.Disk) (site : s.Site) (out err : SinkUse) (result : Outcome) → CommandCalled d s c from disk site out err result
    → result ≡ RunFailed → MayMakeRuns asked
command_ran d s asked c asks from disk site out err result one is =
    request.command c asks (failed-so one.outcome one.is.ends (meant_failed one.outcome result (told_to (is_listing c.function one.outcome) out err).rose one.told.how is))

-- the outcomes of an audit
error_unfailed : (e : AuditError) → outcome_of e ≢ RunFailed
error_unfailed audit.NoProject is = let both : Refused NoProject ≡ RunFailed = is in cc
error_unfailed (audit.NotShown n) is = let both : Refused (NotShown n) ≡ RunFailed = is in cc
error_unfailed (audit.Damaged name) is = let both : Damaged name ≡ RunFailed = is in cc
error_unfailed audit.DiskFault is = let both : DiskFault ≡ RunFailed = is in cc
error_unfailed audit.Memory is = let both : Memory ≡ RunFailed = is in cc

means_unfailed : (answer : Answer) (meant : Outcome) (text : List ℕ) (to_out : Bool) → Means answer meant text to_out → meant ≢ RunFailed
means_unfailed _ _ _ _ (audited.lines rows) is = let both : Done ≡ RunFailed = is in cc
means_unfailed _ _ _ _ (audited.error e) is = error_unfailed e is
means_unfailed _ _ _ _ (audited.wanting answer) is = let both : Memory ≡ RunFailed = is in cc

-- one that was meant of those that fail no run
ended_unfailed : (disk_rose site_rose : Type 0) (out err : SinkUse) (result : Outcome) → Ended disk_rose site_rose out err result → result ≢ RunFailed
ended_unfailed _ _ out err result e is = false≢true (failed-so e.meant e.may_end (meant_failed e.meant result _ e.how is))

module _ {d : Disks} {s : Sites} {i o e : Streams} (workspace : Workspace d s) (streams : Standard i o e) (result : Outcome) where
  pub audit_unfailed : AuditDone workspace streams result → result ≢ RunFailed
  audit_unfailed did is =
      means_unfailed did.told.answer did.told.meant did.told.text did.told.to_out did.told.means
      (meant_failed did.told.meant result (told_to did.told.to_out (out_use streams) (err_use streams)).rose did.told.told.how is)

  pub report_unfailed : (wanted : AskedReport) → ReportDone wanted workspace streams result → result ≢ RunFailed
  report_unfailed wanted did =
      ended_unfailed (disk_rose workspace) (site_rose workspace) (out_use streams) (err_use streams) result
      (ended d.told s.told (reads (d.state workspace.disk.old)) (s.state workspace.site.old) wanted (disk_rose workspace) (site_rose workspace) (out_use streams) (err_use streams) result did.told)

  pub sending_unfailed : (name : Option (List ℕ)) (number : ℕ) → SendDone name number workspace streams result → result ≢ RunFailed
  sending_unfailed name number did =
      ended_unfailed (disk_rose workspace) ⊥ (out_use streams) (err_use streams) result
      (sent_ended d.told (reads (d.state workspace.disk.old)) name number (disk_rose workspace) (out_use streams) (err_use streams) result did.told)
