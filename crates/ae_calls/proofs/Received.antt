-- A call that receives, once it is done.
use Rattle.std.proofs.Common.{◌≡◌, inl, inr, ℕ, refl, sym, ◌∙◌, ap, List, Option, Some, None}
use Rattle.std.proofs.lemmas.Option.{same_Some}
use Rattle.ae_base.specs.declared.outcome.Outcome.{Outcome}
use Rattle.ae_base.specs.declared.outcome.Outcome.TheVariants.{Done, Memory}
use Rattle.ae_base.specs.declared.refusal.Refusal.{Refusal}
use Rattle.ae_base.specs.declared.want.Want.TheVariants.{Nothing}
use Rattle.ae_bundle.specs.declared.bundle.Bundle.{Bundle}
use Rattle.ae_dist.specs.Answers.{Plans}
use Rattle.ae_dist.specs.Plan.{free_number}
use Rattle.ae_dist.specs.Receiving.{IsReceived, IsUnread, not_understood, source_fault}
use Rattle.ae_dist.specs.Receiving as receiving
use Rattle.ae_exec.specs.Endings.{EndsAs}
use Rattle.ae_exec.specs.Endings as ending
use Rattle.ae_exec.specs.Holding.{HoldsLegal}
use Rattle.ae_exec.specs.Shown.{Shown}
use Rattle.ae_exec.proofs.Shown.{log-shown}
use Rattle.ae_exec.proofs.Stores.{one}
use Rattle.ae_lines.specs.declared.act.Act.{Act}
use Rattle.ae_log.specs.Log.{Log}
use Rattle.ae_log.specs.Observed.{observation}
use Rattle.ae_outside.specs.State.{reads}
use Rattle.ae_script.specs.Acts.{ActsDone}
use Rattle.ae_script.specs.Follows.{IsLogged, Looks}
use Rattle.ae_script.specs.Lines.{Did, Stand, stand}
use Rattle.ae_script.specs.Uses.{Disks, Sites, SourceUse, Streams, read_from, written_from}
use Rattle.ae_script.specs.declared.manner.Manner.{Manner}
use Rattle.ae_script.specs.declared.manner.Manner.TheVariants.{Plan}
use Rattle.ae_script.proofs.Telling.{meant_done}
use Rattle.ae_session.specs.Called.{IsAsked, ReceiveDone, planned, start, unplanned, unread}
use Rattle.ae_session.specs.Called as asking
use Rattle.ae_session.specs.Devices.{Standard, Workspace, err_use}
use Rattle.ae_session.specs.Request.{Asked, AsksForReceiving}
use Rattle.ae_telling.specs.Answered.{IsMeant, IsWhyTold}
use Rattle.ae_telling.specs.Telling.{SinkUse}
use Rattle.ae_types.specs.Observation.{Observation}
use Rattle.ae_types.specs.Part.{part, part_of}
use Rattle.ae_words.specs.declared.table.Function.TheVariants as function
use Rattle.ae_calls.specs.Received.{CallsReceiveAsSent, WasReceived}
use Rattle.ae_calls.proofs.AskedOnce.{never-one, never-other}
use Rattle.ae_received.specs.Laws.{ArePlan}
use Rattle.ae_received.proofs.Received.{logged-as-sent}

-- ---- what isn't done isn't told as done

unread-not-done : (told : Type 0) (before : List ℕ) (rose : Type 0) (why : Outcome) → IsUnread told before rose why → why ≡ Done → ⊥
unread-not-done told before rose _ (not_understood none) is = cc
unread-not-done told before rose _ (source_fault failed) is = cc
unread-not-done told before rose _ receiving.memory is = cc

failed-not-done : (R : Refusal → Type 0) (M : List ℕ → Type 0) (X : Type 0) (why : Outcome) → EndsAs ⊥ ⊥ R M X ⊥ why → why ≡ Done → ⊥
failed-not-done R M X _ (ending.done none) is = none
failed-not-done R M X _ (ending.run_failed none) is = none
failed-not-done R M X _ (ending.refused refusal so) is = cc
failed-not-done R M X _ (ending.damaged name so) is = cc
failed-not-done R M X _ (ending.disk_fault rose) is = cc
failed-not-done R M X _ (ending.site_fault none) is = none
failed-not-done R M X _ ending.memory is = cc

pub why-not-done : (why : Outcome) (err : SinkUse) → (why ≡ Done → ⊥) → IsWhyTold why err Done → ⊥
why-not-done why err never told = go told.is_meant (meant_done told.meant Done err.rose refl told.is_told.how)
  where
    go : IsMeant why told.meant → told.meant ≡ Done → ⊥
    go (inl same) is = never (sym same ∙ is)
    go (inr lacking) is = let both : Memory ≡ Done = sym lacking.0 ∙ is in cc

-- ---- what stood

-- what a disk shows of no change is of what stands after the log that it held
pub shown-of-log : (d : Disks) (disk : d.Disk) (held : List Log) (log : Log) (o : Observation) → HoldsLegal (d.state disk) held log → Shown Nothing (reads (d.state disk)) (Some o)
    → (stood : Observation) × (observation log ≡ Some stood) × (o ≡ part Nothing stood)
shown-of-log d disk held log o holds shown =
    by (observation log) refl (one Nothing (reads (d.state disk)) (Some o) (part_of Nothing (observation log)) shown (log-shown Nothing (reads (d.state disk)) log holds.holds.stands).shown)
  where
    by : (x : Option Observation) → observation log ≡ x → Some o ≡ part_of Nothing x → (stood : Observation) × (observation log ≡ Some stood) × (o ≡ part Nothing stood)
    by (Some stood) stands same = (stood, stands, same_Some o (part Nothing stood) same)
    by None stands same = absurd (let none : Some o ≡ None = same in cc)

module _ (d : Disks) (s : Sites) (i o e : Streams) (from : Stand d s) (disk : d.Disk) (site : s.Site) (input input_new : i.Stream) (out out_new : o.Stream) (err err_new : e.Stream) (seen : d.told) (shown : s.told) (told : i.told) (held : List Log) (log : Log)
    (holds : HoldsLegal (d.state from.disk) held log) where
  Input : SourceUse
  Input = read_from i input input_new

  planned-as-sent : (name : Option (List ℕ)) (bundle : Bundle) (begun : Stand d s) (acts : List Act) → IsReceived i.told (i.bytes input) (i.bytes input_new) bundle → Looks d s from begun → (d.told → Plans (reads (d.state from.disk)) name bundle acts)
      → (did : ActsDone d s Plan acts begun (stand d s from.who from.now disk site) (written_from e err err_new) Done) → (logged : IsLogged d s Plan from did.done disk held log) → WasReceived (i.bytes input) log from.who logged.holds.read (s.state site)
  planned-as-sent name bundle begun acts received look plans did logged =
      let text = received.text told in
      let made = plans seen in
      let stood = shown-of-log d from.disk held log made.o holds made.shown in
      let plan : ArePlan stood.0 made.is.number bundle acts = record { fits = text.0; seen = made.o; sees = inl stood.2; free = made.is.free; are = made.is.is } in
      record {
        bundle = bundle;
        is_text = text;
        stood = stood.0;
        stands = stood.1;
        number = made.is.number;
        free = sym (ap free_number stood.2) ∙ made.is.free;
        received = logged-as-sent d s e stood.0 made.is.number bundle acts plan from begun (stand d s from.who from.now disk site) look.same err err_new Done did refl shown held log holds.holds.legal stood.1 logged;
      }

  received-so : (name : Option (List ℕ)) (begun : Stand d s) (done : List (Did d s)) → ReceiveDone d s name from disk site (read_from i input input_new) (written_from e err err_new) Done begun done → (logged : IsLogged d s Plan from done disk held log)
      → WasReceived (i.bytes input) log from.who logged.holds.read (s.state site)
  received-so name _ _ (unread why is disk_is site_is why_told) logged = absurd (why-not-done why (written_from e err err_new) (unread-not-done _ _ _ why is) why_told)
  received-so name _ _ (unplanned bundle why received none look opened site_is why_told) logged = absurd (why-not-done why (written_from e err err_new) (failed-not-done _ _ _ why none.caused) why_told)
  received-so name _ _ (planned bundle begun acts received look opened plans did) logged = planned-as-sent name bundle begun acts received look plans did logged

module _ (d : Disks) (s : Sites) (i o e : Streams) (asked : Asked) (workspace : Workspace d s) (streams : Standard i o e) (seen : d.told) (shown : s.told) (told : i.told) (held : List Log) (log : Log) (holds : HoldsLegal (d.state workspace.disk.old) held log)
    (name : Option (List ℕ)) (asks : AsksForReceiving asked name) where
  abbrev begins : Stand d s
  begins = start asked workspace

  asked-so : (manner : Manner) (begun : Stand d s) (done : List (Did d s)) → IsAsked asked workspace streams Done manner begun done → (logged : IsLogged d s manner begins done workspace.disk.new held log)
      → WasReceived (i.bytes streams.input.old) log asked.who logged.holds.read (s.state workspace.site.new)
  asked-so _ _ _ (asking.receiving other begun done asked_so did few quiet) logged =
      received-so d s i o e begins workspace.disk.new workspace.site.new streams.input.old streams.input.new streams.out.old streams.out.new streams.err.old streams.err.new seen shown told held log holds other begun done did logged
  asked-so _ _ _ (asking.command c one did) logged = absurd (never-one asked.words c asks.command one.said asks.said function.DistributionReceive asks.receives refl one.one)
  asked-so _ _ _ (asking.script one did quiet) logged = absurd (never-other asked.words one.command asks.command one.said asks.said function.DistributionReceive asks.receives function.Script (λ is. cc) one.is_script)
  asked-so _ _ _ (asking.project number changes files one made) logged = absurd (never-other asked.words one.command asks.command one.said asks.said function.DistributionReceive asks.receives function.Generate (λ is. cc) one.generates)
  asked-so _ _ _ (asking.audit one did) logged = absurd (never-other asked.words one.command asks.command one.said asks.said function.DistributionReceive asks.receives function.Audit (λ is. cc) one.audits)
  asked-so _ _ _ (asking.report wanted one did) logged = absurd (never-other asked.words one.command asks.command one.said asks.said function.DistributionReceive asks.receives function.Report (λ is. cc) one.reports)
  asked-so _ _ _ (asking.sending other number one did) logged = absurd (never-other asked.words one.command asks.command one.said asks.said function.DistributionReceive asks.receives function.DistributionSend (λ is. cc) one.sends)
  asked-so _ _ _ (asking.wanting only) logged = absurd (let lacking : Memory ≡ Done = meant_done Memory Done err_rose refl only.told.how in cc)
    where
      err_rose : Type 0
      err_rose = (err_use streams).rose

pub calls-receive : (d : Disks) (s : Sites) (i o e : Streams) → CallsReceiveAsSent d s i o e
calls-receive d s i o e asked name asks workspace streams call seen shown told held log holds = asked-so d s i o e asked workspace streams seen shown told held log holds name asks call.manner call.begun call.done call.is (call.logs seen shown held log holds)
