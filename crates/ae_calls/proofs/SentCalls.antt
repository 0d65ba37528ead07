-- A call that is asked to send a change that a legal log completed ends with Done, unless a device failed or memory ran out.
use Rattle.std.proofs.Common.{◌≡◌, ◌⊎◌, inl, inr, ℕ, refl, sym, ◌∙◌, ap, subst, List, [], ◌∷◌, map, Option, Some, None}
use Rattle.std.specs.Prelude.{Result, if◌then◌else◌}
use Rattle.std.specs.List.{cons_option}
use Rattle.std.specs.Option.{option_and_then}
use Rattle.std.proofs.lemmas.Option.{same_Some}
use Rattle.ae_base.specs.declared.outcome.Outcome.{Outcome}
use Rattle.ae_base.specs.declared.outcome.Outcome.TheVariants.{DiskFault, Done, Memory}
use Rattle.ae_base.specs.declared.refusal.Refusal.{Refusal}
use Rattle.ae_base.specs.declared.refusal.Refusal.TheVariants.{WrongProject}
use Rattle.ae_base.specs.declared.want.Want.TheVariants.{One}
use Rattle.ae_dist.specs.Answers.{AnswersWriting, DamagedSending, RefusesSending, store, version}
use Rattle.ae_dist.specs.Sending.{delta_made, is_other, or_refuses, refuses_change, refuses_sending, sent_row, sent_rows, version_at, versions_of}
use Rattle.ae_exec.specs.Endings.{EndsAs}
use Rattle.ae_exec.specs.Endings as ending
use Rattle.ae_exec.specs.Reading.{AreKept, IsKept}
use Rattle.ae_exec.specs.Shown.{Shown}
use Rattle.ae_exec.specs.Stands.{StandsForLog, version_in}
use Rattle.ae_exec.proofs.Commands.{legal-made}
use Rattle.ae_exec.proofs.Completing.{never_damaged}
use Rattle.ae_exec.proofs.ReadInOrder.{kept-not-lost}
use Rattle.ae_exec.proofs.ReadVersions.{standing-kept}
use Rattle.ae_exec.proofs.Shown.{log-shown}
use Rattle.ae_exec.proofs.Stores.{one}
use Rattle.ae_log.specs.Log.{Log}
use Rattle.ae_machine.specs.Legal.{Legal}
use Rattle.ae_outside.specs.Image.{Image}
use Rattle.ae_outside.specs.State.{reads}
use Rattle.ae_script.specs.Lines.{Did, Stand}
use Rattle.ae_script.specs.Uses.{Disks, Sites, Streams}
use Rattle.ae_script.specs.declared.manner.Manner.{Manner}
use Rattle.ae_session.specs.Called.{IsAsked, SendDone}
use Rattle.ae_session.specs.Called as asking
use Rattle.ae_session.specs.Devices.{Standard, Workspace, disk_rose, err_rose, err_use, out_rose, out_use}
use Rattle.ae_session.specs.Request.{Asked, AsksForSending}
use Rattle.ae_telling.specs.Answered.{IsAnswerTold, IsMeant, done, stopped}
use Rattle.ae_telling.specs.Telling.{SinkUse, unless_told}
use Rattle.ae_types.specs.declared.change.Change.{Change}
use Rattle.ae_types.specs.declared.change.ChangeFile.{ChangeFile}
use Rattle.ae_types.specs.declared.file_table.FileRow.{FileRow}
use Rattle.ae_types.specs.declared.file_table.FileVersion.{FileVersion}
use Rattle.ae_types.specs.declared.version.VersionRef.{VersionRef}
use Rattle.ae_types.specs.Found.{change_at, entry_in, row_in}
use Rattle.ae_types.specs.Observation.{Observation}
use Rattle.ae_types.specs.Part.{is_wanted, part, part_of}
use Rattle.ae_types.specs.Trees.{past_in}
use Rattle.ae_types.specs.Versions.{in_table}
use Rattle.ae_types.proofs.Keys.{by_number}
use Rattle.ae_types.proofs.Restricted.{found-wanted}
use Rattle.ae_vault.specs.Vault.{effective}
use Rattle.ae_words.specs.declared.command.Command.{Command}
use Rattle.ae_words.specs.declared.table.Function.{Function}
use Rattle.ae_words.specs.declared.table.Function.TheVariants as function
use Rattle.ae_words.proofs.FirstBad.{one_command}
use Rattle.ae_calls.specs.Sent.{CompletedAreSent, EndsSent, HasCompleted, disk_fault, memory, sink_fault}
use Rattle.ae_calls.specs.Sent as sent
use Rattle.ae_calls.proofs.AskedOnce.{never-one, never-other}
use Rattle.ae_calls.proofs.Sent.{completed-sent}

-- ---- what the disk's files say

module _ (image : Image) (log : Log) (legal : Legal log) (stands : StandsForLog image log) (name : Option (List ℕ)) (number : ℕ) (has : HasCompleted log name number) where
  -- what is seen of the store, where this change is wanted
  abbrev seen : Observation
  seen = part (One number) has.o

  shown : Shown (One number) image (Some seen)
  shown = subst (λ (v : Option Observation). Shown (One number) image (part_of (One number) v)) has.stands (log-shown (One number) image log stands).shown

  same-change : change_at seen number ≡ change_at has.o number
  same-change = found-wanted (is_wanted (One number) has.o.project.deltas has.o.locks) has.o.changes number (by_number.same_self number)

  same-other : (called : Option (List ℕ)) → is_other called seen ≡ is_other called has.o
  same-other None = refl
  same-other (Some other) = refl

  same-refusal : (found : Option Change) → refuses_change seen found ≡ refuses_change has.o found
  same-refusal None = refl
  same-refusal (Some change) = refl

  -- nothing refuses it of the part, as of the whole
  free : refuses_sending name number (Some seen) ≡ None
  free =
      let others = same-other name in
      let changes : refuses_change seen (change_at seen number) ≡ refuses_change has.o (change_at has.o number) = same-refusal (change_at seen number) ∙ ap (refuses_change has.o) same-change in
      let same : refuses_sending name number (Some seen) ≡ refuses_sending name number (Some has.o) = λ i. or_refuses (if others i then Some WrongProject else None) (changes i) in
      same ∙ sym (ap (refuses_sending name number) has.stands) ∙ completed-sent log name number legal has

  never-refused : (refusal : Refusal) → RefusesSending image name number refusal → ⊥
  never-refused refusal r =
      let both : None ≡ Some refusal = sym free ∙ ap (refuses_sending name number) (one (One number) image (Some seen) r.stands shown r.shown) ∙ r.refused in
      cc

  -- ---- the versions of its rows

  one-kept : (delta : ℕ) (path : List ℕ) (v : VersionRef) → version_at seen delta path ≡ Some v → IsKept (effective image) v
  one-kept delta path v is = by-row (row_in has.o.files path) refl is
    where
      there : (row : Option FileRow) → row_in has.o.files path ≡ row → option_and_then (λ (r : FileRow). option_and_then (λ (entry : FileVersion). entry.version) (entry_in r.past delta)) row ≡ Some v → IsKept (effective image) v
      there row at found =
          standing-kept image log (in_table path delta) v stands (legal-made log legal)
          (ap (λ (x : Option Observation). version_in x (in_table path delta)) has.stands
          ∙ ap (λ (r : Option FileRow). option_and_then (λ (r : FileRow). option_and_then (λ (entry : FileVersion). entry.version) (entry_in r.past delta)) r) at ∙ found)

      by-row : (row : Option FileRow) → row_in has.o.files path ≡ row → version_at seen delta path ≡ Some v → IsKept (effective image) v
      by-row (Some row) at found = there (Some row) at (sym (ap (λ (r : Option FileRow). option_and_then (λ (entry : FileVersion). entry.version) (entry_in (past_in r) delta)) at) ∙ found)
      by-row None at found = let nothing : None ≡ Some v = sym (ap (λ (r : Option FileRow). option_and_then (λ (entry : FileVersion). entry.version) (entry_in (past_in r) delta)) at) ∙ found in cc

  all-kept : (delta : ℕ) (files : List ChangeFile) → AreKept (effective image) (versions_of (map (sent_row seen delta) files))
  all-kept delta [] = tt
  all-kept delta (file ∷ files) = go (version_at seen delta file.path) refl (all-kept delta files)
    where
      go : (v : Option VersionRef) → version_at seen delta file.path ≡ v → AreKept (effective image) (versions_of (map (sent_row seen delta) files))
          → AreKept (effective image) (cons_option v (versions_of (map (sent_row seen delta) files)))
      go (Some v) is rest = (one-kept delta file.path v is, rest)
      go None is rest = rest

  never-damaged : (damaged : List ℕ) → DamagedSending image name number damaged → ⊥
  never-damaged damaged (store is) = never_damaged (One number) image (Some seen) damaged shown is
  never-damaged damaged (version o change its-shown there none lost) =
      let same : o ≡ seen = same_Some o seen (one (One number) image (Some o) (Some seen) its-shown shown) in
      kept-not-lost (effective image) (versions_of (sent_rows o change))
      (subst (λ (x : Observation). AreKept (effective image) (versions_of (sent_rows x change))) (sym same) (all-kept (delta_made seen change) change.files)) lost.first

  -- ---- the answer, and how the call ends

  module _ (told : Type 0) (here : told) (rose : Type 0) (out err : SinkUse) (result : Outcome) where
    abbrev Sinks : Type 0
    Sinks = out.rose ⊎ err.rose

    -- what may be meant
    data MayMean : Outcome → Type 0 where
      failed : rose → MayMean DiskFault
      lacking : MayMean Memory

    why-not : (why : Outcome) → EndsAs ⊥ ⊥ (λ (refusal : Refusal). told → RefusesSending image name number refusal) (λ (damaged : List ℕ). told → DamagedSending image name number damaged) rose ⊥ why → MayMean why
    why-not _ (ending.done none) = absurd none
    why-not _ (ending.run_failed none) = absurd none
    why-not _ (ending.refused refusal so) = absurd (never-refused refusal (so here))
    why-not _ (ending.damaged damaged so) = absurd (never-damaged damaged (so here))
    why-not _ (ending.disk_fault rises) = failed rises
    why-not _ (ending.site_fault none) = absurd none
    why-not _ ending.memory = lacking

    may-end : (meant : Outcome) → MayMean meant → (result ≡ meant) ⊎ ((result ≡ unless_told meant) × err.rose) → EndsSent rose Sinks result
    may-end _ (failed rises) (inl is) = subst (EndsSent rose Sinks) (sym is) (disk_fault rises)
    may-end _ (failed rises) (inr is) = subst (EndsSent rose Sinks) (sym is.0) (disk_fault rises)
    may-end _ lacking (inl is) = subst (EndsSent rose Sinks) (sym is) memory
    may-end _ lacking (inr is) = subst (EndsSent rose Sinks) (sym is.0) memory

    meant-so : (why meant : Outcome) → MayMean why → IsMeant why meant → MayMean meant
    meant-so why meant may (inl is) = subst MayMean (sym is) may
    meant-so why meant may (inr is) = subst MayMean (sym is.0) lacking

    ends-sent : (answer : Result (List ℕ) Outcome) → AnswersWriting told image name number rose answer → IsAnswerTold answer out err result → EndsSent rose Sinks result
    ends-sent answer caused (done text is tells quiet) = go tells.how
      where
        go : (result ≡ Done) ⊎ ((result ≡ unless_told Done) × out.rose) → EndsSent rose Sinks result
        go (inl same) = subst (EndsSent rose Sinks) (sym same) sent.done
        go (inr failed_so) = subst (EndsSent rose Sinks) (sym failed_so.0) (sink_fault (inl failed_so.1))
    ends-sent answer caused (stopped why is why_told quiet) =
        may-end why_told.meant (meant-so why why_told.meant (why-not why (subst (λ (a : Result (List ℕ) Outcome). AnswersWriting told image name number rose a) is caused)) why_told.is_meant) why_told.is_told.how

-- ---- the call

module _ (d : Disks) (s : Sites) (i o e : Streams) (asked : Asked) (name : Option (List ℕ)) (number : ℕ) (asks : AsksForSending asked name number)
    (workspace : Workspace d s) (streams : Standard i o e) (result : Outcome) (here : d.told) (log : Log) (legal : Legal log) (stands : StandsForLog (reads (d.state workspace.disk.old)) log) (has : HasCompleted log name number) where
  abbrev Ends : Type 0
  Ends = EndsSent (disk_rose workspace) (out_rose streams ⊎ err_rose streams) result

  sending-ends : (other : Option (List ℕ)) (another : ℕ) → HasCompleted log other another → SendDone other another workspace streams result → Ends
  sending-ends other another completed did =
      ends-sent (reads (d.state workspace.disk.old)) log legal stands other another completed d.told here (disk_rose workspace) (out_use streams) (err_use streams) result did.told.answer did.told.caused did.told.is_told

  -- the words name one project and one change
  same-one : (other : Option (List ℕ)) (another : ℕ) → AsksForSending asked other another → HasCompleted log other another
  same-one other another too =
      let same : asks.command ≡ too.command = one_command asked.words asks.command too.command asks.said too.said in
      let names : name ≡ other = sym asks.project ∙ ap (λ (c : Command). c.project) same ∙ too.project in
      let numbers : number ≡ another = same_Some number another (sym asks.change ∙ ap (λ (c : Command). c.change) same ∙ too.change) in
      subst (HasCompleted log other) numbers (subst (λ (n : Option (List ℕ)). HasCompleted log n number) names has)

  abbrev sends : Function
  sends = function.DistributionSend

  asked-ends : (manner : Manner) (begun : Stand d s) (done : List (Did d s)) → IsAsked asked workspace streams result manner begun done → Ends
  asked-ends _ _ _ (asking.sending other another too did) = sending-ends other another (same-one other another too) did
  asked-ends _ _ _ (asking.wanting only) = go only.told.how
    where
      go : (result ≡ Memory) ⊎ ((result ≡ unless_told Memory) × (err_use streams).rose) → Ends
      go (inl is) = subst (EndsSent (disk_rose workspace) (out_rose streams ⊎ err_rose streams)) (sym is) memory
      go (inr is) = subst (EndsSent (disk_rose workspace) (out_rose streams ⊎ err_rose streams)) (sym is.0) memory
  asked-ends _ _ _ (asking.command c asks_other did) = absurd (never-one asked.words c asks.command asks_other.said asks.said sends asks.sends refl asks_other.one)
  asked-ends _ _ _ (asking.script asks_other did quiet) = absurd (never-other asked.words asks_other.command asks.command asks_other.said asks.said sends asks.sends function.Script (λ is. cc) asks_other.is_script)
  asked-ends _ _ _ (asking.project start changes files asks_other made) = absurd (never-other asked.words asks_other.command asks.command asks_other.said asks.said sends asks.sends function.Generate (λ is. cc) asks_other.generates)
  asked-ends _ _ _ (asking.audit asks_other did) = absurd (never-other asked.words asks_other.command asks.command asks_other.said asks.said sends asks.sends function.Audit (λ is. cc) asks_other.audits)
  asked-ends _ _ _ (asking.report wanted asks_other did) = absurd (never-other asked.words asks_other.command asks.command asks_other.said asks.said sends asks.sends function.Report (λ is. cc) asks_other.reports)
  asked-ends _ _ _ (asking.receiving other begun ones asks_other did few quiet) = absurd (never-other asked.words asks_other.command asks.command asks_other.said asks.said sends asks.sends function.DistributionReceive (λ is. cc) asks_other.receives)

pub completed-are-sent : (d : Disks) (s : Sites) (i o e : Streams) → CompletedAreSent d s i o e
completed-are-sent d s i o e asked name number asks workspace streams result call here log legal stands has =
    asked-ends d s i o e asked name number asks workspace streams result here log legal stands has call.manner call.begun call.done call.is
