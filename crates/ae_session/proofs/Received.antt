-- A change set that is received, or why none is.
use Rattle.std.specs.Prelude.{◌≡◌, ◌≢◌, ◌≤◌, ℕ, All, List, [], Option, Result, Ok, Err, IfOk, IfErr}
use Rattle.std.proofs.Common.{inl, inr, refl, sym, ap, subst, ◌∙◌}
use Rattle.std.specs.Result.{IsErrAnd}
use Rattle.ae_base.specs.declared.outcome.Outcome.{Outcome}
use Rattle.ae_base.specs.declared.outcome.Outcome.TheVariants.{Memory, Refused, RunFailed, SourceFault}
use Rattle.ae_base.specs.declared.refusal.Refusal.{Refusal}
use Rattle.ae_base.specs.declared.refusal.Refusal.TheVariants.{BadBundle}
use Rattle.ae_base.specs.declared.want.Want.TheVariants.{Nothing}
use Rattle.ae_outside.specs.Causes.{HasRisen}
use Rattle.ae_outside.specs.Image.{Image}
use Rattle.ae_outside.specs.State.{reads}
use Rattle.ae_bundle.specs.declared.bundle.Bundle.{Bundle}
use Rattle.ae_exec.specs.Endings.{EndsAs, IsDamagedAt}
use Rattle.ae_exec.specs.Endings as ending
use Rattle.ae_exec.specs.Opened.{HasOpened, MayBeUnopened}
use Rattle.ae_exec.specs.Performs.{LeavesDisk}
use Rattle.ae_exec.proofs.Opened.{unopened_is}
use Rattle.ae_exec.proofs.Unfailed.{failed-so}
use Rattle.ae_telling.proofs.Answered.{why_outlasts}
use Rattle.ae_lines.specs.Acts.{MayBePlanned}
use Rattle.ae_lines.specs.declared.act.Act.{Act}
use Rattle.ae_dist.specs.Answers.{Answers, IsAnswered, IsPlanning, Plans, RefusesPlan}
use Rattle.ae_dist.specs.Receiving.{IsReceived, IsUnread, not_understood, source_fault}
use Rattle.ae_dist.specs.Receiving as receiving
use Rattle.ae_telling.specs.Answered.{IsMeant, IsWhyTold}
use Rattle.ae_telling.specs.Telling.{IsOfCommand, SinkUse, TakesMemory, unless_told}
use Rattle.ae_script.specs.Acts.{ActsDone}
use Rattle.ae_script.specs.Lines.{Stand, stand}
use Rattle.ae_script.specs.Uses.{Disks, Sites, SourceUse}
use Rattle.ae_script.specs.declared.manner.Manner.TheVariants.{Plan}
use Rattle.ae_session.specs.Called.{Receives, planned}
use Rattle.ae_session.specs.Called as called
use Rattle.ae_session.specs.Received.{HasPlan, IsOfReceiving, IsUnplanned, unplanned, unread}

module _ (disk_told input_told : Type 0) (image : Image) (name : Option (List ℕ)) (before after : List ℕ) (bundle : Bundle) (disk_rose : Type 0) where
  abbrev Planned : Result (List Act) Outcome → Type 0
  Planned result =
      Answers (λ (acts : List Act). disk_told → Plans image name bundle acts) (λ (refusal : Refusal). disk_told → RefusesPlan image name refusal) (λ (damaged : List ℕ). disk_told → IsDamagedAt Nothing image damaged) disk_rose result

  pub has_plan : IsReceived input_told before after bundle → (result : Result (List Act) Outcome) → Planned result → IfOk result (All MayBePlanned) → IfOk result (HasPlan disk_told input_told image name before after)
  has_plan received (Ok acts) plans may = record { bundle = bundle; received = received; plans = plans; may = may }
  has_plan received (Err why) plans may = tt

  pub has_none : (disk_same disk_opened source_rose : Type 0) → IsReceived input_told before after bundle → (result : Result (List Act) Outcome) → Planned result
      → (disk_told → (said : Result (List Act) Outcome) → IsPlanning image name bundle said → IsAnswered said result) → ((IsErrAnd result MayBeUnopened → ⊥) → disk_opened)
      → IfErr result (IsUnplanned disk_told input_told image name before after disk_same disk_opened disk_rose source_rose)
  has_none disk_same disk_opened source_rose received (Ok acts) caused only opened = tt
  has_none disk_same disk_opened source_rose received (Err why) caused only opened = unplanned bundle received (record { caused = caused; only = only }) opened

-- ---- how that is told

told_unread : (told : Type 0) (before : List ℕ) (rose : Type 0) (why : Outcome) → IsUnread told before rose why → IsOfReceiving why
told_unread told before rose _ (not_understood none) = inl tt
told_unread told before rose _ (source_fault failed) = inr refl
told_unread told before rose _ receiving.memory = inl tt

told_none : (R : Refusal → Type 0) (M : List ℕ → Type 0) (X : Type 0) (why : Outcome) → EndsAs ⊥ ⊥ R M X ⊥ why → IsOfReceiving why
told_none R M X _ (ending.done is) = absurd is
told_none R M X _ (ending.run_failed is) = absurd is
told_none R M X _ (ending.refused refusal is) = inl tt
told_none R M X _ (ending.damaged name is) = inl tt
told_none R M X _ (ending.disk_fault rose) = inl tt
told_none R M X _ (ending.site_fault rose) = absurd rose
told_none R M X _ ending.memory = inl tt

pub of_receiving : (disk_told input_told : Type 0) (image : Image) (name : Option (List ℕ)) (before after : List ℕ) (disk_same disk_opened disk_rose source_rose : Type 0) (why : Outcome)
    → IsUnplanned disk_told input_told image name before after disk_same disk_opened disk_rose source_rose why → IsOfReceiving why
of_receiving disk_told input_told image name before after disk_same disk_opened disk_rose source_rose why (unread is same) = told_unread input_told before source_rose why is
of_receiving disk_told input_told image name before after disk_same disk_opened disk_rose source_rose why (unplanned bundle received none opened) = told_none _ _ _ why none.caused

-- and it is no failed run
unread_unfailed : (told : Type 0) (before : List ℕ) (rose : Type 0) (why : Outcome) → IsUnread told before rose why → why ≢ RunFailed
unread_unfailed told before rose _ (not_understood none) same = let both : Refused BadBundle ≡ RunFailed = same in cc
unread_unfailed told before rose _ (source_fault failed) same = let both : SourceFault ≡ RunFailed = same in cc
unread_unfailed told before rose _ receiving.memory same = let both : Memory ≡ RunFailed = same in cc

pub unplanned_unfailed : (disk_told input_told : Type 0) (image : Image) (name : Option (List ℕ)) (before after : List ℕ) (disk_same disk_opened disk_rose source_rose : Type 0) (why : Outcome)
    → IsUnplanned disk_told input_told image name before after disk_same disk_opened disk_rose source_rose why → why ≢ RunFailed
unplanned_unfailed disk_told input_told image name before after disk_same disk_opened disk_rose source_rose why (unread is same) = unread_unfailed input_told before source_rose why is
unplanned_unfailed disk_told input_told image name before after disk_same disk_opened disk_rose source_rose why (unplanned bundle received none opened) = failed-so why none.caused

-- with a fault of the source the call ends so
pub source_told : (why result : Outcome) (err : SinkUse) → IsWhyTold why err result → why ≡ SourceFault → result ≡ SourceFault
source_told why result err told is = go told.is_meant
  where
    meant_so : told.meant ≡ SourceFault → result ≡ SourceFault
    meant_so same = elim told.is_told.how [ inl here ↦ here ∙ same | inr left ↦ left.0 ∙ ap unless_told same ]

    go : IsMeant why told.meant → result ≡ SourceFault
    go (inl same) = meant_so (same ∙ is)
    go (inr lacking) = absurd (subst TakesMemory is lacking.1)

-- what isn't a fault of the source is a command's outcome
pub of_command : (why : Outcome) → IsOfReceiving why → (why ≡ SourceFault → ⊥) → IsOfCommand why
of_command why (inl is) other = is
of_command why (inr is) other = absurd (other is)

-- ---- a call that receives

module _ (d : Disks) (s : Sites) (name : Option (List ℕ)) (from : Stand d s) (disk : d.Disk) (site : s.Site) (input : SourceUse) (err : SinkUse) (result : Outcome) where
  pub received_by : (mid : d.Disk) (acts slice : List Act) → HasPlan d.told input.told (reads (d.state from.disk)) name input.before input.after acts → slice ≡ acts → (d.told → LeavesDisk (d.state from.disk) (d.state mid) (Unit {0}))
      → (d.told → HasOpened (d.state from.disk) (d.state mid)) → d.faults from.disk ≤ d.faults mid → ActsDone d s Plan slice (stand d s from.who from.now mid from.site) (stand d s from.who from.now disk site) err result → Receives d s name from disk site input err result
  received_by mid acts slice plan same leaves opened later did = record {
    begun = stand d s from.who from.now mid from.site;
    done = did.done;
    is = planned plan.bundle (stand d s from.who from.now mid from.site) slice plan.received (record { same = refl; later = later; leaves = leaves }) opened
        (λ told. subst (λ (a : List Act). Plans (reads (d.state from.disk)) name plan.bundle a) (sym same) (plan.plans told)) did;
  }

  pub unreceived_by : (why : Outcome) → IsUnplanned d.told input.told (reads (d.state from.disk)) name input.before input.after (disk ≡ from.disk) (d.told → HasOpened (d.state from.disk) (d.state disk)) (HasRisen (d.faults from.disk) (d.faults disk)) input.rose why → site ≡ from.site
      → (d.told → LeavesDisk (d.state from.disk) (d.state disk) (Unit {0})) → d.faults from.disk ≤ d.faults disk → IsWhyTold why err result → Receives d s name from disk site input err result
  unreceived_by why (unread is same) site_is leaves later told = record { begun = from; done = []; is = called.unread why is same site_is told }
  unreceived_by why (unplanned bundle received none opened) site_is leaves later told = record {
    begun = from;
    done = [];
    is = called.unplanned bundle why received none (record { same = refl; later = later; leaves = leaves })
        (λ seen unless. opened (λ failed. unless (why_outlasts MayBeUnopened tt tt (λ name. tt) unopened_is why result err told failed)) seen) site_is told;
  }
