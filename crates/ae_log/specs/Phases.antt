-- The phase of a change, and its history.
use Rattle.std.specs.Prelude.{List, [], ◌∷◌, ◌++◌, Option, Some, None, if◌then◌else◌, is_some}
use Rattle.ae_base.specs.declared.words.Phase.{Phase}
use Rattle.ae_base.specs.declared.words.Phase.TheVariants as phase
use Rattle.ae_base.specs.declared.words.What.{What}
use Rattle.ae_base.specs.declared.words.What.TheVariants as word
use Rattle.ae_types.specs.declared.change.HistoryRow.{HistoryRow}
use Rattle.ae_log.specs.declared.event.EventKind.{EventKind}
use Rattle.ae_log.specs.declared.event.EventKind.TheVariants as on
use Rattle.ae_log.specs.Maker.{Maker, maker_of}
use Rattle.ae_log.specs.Log.{Happened, Course, Mark, makes, leaves, standing}

-- the phase into which an event takes its change
abbrev pub phase_after : EventKind → Option Phase
phase_after (on.New attributes) = Some phase.AwaitingDevelopment
phase_after on.Begin = Some phase.BeingDeveloped
phase_after on.BeginUndo = Some phase.AwaitingDevelopment
phase_after (on.End tree to places) = Some to
phase_after on.EndUndo = Some phase.BeingDeveloped
phase_after on.ReviewBegin = Some phase.BeingReviewed
phase_after on.ReviewBeginUndo = Some phase.AwaitingReview
phase_after on.Pass = Some phase.AwaitingIntegration
phase_after on.PassUndo = Some phase.BeingReviewed
phase_after on.Fail = Some phase.BeingDeveloped
phase_after on.IBegin = Some phase.BeingIntegrated
phase_after on.IBeginUndo = Some phase.AwaitingIntegration
phase_after on.IPass = Some phase.Completed
phase_after on.IFail = Some phase.BeingDeveloped
phase_after _ = None

abbrev pub phase_mark : EventKind → Mark
phase_mark kind = if is_some (phase_after kind) then makes else leaves

-- a change awaits development before all else
abbrev pub phase_or_first : Option Phase → Phase
phase_or_first (Some phase) = phase
phase_or_first None = phase.AwaitingDevelopment

abbrev pub phase_by : Option Happened → Phase
phase_by (Some happened) = phase_or_first (phase_after happened.event.what)
phase_by None = phase.AwaitingDevelopment

-- the phase into which the last event that has one took the change
abbrev pub phase_of : Course → Phase
phase_of course = phase_by (standing phase_mark course)

-- ---- history

-- what the history says of an event
abbrev pub word_of : EventKind → Option What
word_of (on.New attributes) = Some word.NewChange
word_of on.Begin = Some word.DevelopBegin
word_of on.BeginUndo = Some word.DevelopBeginUndo
word_of (on.End tree to places) = Some word.DevelopEnd
word_of on.EndUndo = Some word.DevelopEndUndo
word_of on.ReviewBegin = Some word.ReviewBegin
word_of on.ReviewBeginUndo = Some word.ReviewBeginUndo
word_of on.Pass = Some word.ReviewPass
word_of on.PassUndo = Some word.ReviewPassUndo
word_of on.Fail = Some word.ReviewFail
word_of on.IBegin = Some word.IntegrateBegin
word_of on.IBeginUndo = Some word.IntegrateBeginUndo
word_of on.IPass = Some word.IntegratePass
word_of on.IFail = Some word.IntegrateFail
word_of _ = None

-- the rows with one more at the end, where there is a word for it
abbrev pub with_row : Option What → Maker → List HistoryRow → List HistoryRow
with_row (Some word) maker rows = rows ++ record { what = word; who = maker.who; when = maker.when; why = maker.why } ∷ []
with_row None maker rows = rows

-- the events of the change that took it into a phase, in the order in which they happened
abbrev pub history : Course → List HistoryRow
history [] = []
history (happened ∷ course) = with_row (word_of happened.event.what) (maker_of happened.event) (history course)
