-- The latest runs of a change.
use Rattle.std.specs.Prelude.{ℕ, ◌+◌, Bool, ◌&&◌, List, [], ◌∷◌, Option, Some, None, if◌then◌else◌}
use Rattle.std.specs.List.{filter_map}
use Rattle.std.specs.Option.{option_map, option_and_then, option_eq}
use Rattle.std.specs.Str.{bytes_eq}
use Rattle.std.specs.Cmp.Lexicographic.{pointwise}
use Rattle.ae_base.specs.Rows.{Row, Rows}
use Rattle.ae_base.specs.declared.words.Ground.{Ground}
use Rattle.ae_base.specs.declared.words.Ground.TheVariants as part
use Rattle.ae_outside.specs.declared.dir.Exit.{Exit}
use Rattle.ae_outside.specs.declared.dir.Exit.TheVariants.{Code, Signal}
use Rattle.ae_types.specs.declared.change.Evidence.{Evidence}
use Rattle.ae_types.specs.Ordered.{put_by, itself}
use Rattle.ae_types.specs.Runs.{RunKey, run_cmp, same_run, same_during}
use Rattle.ae_log.specs.declared.event.Event.{Event}
use Rattle.ae_log.specs.declared.event.EventKind.{EventKind}
use Rattle.ae_log.specs.declared.event.EventKind.TheVariants as on
use Rattle.ae_log.specs.declared.event.RunEvent.{RunEvent}
use Rattle.ae_log.specs.Log.{Happened, Course, Mark, makes, ends, leaves, standing}

-- ---- a run

abbrev pub same_row : Row → Row → Bool
same_row one other = bytes_eq one.0 other.0 && option_eq bytes_eq one.1 other.1

-- two trees have the same paths, with the same bytes or none
abbrev pub same_rows : Rows → Rows → Bool
same_rows one other = pointwise same_row one other

-- the status of a run: its code, or 256 and the number of the signal
abbrev pub run_status : Exit → ℕ
run_status (Code code) = code
run_status (Signal signal) = 256 + signal

abbrev pub key_of_run : RunEvent → RunKey
key_of_run run = record { during = run.during; kind = run.kind; path = run.path }

-- the row of a run; it is clean where the files after it are those before it
abbrev pub evidence_row : Event → RunEvent → Evidence
evidence_row event run = record {
  during = run.during;
  kind = run.kind;
  path = run.path;
  status = run_status run.exit;
  clean = same_rows run.before run.after;
  subject = run.subject;
  when = event.when;
  who = event.who;
}

-- ---- the latest ones

-- the part of a change's life whose runs an event ends, as work there begins anew or is given up
abbrev pub cleared : EventKind → Option Ground
cleared on.Begin = Some part.Develop
cleared on.BeginUndo = Some part.Develop
cleared on.IBegin = Some part.Integrate
cleared on.IBeginUndo = Some part.Integrate
cleared on.IFail = Some part.Integrate
cleared _ = None

abbrev pub clears : Ground → Option Ground → Mark
clears during (Some ended) = if same_during ended during then ends else leaves
clears during None = leaves

abbrev pub run_mark : RunKey → EventKind → Mark
run_mark key (on.Run run) = if same_run key (key_of_run run) then makes else leaves
run_mark key kind = clears key.during (cleared kind)

-- the last run of that part of the change's life, kind and path, where that part didn't end since
abbrev pub latest : Course → RunKey → Option Happened
latest course key = standing (run_mark key) course

abbrev pub run_in : EventKind → Option RunEvent
run_in (on.Run run) = Some run
run_in _ = None

abbrev pub row_of_run : Happened → Option Evidence
row_of_run happened = option_map (evidence_row happened.event) (run_in happened.event.what)

-- what the runs were of, with that of one more in its place
abbrev pub run_keys_after : EventKind → List RunKey → List RunKey
run_keys_after (on.Run run) keys = put_by run_cmp itself (key_of_run run) keys
run_keys_after _ keys = keys

-- what the runs of the change were of, in order
abbrev pub run_keys : Course → List RunKey
run_keys [] = []
run_keys (happened ∷ course) = run_keys_after happened.event.what (run_keys course)

abbrev pub evidence_at : Course → RunKey → Option Evidence
evidence_at course key = option_and_then row_of_run (latest course key)

-- the rows of the latest runs, in order
abbrev pub evidence : Course → List Evidence
evidence course = filter_map (evidence_at course) (run_keys course)
