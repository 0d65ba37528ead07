-- Where a file of the baseline comes from: its row of the file table, the delta, and the integration that made it.
use Rattle.std.specs.Prelude.{◌≡◌, ℕ, ◌+◌, List, [], ◌∷◌, Option, Some, None, if◌then◌else◌, length, nat_eq}
use Rattle.std.specs.Option.{option_and_then}
use Rattle.ae_types.specs.declared.file_table.FileRow.{FileRow}
use Rattle.ae_types.specs.declared.file_table.FileVersion.{FileVersion}
use Rattle.ae_types.specs.declared.project.DeltaRow.{DeltaRow}
use Rattle.ae_types.specs.Found.{delta_in, row_in}
use Rattle.ae_types.specs.Observation.{Observation}
use Rattle.ae_types.specs.Trees.{last_delta, last_up_to}
use Rattle.ae_types.specs.Frozen.{ref_of}
use Rattle.ae_log.specs.declared.event.Event.{Event}
use Rattle.ae_log.specs.declared.event.EventKind.{EventKind}
use Rattle.ae_log.specs.declared.event.EventKind.TheVariants as on
use Rattle.ae_log.specs.Baseline.{TreeFile, deltas, baseline, candidate}
use Rattle.ae_log.specs.Log.{Log, Happened}
use Rattle.ae_log.specs.Observed.{observation}
use Rattle.ae_machine.specs.Evident.{EvidentAt}
use Rattle.ae_machine.specs.Legal.{Legal}
use Rattle.ae_machine.specs.Provenance.{ProvidedAt}
pub use Rattle.ae_machine.specs.Updates.{file_of}

abbrev pub pass_after : Event → Log → ℕ → Option Happened → Option ℕ → EventKind → Option Happened
pass_after event log delta earlier (Some number) on.IPass = if nat_eq delta (length (deltas log) + 1) then Some (record { event = event; before = log }) else earlier
pass_after event log delta earlier _ _ = earlier

-- the IPass that made a delta, and the log before it
abbrev pub pass_of : Log → ℕ → Option Happened
pass_of [] delta = None
pass_of (event ∷ log) delta = pass_after event log delta (pass_of log delta) event.change event.what

abbrev pub delta_row : ℕ → ℕ → Event → DeltaRow
delta_row delta number event = record { delta = delta; change = number; when = event.when; who = event.who }

-- The IPass of a change made this delta. The file was in the change's candidate before it, with the same bytes; the integration was
-- provided for, and the state had the rows that say so.
pub record CameBy (file : TreeFile) (delta number : ℕ) (pass : Happened) : Type 0 where
  pub what : pass.event.what ≡ on.IPass
  pub change : pass.event.change ≡ Some number
  pub made : length (deltas pass.before) + 1 ≡ delta
  pub in_candidate : file_of (candidate pass.before number) file.path ≡ Some file
  pub provided : ProvidedAt pass.before pass.event (Some number) on.IPass
  pub evident : EvidentAt pass.before (Some number) on.IPass

-- the last entry of a path in the file table
abbrev pub last_entry : Observation → List ℕ → Option FileVersion
last_entry o path = option_and_then (λ (row : FileRow). last_up_to (last_delta o) row.past) (row_in o.files path)

-- The last entry of the file's path in the file table has its version, and names a delta; that delta was made by this change, then
-- and by this user; and by its IPass the file came.
pub record IsReleased (log : Log) (o : Observation) (file : TreeFile) : Type 0 where
  pub entry : FileVersion
  pub number : ℕ
  pub pass : Happened
  pub last : last_entry o file.path ≡ Some entry
  pub usage : entry.usage ≡ file.usage
  pub version : entry.version ≡ Some (ref_of file.version)
  pub delta : delta_in o.project.deltas entry.delta ≡ Some (delta_row entry.delta number pass.event)
  pub passed : pass_of log entry.delta ≡ Some pass
  pub came : CameBy file entry.delta number pass

-- each file of the baseline of a legal log is so
abbrev pub LegalIsReleased : Type 0
LegalIsReleased = (log : Log) (o : Observation) (path : List ℕ) (file : TreeFile) → Legal log → observation log ≡ Some o
    → file_of (baseline log) path ≡ Some file → IsReleased log o file
