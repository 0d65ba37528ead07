-- A file that a command adds to its change begins from an edit that its path has had then.
use Rattle.std.proofs.Common.{◌≡◌, ℕ, ◌+◌, ◌≤◌, refl, sym, ◌∙◌, ap, subst, List, [], ◌∷◌, ◌++◌, map, Option, Some, None, Bool, true, false, cond, nat_le, length, length-append, arith}
use Rattle.std.specs.Prelude.{All, IfSome, filter}
use Rattle.std.proofs.lemmas.List.Elements.{All-nil, All-cons, All-head, All-tail, All-map}
use Rattle.ae_types.specs.declared.change.Change.{Change}
use Rattle.ae_types.specs.declared.change.ChangeFile.{ChangeFile}
use Rattle.ae_types.specs.declared.file_table.FileVersion.{FileVersion}
use Rattle.ae_types.specs.Frozen.{FrozenFile, frozen_file, version_of}
use Rattle.ae_types.specs.Observation.{Observation}
use Rattle.ae_types.specs.Trees.{edit_of, past_of}
use Rattle.ae_log.specs.declared.event.Event.{Event}
use Rattle.ae_log.specs.declared.event.EventKind.{EventKind}
use Rattle.ae_log.specs.declared.event.EventKind.TheVariants as on
use Rattle.ae_log.specs.Applies.{IsProject}
use Rattle.ae_log.specs.Baseline.{Entry, deltas, edit, past, past_after, with_entry}
use Rattle.ae_log.specs.Files.{FileFact, file, frozen, version_bytes}
use Rattle.ae_log.specs.Log.{Log, course, followed}
use Rattle.ae_log.specs.Maker.{Maker, event_by}
use Rattle.ae_log.specs.Observed.{observation}
use Rattle.ae_words.specs.declared.table.Function.{Function}
use Rattle.ae_words.specs.declared.table.Function.TheVariants as function
use Rattle.ae_machine.specs.declared.verdict.Verdict.TheVariants.{Accept}
use Rattle.ae_machine.specs.Accepted.{decided}
use Rattle.ae_machine.specs.Call.{Call, Given, change_of}
use Rattle.ae_machine.specs.Legal.{Legal, nothing, more}
use Rattle.ae_machine.specs.Paths.{edit_named, file_made, kind_made, path_event}
use Rattle.ae_machine.specs.Runs.{run_event}
use Rattle.ae_machine.specs.Verdict.{change_of_events, end_of_development, ends, kinds_of, maker_in, runs}
use Rattle.ae_machine.proofs.Accepted.{accepted-passes}
use Rattle.ae_machine.proofs.AcceptedLogs.{accepted-starts}
use Rattle.ae_machine.proofs.KindsMade.{by-shape, function_making}
use Rattle.ae_machine.proofs.LegalKinds.{given_after}
use Rattle.ae_machine.proofs.Lists.{members-all}
use Rattle.ae_machine.proofs.Updates.{edit-stands}

-- ---- the past of a path grows

-- one more event leaves what the deltas made of the path, or adds to it
pub past-grows : (event : Event) (log : Log) (path : List ℕ) → (later : List Entry) × (past (event ∷ log) path ≡ past log path ++ later)
past-grows event log path = go event.change event.what
  where
    nothing-later : (entries : List Entry) → entries ≡ entries ++ []
    nothing-later [] = refl
    nothing-later (entry ∷ entries) = ap (λ more. entry ∷ more) (nothing-later entries)

    with-one : (delta : ℕ) (z : Option FrozenFile) (f : Option FileFact) → (later : List Entry) × (with_entry delta z f (past log path) ≡ past log path ++ later)
    with-one delta z (Some f) = (record { delta = delta; usage = f.usage; version = version_of z } ∷ [], refl)
    with-one delta z None = ([], nothing-later (past log path))

    go : (c : Option ℕ) (kind : EventKind) → (later : List Entry) × (past_after log path (past log path) c kind ≡ past log path ++ later)
    go (Some c) on.IPass = with-one (length (deltas log) + 1) (frozen_file (frozen (course log c)) path) (file (course log c) path)
    go (Some c) kind = ([], nothing-later (past log path))
    go None kind = ([], nothing-later (past log path))

abbrev pub HasGrown : Log → Log → Type 0
HasGrown log later = (path : List ℕ) → edit log path ≤ edit later path

one-more : (event : Event) (log later : Log) → HasGrown log later → HasGrown log (event ∷ later)
one-more event log later grown path =
    let g = past-grows event later path in
    let longer : edit (event ∷ later) path ≡ edit later path + length g.0 = ap (λ (entries : List Entry). length entries) g.1 ∙ length-append (past later path) g.0 in
    let so_far = grown path in
    omega (arith, longer, so_far)

-- ---- of an event

abbrev pub Filed : Log → EventKind → Type 0
Filed log (on.File path action usage origin) = origin ≤ edit log path
Filed log kind = Unit {0}

-- of each event of a log
abbrev pub AllFiled : Log → Type 0
AllFiled [] = Unit {0}
AllFiled (event ∷ log) = Filed log event.what × AllFiled log

-- of these, one after another
abbrev pub FiledNext : Log → List Event → Type 0
FiledNext log [] = Unit {0}
FiledNext log (event ∷ events) = Filed log event.what × FiledNext (event ∷ log) events

filed-next : (events : List Event) (log : Log) → FiledNext log events → AllFiled log → AllFiled (followed log events)
filed-next [] log next filed = filed
filed-next (event ∷ events) log next filed = filed-next events (event ∷ log) next.1 (next.0, filed)

-- after a log, and whatever grew from it
abbrev pub FiledAfter : Log → EventKind → Type 0
FiledAfter log kind = (later : Log) → HasGrown log later → Filed later kind

these-filed : (kinds : List EventKind) (log : Log) → All (FiledAfter log) kinds → (maker : Maker) (number : Option ℕ) (later : Log) → HasGrown log later → FiledNext later (map (event_by maker number) kinds)
these-filed [] log all maker number later grown = tt
these-filed (kind ∷ kinds) log all maker number later grown =
    let event : Event = event_by maker number kind in
    (All-head (FiledAfter log) kind kinds all later grown, these-filed kinds log (All-tail (FiledAfter log) kind kinds all) maker number (event ∷ later) (one-more event log later grown))

-- ---- the files of a command

filter-shorter : (t : FileVersion → Bool) (xs : List FileVersion) → length (filter t xs) ≤ length xs
filter-shorter t [] = omega arith
filter-shorter t (x ∷ xs) = go (t x) (filter-shorter t xs)
  where
    go : (b : Bool) → length (filter t xs) ≤ length xs → length (cond b (x ∷ filter t xs) (filter t xs)) ≤ length (x ∷ xs)
    go true le = omega (arith, le)
    go false le = omega (arith, le)

named-le : (o : Observation) (delta : Option ℕ) (path : List ℕ) → edit_named o delta path ≤ edit_of o path
named-le o (Some delta) path = filter-shorter (λ (entry : FileVersion). nat_le entry.delta delta) (past_of o path)
named-le o None path = omega arith

made-le : (f : Function) (call : Call) (path : List ℕ) → IfSome (file_made f call path) (λ (file : ChangeFile). file.origin ≤ edit_of call.stands path)
made-le function.CopyFile call path = named-le call.stands call.command.delta path
made-le function.NewFile call path = omega arith
made-le function.NewTest call path = omega arith
made-le function.RemoveFile call path = omega arith
made-le f call path = tt

module _ (log : Log) (given : Given) (stood : observation log ≡ Some given.call.stands) where
  abbrev P : EventKind → Type 0
  P = FiledAfter log

  of-path : (path : List ℕ) (v : Option ChangeFile) → IfSome v (λ (file : ChangeFile). file.origin ≤ edit_of given.call.stands path) → P (kind_made path v)
  of-path path (Some file) le later grown =
      let same = edit-stands log given.call.stands stood path in
      let since = grown path in
      omega (arith, le, same, since)
  of-path path None le later grown = tt

  of-runs : (v : Option Change) → All P (runs given v)
  of-runs (Some x) = All-map P (λ run. on.Run (run_event given x run)) given.view.runs (members-all (λ run. P (on.Run (run_event given x run))) given.view.runs (λ run m later grown. tt))
  of-runs None = All-nil P

  of-end : (v : Option Change) → All P (ends given v)
  of-end (Some x) = All-cons P (end_of_development given x) [] (λ later grown. tt) (All-nil P)
  of-end None = All-nil P

  of-one : (kind : EventKind) (f : Function) → function_making kind ≡ Some f → P kind
  of-one (on.File path action usage origin) f is = cc
  of-one kind f is = λ later grown. tt

  kinds-filed : (f : Function) → All P (kinds_of f given)
  kinds-filed f =
      by-shape P f given
      (λ role. All-map P (on.RoleAdd role) given.call.command.users (members-all (λ user. P (on.RoleAdd role user)) given.call.command.users (λ user m later grown. tt)))
      (λ role. All-map P (on.RoleDrop role) given.call.command.users (members-all (λ user. P (on.RoleDrop role user)) given.call.command.users (λ user m later grown. tt)))
      (All-map P (path_event given.call) given.call.command.paths
      (members-all (λ path. P (path_event given.call path)) given.call.command.paths (λ path m. of-path path (file_made given.call.command.function given.call path) (made-le given.call.command.function given.call path))))
      (λ makes. of-runs (change_of given.call)) (λ is. of-end (change_of given.call))
      (λ kind maker only. All-cons P kind [] (of-one kind f maker) (All-nil P)) (All-nil P)

-- ---- of each event of a legal log

project-filed : (log : Log) (kind : EventKind) → IsProject kind → Filed log kind
project-filed log (on.Project name attributes) is = tt
project-filed log kind is = absurd is

pub legal-filed : (log : Log) → Legal log → AllFiled log
legal-filed log nothing = tt
legal-filed log (more before next occasion events legal may accepted is) = subst AllFiled (sym is) (filed-next events before (go (observation before) refl) (legal-filed before legal))
  where
    answered : (v : Option Observation) → observation before ≡ v → decided v (version_bytes before) occasion ≡ Accept events
    answered v stood = ap (λ (v : Option Observation). decided v (version_bytes before) occasion) (sym stood) ∙ accepted

    go : (v : Option Observation) → observation before ≡ v → FiledNext before events
    go (Some o) stood =
        let given : Given = given_after before o occasion in
        subst (FiledNext before) (accepted-passes o (version_bytes before) occasion events (answered (Some o) stood)).these
        (these-filed (kinds_of occasion.command.function given) before (kinds-filed before given stood occasion.command.function) (maker_in given) (change_of_events occasion.command.function given.call) before (λ path. omega arith))
    go None stood =
        let start = accepted-starts (version_bytes before) occasion events (answered None stood) in
        subst (FiledNext before) (sym start.only) (project-filed before start.event.what start.starts.project, tt)
