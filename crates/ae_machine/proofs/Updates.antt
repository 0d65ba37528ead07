-- While a change holds its files each began from the edit that its path has, and a new one isn't in the baseline.
use Rattle.std.proofs.Common.{◌≡◌, inl, inr, ℕ, ◌+◌, refl, sym, ◌∙◌, ap, subst, List, [], ◌∷◌, map, Option, Some, None, Bool, true, false, cond, nat_eq, eqb-true, length, length-append}
use Rattle.std.specs.Prelude.{is_some, IsSomeAnd}
use Rattle.std.specs.Option.{option_map, option_and_then}
use Rattle.std.specs.Str.{bytes_eq}
use Rattle.std.proofs.lemmas.Bool.{false≢true}
use Rattle.std.proofs.lemmas.List.{length-map}
use Rattle.std.proofs.lemmas.Option.{same_Some}
use Rattle.ae_types.specs.declared.change.Change.{Change}
use Rattle.ae_types.specs.declared.change.ChangeAttributes.{ChangeAttributes}
use Rattle.ae_types.specs.declared.change.ChangeFile.{ChangeFile}
use Rattle.ae_types.specs.declared.file_table.FileRow.{FileRow}
use Rattle.ae_types.specs.declared.project.DeltaRow.{DeltaRow}
use Rattle.ae_types.specs.Found.{change_at, file_path, file_in, locked_of, row_path, has_number}
use Rattle.ae_types.specs.Frozen.{frozen_file}
use Rattle.ae_types.specs.Observation.{Observation}
use Rattle.ae_types.specs.Phases.{holds_locks, is_create}
use Rattle.ae_types.specs.Sound.{Sound}
use Rattle.ae_types.specs.Trees.{TreeRow, baseline_of, edit_of, past_in}
use Rattle.ae_types.proofs.Keys.{by_text, by_number}
use Rattle.ae_types.proofs.Members.{In}
use Rattle.ae_types.proofs.Ordered.{at-listed, none-some}
use Rattle.ae_types.proofs.Searched.{found-in}
use Rattle.ae_files.specs.InTree.{row_at}
use Rattle.ae_log.specs.declared.event.EventKind.{EventKind}
use Rattle.ae_log.specs.declared.event.EventKind.TheVariants as on
use Rattle.ae_log.specs.Applies.{Suits, comes_in}
use Rattle.ae_log.specs.Baseline.{Entry, TreeFile, baseline, deltas, edit, entry_file, last_up_to, past, tree_file, with_entry}
use Rattle.ae_log.specs.Files.{FileFact, file, frozen, paths}
use Rattle.ae_log.specs.Log.{Log, Course, course, continued}
use Rattle.ae_log.specs.Maker.{Maker, event_by, maker_of}
use Rattle.ae_log.specs.Observed.{change_file_of, change_with, file_row, file_version, frozen_version, observation, tree_row_of}
use Rattle.ae_log.specs.Phases.{phase_of}
use Rattle.ae_log.specs.Settings.{change_attributes, is_there, change_numbers}
use Rattle.ae_log.proofs.ChangeSteps.{developed-is, awaits_review-is, reviewed-is, awaits_integration-is, integrated-is}
use Rattle.ae_log.proofs.Listed.{at-files, own_row, unlisted-past}
use Rattle.ae_log.proofs.Steps.{IsOf, attributes-of, found, happens, of_change}
use Rattle.ae_machine.specs.Facts.{ComesAfter, IsKnown, Rightly}
use Rattle.ae_machine.specs.Paths.{is_in}
use Rattle.ae_machine.specs.Updates.{file_of}
use Rattle.ae_machine.proofs.CandidateStands.{at-baseline, baseline-stands, is-of}
use Rattle.ae_machine.proofs.FactSteps.{facts}
use Rattle.ae_machine.proofs.PassedBaseline.{last-more, past-there}
use Rattle.ae_machine.proofs.Said.{AllSaid, IsReady, Said, SaidAfter}

-- ---- the edits and the baseline of what stands are those of the log

entries-length : (path : List ℕ) (entries : List Entry) → length (past_in (file_row path entries)) ≡ length entries
entries-length path [] = refl
entries-length path (entry ∷ entries) = length-map (entry ∷ entries) file_version

pub edit-stands : (log : Log) (o : Observation) → observation log ≡ Some o → (path : List ℕ) → edit_of o path ≡ edit log path
edit-stands log o stood path =
    let w = attributes-of log o stood in
    ap (λ (q : Observation). edit_of q path) (sym w.2)
    ∙ ap (λ (row : Option FileRow). length (past_in row)) (at-listed by_text row_path (λ p. file_row p (past log p)) (own_row log) (paths log) (λ q out. ap (file_row q) (unlisted-past log q out)) path)
    ∙ entries-length path (past log path)

row-there : (path : List ℕ) (files : List TreeFile) → is_some (row_at (map tree_row_of files) path) ≡ is_some (file_of files path)
row-there path [] = refl
row-there path (first ∷ files) = go (bytes_eq path first.path) (row-there path files)
  where
    go : (b : Bool) → is_some (row_at (map tree_row_of files) path) ≡ is_some (file_of files path) → is_some (cond b (Some (tree_row_of first)) (row_at (map tree_row_of files) path)) ≡ is_some (cond b (Some first) (file_of files path))
    go true rest = refl
    go false rest = rest

not-there : (v : Option TreeFile) → is_some v ≡ false → v ≡ None
not-there (Some file) e = absurd (false≢true (sym e))
not-there None e = refl

not-in : (log : Log) (o : Observation) → observation log ≡ Some o → (path : List ℕ) → is_in (baseline_of o) path ≡ false → file_of (baseline log) path ≡ None
not-in log o stood path out = not-there (file_of (baseline log) path) (sym (row-there path (baseline log)) ∙ ap (λ (rows : List TreeRow). is_in rows path) (sym (baseline-stands log o stood)) ∙ out)

-- ---- the fact

-- the file began from the edit that its path has, and where it is new the baseline has none
pub record IsNow (log : Log) (path : List ℕ) (fact : FileFact) : Type 0 where
  pub origin : fact.origin ≡ edit log path
  pub new : is_create fact.action ≡ true → tree_file log (length (deltas log)) path ≡ None

abbrev pub AreNow : Log → Course → Type 0
AreNow log ss = holds_locks (phase_of ss) ≡ true → (path : List ℕ) (fact : FileFact) → file ss path ≡ Some fact → IsNow log path fact

-- ---- an event that is no pass of an integration leaves it

abbrev is_pass : EventKind → Bool
is_pass on.IPass = true
is_pass kind = false

stays : (log : Log) (maker : Maker) (c : Option ℕ) (kind : EventKind) → is_pass kind ≡ false → (path : List ℕ) (fact : FileFact) → IsNow log path fact → IsNow (event_by maker c kind ∷ log) path fact
stays log maker (Some n) on.IPass other path fact h = absurd (false≢true (sym other))
stays log maker (Some n) kind other path fact h = record { origin = h.origin; new = h.new }
stays log maker None kind other path fact h = record { origin = h.origin; new = h.new }

-- the pass of a change that hasn't the file leaves it too
passed-by : (log : Log) (maker : Maker) (m : ℕ) (path : List ℕ) (fact : FileFact) → file (course log m) path ≡ None → IsNow log path fact → IsNow (of_change maker m on.IPass ∷ log) path fact
passed-by log maker m path fact none h =
    let row : DeltaRow = record { delta = length (deltas log) + 1; change = m; when = maker.when; who = maker.who } in
    let same : past (of_change maker m on.IPass ∷ log) path ≡ past log path = ap (λ (f : Option FileFact). with_entry (length (deltas log) + 1) (frozen_file (frozen (course log m)) path) f (past log path)) none in
    let longer : length (deltas (of_change maker m on.IPass ∷ log)) ≡ length (deltas log) + 1 = length-append (deltas log) (row ∷ []) in
    record {
      origin = h.origin ∙ ap (λ (entries : List Entry). length entries) (sym same);
      new = λ creates. ap (λ (entries : List Entry). option_and_then (entry_file path) (last_up_to (length (deltas (of_change maker m on.IPass ∷ log))) entries)) same
          ∙ ap (λ k. option_and_then (entry_file path) (last_up_to k (past log path))) longer
          ∙ ap (option_and_then (entry_file path)) (last-more (length (deltas log)) (past log path) (past-there log path))
          ∙ h.new creates;
    }

-- ---- the event's own change

module _ (log : Log) (maker : Maker) (n : ℕ) (o : Observation) (stood : observation log ≡ Some o) (x : Change) (at_n : change_at o n ≡ Some x) (earlier : AreNow log (course log n)) where
  abbrev ss : Course
  ss = course log n

  here : IsOf log n x
  here = is-of log o n x stood at_n

  -- the files of a development that ends
  ended : ((file : ChangeFile) → In x.files file → IsReady o file) → (path : List ℕ) (fact : FileFact) → file ss path ≡ Some fact → IsNow log path fact
  ended ready path fact f =
      let made : ChangeFile = change_file_of path (frozen_version ss path) fact in
      let is : file_in x.files path ≡ Some made = ap (λ (y : Change). file_in y.files path) here.is ∙ at-files ss path ∙ ap (option_map (change_file_of path (frozen_version ss path))) f in
      let r = ready made (found-in by_text file_path x.files path made is) in
      record { origin = r.origin ∙ edit-stands log o stood path; new = λ creates. sym (at-baseline log path) ∙ not-in log o stood path (r.new creates) }

  held : (kind : EventKind) → is_pass kind ≡ false → holds_locks (phase_of ss) ≡ true → (path : List ℕ) (fact : FileFact) → file ss path ≡ Some fact → IsNow (of_change maker n kind ∷ log) path fact
  held kind other h path fact f = stays log maker (Some n) kind other path fact (earlier h path fact f)

  own : (kind : EventKind) → comes_in kind (phase_of ss) ≡ true → Said o x maker.who kind → AreNow (of_change maker n kind ∷ log) (continued kind (happens log maker n kind) ss)
  own (on.New b) c said h path fact f = absurd (false≢true c)
  own (on.Project name b) c said h path fact f = absurd (false≢true c)
  own (on.Attributes b) c said h path fact f = absurd (false≢true c)
  own (on.RoleAdd role user) c said h path fact f = absurd (false≢true c)
  own (on.RoleDrop role user) c said h path fact f = absurd (false≢true c)
  own on.NewUndo c said h path fact f = absurd (false≢true h)
  own (on.ChangeAttributes b) c said h path fact f = held (on.ChangeAttributes b) refl h path fact f
  own on.Begin c said h path fact f = absurd (false≢true h)
  own on.BeginUndo c said h path fact f = absurd (false≢true h)
  own (on.File q action usage origin) c said h path fact f = absurd (false≢true (sym (ap holds_locks (developed-is (phase_of ss) c)) ∙ h))
  own (on.Unfile q) c said h path fact f = absurd (false≢true (sym (ap holds_locks (developed-is (phase_of ss) c)) ∙ h))
  own (on.Run r) c said h path fact f = held (on.Run r) refl h path fact f
  own (on.End tree to places) c said h path fact f = stays log maker (Some n) (on.End tree to places) refl path fact (ended said.0 path fact f)
  own on.EndUndo c said h path fact f = absurd (false≢true h)
  own on.ReviewBegin c said h path fact f = held on.ReviewBegin refl (ap holds_locks (awaits_review-is (phase_of ss) c)) path fact f
  own on.ReviewBeginUndo c said h path fact f = held on.ReviewBeginUndo refl (ap holds_locks (reviewed-is (phase_of ss) c)) path fact f
  own on.Pass c said h path fact f = held on.Pass refl (ap holds_locks (reviewed-is (phase_of ss) c)) path fact f
  own on.PassUndo c said h path fact f = held on.PassUndo refl (ap holds_locks (awaits_integration-is (phase_of ss) c)) path fact f
  own on.Fail c said h path fact f = absurd (false≢true h)
  own on.IBegin c said h path fact f = held on.IBegin refl (ap holds_locks (awaits_integration-is (phase_of ss) c)) path fact f
  own on.IBeginUndo c said h path fact f = held on.IBeginUndo refl (ap holds_locks (integrated-is (phase_of ss) c)) path fact f
  own on.IPass c said h path fact f = absurd (false≢true h)
  own on.IFail c said h path fact f = absurd (false≢true h)

-- ---- another change

-- a change that holds a file has its lock
locked-by : (log : Log) (o : Observation) → observation log ≡ Some o → Sound o → (k : ℕ) (x : Change) → change_at o k ≡ Some x → IsOf log k x → holds_locks (phase_of (course log k)) ≡ true
    → (path : List ℕ) (fact : FileFact) → file (course log k) path ≡ Some fact → locked_of o path ≡ Some k
locked-by log o stood s k x at_k here held path fact f =
    let its-file : file_in x.files path ≡ Some (change_file_of path (frozen_version (course log k) path) fact) =
    ap (λ (y : Change). file_in y.files path) here.is ∙ at-files (course log k) path ∙ ap (option_map (change_file_of path (frozen_version (course log k) path))) f in
    s.locks.taken k x at_k (ap (λ (y : Change). holds_locks y.phase) here.is ∙ held) path (ap (λ (v : Option ChangeFile). is_some v) its-file)

-- a change that is there is found
pub there-found : (log : Log) (o : Observation) (k : ℕ) → observation log ≡ Some o → is_there (course log k) ≡ true → has_number change_numbers k ≡ true → (x : Change) × (change_at o k ≡ Some x)
there-found log o k stood there numbered = go (change_attributes (course log k)) refl there
  where
    go : (v : Option ChangeAttributes) → change_attributes (course log k) ≡ v → is_some v ≡ true → (x : Change) × (change_at o k ≡ Some x)
    go (Some b) e there =
        let w = attributes-of log o stood in
        (change_with k (course log k) b, ap (λ (q : Observation). change_at q k) (sym w.2) ∙ found log w.0 k numbered ∙ ap (option_map (change_with k (course log k))) e)
    go None e there = absurd (false≢true there)

-- and so is one that holds files
holder-found : (log : Log) (o : Observation) (k : ℕ) → observation log ≡ Some o → IsKnown k (course log k) → holds_locks (phase_of (course log k)) ≡ true → (x : Change) × (change_at o k ≡ Some x)
holder-found log o k stood (inl empty) h = absurd (false≢true (sym (ap (λ ss. holds_locks (phase_of ss)) empty) ∙ h))
holder-found log o k stood (inr known) h = there-found log o k stood known.0 known.1

-- no two changes hold a path
other-has-none : (log : Log) (o : Observation) → observation log ≡ Some o → Sound o → (m n : ℕ) → nat_eq m n ≡ false → (x : Change) → change_at o m ≡ Some x → holds_locks (phase_of (course log m)) ≡ true
    → IsKnown n (course log n) → holds_locks (phase_of (course log n)) ≡ true → (path : List ℕ) (fact : FileFact) → file (course log n) path ≡ Some fact → file (course log m) path ≡ None
other-has-none log o stood s m n apart x at_m m_holds known n_holds path fact f = go (file (course log m) path) refl
  where
    go : (v : Option FileFact) → file (course log m) path ≡ v → v ≡ None
    go (Some other) is =
        let y = holder-found log o n stood known n_holds in
        let one = locked-by log o stood s m x at_m (is-of log o m x stood at_m) m_holds path other is in
        let two = locked-by log o stood s n y.0 y.1 (is-of log o n y.0 stood y.1) n_holds path fact f in
        absurd (false≢true (sym apart ∙ ap (nat_eq m) (same_Some n m (sym two ∙ one)) ∙ by_number.same_self m))
    go None is = refl

-- ---- every change

other-step : (log : Log) (maker : Maker) (m : ℕ) (kind : EventKind) (o : Observation) → observation log ≡ Some o → Sound o → (x : Change) → change_at o m ≡ Some x → comes_in kind (phase_of (course log m)) ≡ true
    → (n : ℕ) → nat_eq m n ≡ false → IsKnown n (course log n) → AreNow log (course log n) → AreNow (of_change maker m kind ∷ log) (course log n)
other-step log maker m on.IPass o stood s x at_m comes n apart known now h path fact f =
    passed-by log maker m path fact (other-has-none log o stood s m n apart x at_m (ap holds_locks (integrated-is (phase_of (course log m)) comes)) known h path fact f) (now h path fact f)
other-step log maker m (on.Project name b) o stood s x at_m comes n apart known now h path fact f = absurd (false≢true comes)
other-step log maker m kind o stood s x at_m comes n apart known now h path fact f = stays log maker (Some m) kind refl path fact (now h path fact f)

each-step : (log : Log) (maker : Maker) (m : ℕ) (kind : EventKind) (o : Observation) → observation log ≡ Some o → Sound o → (x : Change) → change_at o m ≡ Some x → comes_in kind (phase_of (course log m)) ≡ true → Said o x maker.who kind
    → ((n : ℕ) → IsKnown n (course log n)) → ((n : ℕ) → AreNow log (course log n)) → (n : ℕ) → AreNow (of_change maker m kind ∷ log) (course (of_change maker m kind ∷ log) n)
each-step log maker m kind o stood s x at_m comes said known now n = go (nat_eq m n) refl
  where
    go : (b : Bool) → nat_eq m n ≡ b → AreNow (of_change maker m kind ∷ log) (cond b (continued kind (happens log maker m kind) (course log n)) (course log n))
    go true e = subst (λ k. AreNow (of_change maker m kind ∷ log) (continued kind (happens log maker m kind) (course log k))) (eqb-true m n e) (own log maker m o stood x at_m (now m) kind comes said)
    go false e = other-step log maker m kind o stood s x at_m comes n e (known n) (now n)

-- of one that is there
found-step : (log : Log) (maker : Maker) (m : ℕ) (kind : EventKind) (o : Observation) → observation log ≡ Some o → Sound o
    → IsSomeAnd (change_at o m) (λ (change : Change). (comes_in kind change.phase ≡ true) × Suits o change kind) → ((change : Change) → change_at o m ≡ Some change → Said o change maker.who kind)
    → ((n : ℕ) → IsKnown n (course log n)) → ((n : ℕ) → AreNow log (course log n)) → (n : ℕ) → AreNow (of_change maker m kind ∷ log) (course (of_change maker m kind ∷ log) n)
found-step log maker m kind o stood s there said known now = go (change_at o m) refl there
  where
    go : (v : Option Change) → change_at o m ≡ v → IsSomeAnd v (λ (change : Change). (comes_in kind change.phase ≡ true) × Suits o change kind) → (n : ℕ) → AreNow (of_change maker m kind ∷ log) (course (of_change maker m kind ∷ log) n)
    go (Some x) at_m h = each-step log maker m kind o stood s x at_m (ap (λ (y : Change). comes_in kind y.phase) (sym (is-of log o m x stood at_m).is) ∙ h.0) (said x at_m) known now
    go None at_m h = absurd h

event-step : (log : Log) (maker : Maker) (c : Option ℕ) (kind : EventKind) (v : Option Observation) → observation log ≡ v → ComesAfter log v (event_by maker c kind) → SaidAfter v (event_by maker c kind)
    → ((n : ℕ) → IsKnown n (course log n)) → ((n : ℕ) → AreNow log (course log n)) → (n : ℕ) → AreNow (event_by maker c kind ∷ log) (course (event_by maker c kind ∷ log) n)
event-step log maker None on.IPass (Some o) stood c said known now n = absurd c.applies.comes
event-step log maker None on.IPass None stood c said known now n = absurd c.1.project
event-step log maker None kind v stood c said known now n = λ h path fact f. stays log maker None kind refl path fact (now n h path fact f)
event-step log maker (Some m) kind None stood c said known now n = none-some m (sym c.1.no_change)
event-step log maker (Some m) (on.New b) (Some o) stood c said known now n = go (nat_eq m n)
  where
    go : (same : Bool) → AreNow (of_change maker m (on.New b) ∷ log) (cond same (happens log maker m (on.New b) ∷ []) (course log n))
    go true h path fact f = absurd (false≢true h)
    go false h path fact f = stays log maker (Some m) (on.New b) refl path fact (now n h path fact f)
event-step log maker (Some m) kind (Some o) stood c said known now n = found-step log maker m kind o stood c.sound c.applies.comes said known now n

pub now : (log : Log) → Rightly log → AllSaid log → (n : ℕ) → AreNow log (course log n)
now [] r said n h path fact f = absurd (false≢true h)
now (event ∷ log) r said n h path fact f =
    event-step log (maker_of event) event.change event.what (observation log) refl r.0 said.0 (λ k. ((facts log r.1).each k).known) (now log r.1 said.1) n h path fact f
