-- A completed change is in the delta that names it: with what it had frozen of each of its files.
use Rattle.std.proofs.Common.{◌≡◌, inl, inr, ℕ, ◌+◌, ◌<◌, refl, sym, ◌∙◌, ap, subst, List, [], ◌∷◌, ◌++◌, Option, Some, None, Bool, true, false, cond, ◌||◌, nat_eq, eqb-true, length, arith}
use Rattle.std.specs.Prelude.{IsSomeAnd}
use Rattle.std.specs.List.{find}
use Rattle.std.specs.Option.{option_map}
use Rattle.std.proofs.lemmas.Bool.{false≢true}
use Rattle.std.proofs.lemmas.Option.{same_Some}
use Rattle.ae_base.specs.declared.words.Phase.{Phase}
use Rattle.ae_base.specs.declared.words.Phase.TheVariants as phase
use Rattle.ae_types.specs.declared.change.Change.{Change}
use Rattle.ae_types.specs.declared.change.ChangeFile.{ChangeFile}
use Rattle.ae_types.specs.declared.project.DeltaRow.{DeltaRow}
use Rattle.ae_types.specs.Found.{change_at, delta_of, has_number}
use Rattle.ae_types.specs.Frozen.{frozen_file, version_of}
use Rattle.ae_types.specs.Observation.{Observation}
use Rattle.ae_types.specs.Phases.{holds_locks, is_completed}
use Rattle.ae_types.specs.Sound.{Sound}
use Rattle.ae_types.proofs.Keys.{by_number}
use Rattle.ae_types.proofs.Members.{In, some-in}
use Rattle.ae_types.proofs.Ordered.{apart, none-some}
use Rattle.ae_log.specs.declared.event.EventKind.{EventKind}
use Rattle.ae_log.specs.declared.event.EventKind.TheVariants as on
use Rattle.ae_log.specs.Applies.{Suits, comes_in, ends_in}
use Rattle.ae_log.specs.Baseline.{Entry, deltas, past, with_entry}
use Rattle.ae_log.specs.Files.{FileFact, file, frozen, course_paths}
use Rattle.ae_log.specs.Log.{Log, Course, course, continued}
use Rattle.ae_log.specs.Maker.{Maker, event_by, maker_of}
use Rattle.ae_log.specs.Observed.{change_file, change_file_of, change_files, frozen_version, observation}
use Rattle.ae_log.specs.Phases.{phase_of}
use Rattle.ae_log.proofs.ChangeSteps.{developed-is, awaits_review-is, reviewed-is, awaits_integration-is, integrated-is}
use Rattle.ae_log.proofs.Steps.{IsOf, happens, of_change}
use Rattle.ae_machine.specs.Facts.{ComesAfter, IsKnown, Rightly}
use Rattle.ae_machine.proofs.CandidateStands.{is-of}
use Rattle.ae_machine.proofs.FactSteps.{facts}
use Rattle.ae_machine.proofs.PassedBaseline.{AreThere, past-there}
use Rattle.ae_machine.proofs.Updates.{there-found}
use Rattle.ae_machine.proofs.Said.{AllSaid, Said, SaidAfter}

-- ---- what is found after one more

find-more : {A : Type 0} (t : A → Bool) (xs : List A) (y found : A) → find t xs ≡ Some found → find t (xs ++ y ∷ []) ≡ Some found
find-more t [] y found e = none-some found e
find-more t (x ∷ xs) y found e = go (t x) e (find-more t xs y found)
  where
    go : (b : Bool) → cond b (Some x) (find t xs) ≡ Some found → (find t xs ≡ Some found → find t (xs ++ y ∷ []) ≡ Some found) → cond b (Some x) (find t (xs ++ y ∷ [])) ≡ Some found
    go true e rest = e
    go false e rest = rest e

find-last : {A : Type 0} (t : A → Bool) (xs : List A) (y : A) → find t xs ≡ None → find t (xs ++ y ∷ []) ≡ cond (t y) (Some y) None
find-last t [] y e = refl
find-last t (x ∷ xs) y e = go (t x) e (find-last t xs y)
  where
    go : (b : Bool) → cond b (Some x) (find t xs) ≡ None → (find t xs ≡ None → find t (xs ++ y ∷ []) ≡ cond (t y) (Some y) None) → cond b (Some x) (find t (xs ++ y ∷ [])) ≡ cond (t y) (Some y) None
    go true e rest = cc
    go false e rest = rest e

-- the entry of a delta
abbrev pub entry_of : List Entry → ℕ → Option Entry
entry_of entries delta = find (λ (entry : Entry). nat_eq delta entry.delta) entries

no-entry : (entries : List Entry) (n delta : ℕ) → AreThere n entries → n < delta → entry_of entries delta ≡ None
no-entry [] n delta there less = refl
no-entry (entry ∷ entries) n delta there less =
    ap (λ b. cond b (Some entry) (entry_of entries delta)) (apart by_number delta entry.delta (λ is. let same : delta ≡ entry.delta = is in let le = there entry (inl refl) in omega (arith, same, le, less)))
    ∙ no-entry entries n delta (λ x m. there x (inr m)) less

-- ---- the facts

abbrev pub entry_made : ℕ → FileFact → Course → List ℕ → Entry
entry_made delta fact course path = record { delta = delta; usage = fact.usage; version = version_of (frozen_file (frozen course) path) }

-- a delta names the change, and has of each of its files what it froze
pub record IsMade (log : Log) (n : ℕ) (ss : Course) : Type 0 where
  pub row : DeltaRow
  pub named : delta_of (deltas log) n ≡ Some row
  pub entries : (path : List ℕ) (fact : FileFact) → file ss path ≡ Some fact → entry_of (past log path) row.delta ≡ Some (entry_made row.delta fact ss path)

-- the change has a file
pub record HasFile (ss : Course) : Type 0 where
  pub path : List ℕ
  pub fact : FileFact
  pub there : file ss path ≡ Some fact

abbrev pub is_frozen : Phase → Bool
is_frozen p = holds_locks p || is_completed p

pub record IsKept (log : Log) (n : ℕ) (ss : Course) : Type 0 where
  pub filed : is_frozen (phase_of ss) ≡ true → HasFile ss
  pub none : is_completed (phase_of ss) ≡ false → delta_of (deltas log) n ≡ None
  pub made : is_completed (phase_of ss) ≡ true → IsMade log n ss

-- ---- another change's event

abbrev is_pass : EventKind → Bool
is_pass on.IPass = true
is_pass kind = false

stays : (log : Log) (maker : Maker) (c : Option ℕ) (kind : EventKind) → is_pass kind ≡ false → (n : ℕ) (ss : Course) → IsKept log n ss → IsKept (event_by maker c kind ∷ log) n ss
stays log maker (Some m) on.IPass other n ss k = absurd (false≢true (sym other))
stays log maker (Some m) kind other n ss k = record { filed = k.filed; none = k.none; made = λ h. let made = k.made h in record { row = made.row; named = made.named; entries = made.entries } }
stays log maker None kind other n ss k = record { filed = k.filed; none = k.none; made = λ h. let made = k.made h in record { row = made.row; named = made.named; entries = made.entries } }

abbrev row_made : Log → Maker → ℕ → DeltaRow
row_made log maker m = record { delta = length (deltas log) + 1; change = m; when = maker.when; who = maker.who }

other-pass : (log : Log) (maker : Maker) (m n : ℕ) (ss : Course) → nat_eq n m ≡ false → IsKept log n ss → IsKept (of_change maker m on.IPass ∷ log) n ss
other-pass log maker m n ss differs k = record {
  filed = k.filed;
  none = λ h. find-last (λ (row : DeltaRow). nat_eq n row.change) (deltas log) (row_made log maker m) (k.none h) ∙ ap (λ b. cond b (Some (row_made log maker m)) None) differs;
  made = λ h.
      let made = k.made h in
      record {
        row = made.row;
        named = find-more (λ (row : DeltaRow). nat_eq n row.change) (deltas log) (row_made log maker m) made.row made.named;
        entries = λ path fact f. more path (file (course log m) path) made.row.delta (entry_made made.row.delta fact ss path) (made.entries path fact f);
      };
}
  where
    more : (path : List ℕ) (v : Option FileFact) (delta : ℕ) (entry : Entry) → entry_of (past log path) delta ≡ Some entry → entry_of (with_entry (length (deltas log) + 1) (frozen_file (frozen (course log m)) path) v (past log path)) delta ≡ Some entry
    more path (Some fact) delta entry e = find-more (λ (x : Entry). nat_eq delta x.delta) (past log path) (record { delta = length (deltas log) + 1; usage = fact.usage; version = version_of (frozen_file (frozen (course log m)) path) }) entry e
    more path None delta entry e = e

-- ---- the event's own change

none-comes : (kind : EventKind) → comes_in kind phase.Completed ≡ true → ⊥
none-comes on.NewUndo e = false≢true e
none-comes kind e = false≢true e

not-done : (kind : EventKind) (p : Phase) → comes_in kind p ≡ true → is_completed p ≡ false
not-done kind phase.Completed e = absurd (none-comes kind e)
not-done kind p e = refl

not-completed : (to : Phase) → ends_in to ≡ true → is_completed to ≡ false
not-completed phase.Completed e = absurd (false≢true e)
not-completed to e = refl

module _ (log : Log) (maker : Maker) (n : ℕ) (o : Observation) (stood : observation log ≡ Some o) (x : Change) (at_n : change_at o n ≡ Some x) (k : IsKept log n (course log n)) where
  abbrev ss : Course
  ss = course log n

  here : IsOf log n x
  here = is-of log o n x stood at_n

  -- a development that ends has a file
  ended : nat_eq (length x.files) 0 ≡ false → HasFile ss
  ended some = first (change_files ss) (λ file m. m) (sym (ap (λ (y : Change). nat_eq (length y.files) 0) here.is) ∙ some)
    where
      of : (path : List ℕ) (made : ChangeFile) (v : Option FileFact) → file ss path ≡ v → option_map (change_file_of path (frozen_version ss path)) v ≡ Some made → HasFile ss
      of path made (Some fact) is e = record { path = path; fact = fact; there = is }
      of path made None is e = none-some made e

      first : (files : List ChangeFile) → ((file : ChangeFile) → In files file → In (change_files ss) file) → nat_eq (length files) 0 ≡ false → HasFile ss
      first [] within some = absurd (false≢true (sym some))
      first (made ∷ files) within some =
          let from = some-in (change_file ss) (course_paths ss) made (within made (inl refl)) in
          of from.0 made (file ss from.0) refl from.2

  -- an event after which it holds no files, or still holds them
  free : (kind : EventKind) (later : Course) → is_pass kind ≡ false → comes_in kind (phase_of ss) ≡ true → is_frozen (phase_of later) ≡ false → is_completed (phase_of later) ≡ false → IsKept (of_change maker n kind ∷ log) n later
  free kind later other c idle undone =
      stays log maker (Some n) kind other n later (record { filed = λ h. absurd (false≢true (sym idle ∙ h)); none = λ h. k.none (not-done kind (phase_of ss) c); made = λ h. absurd (false≢true (sym undone ∙ h)) })

  holding : (kind : EventKind) (later : Course) → is_pass kind ≡ false → comes_in kind (phase_of ss) ≡ true → is_completed (phase_of later) ≡ false → (is_frozen (phase_of later) ≡ true → HasFile later) → IsKept (of_change maker n kind ∷ log) n later
  holding kind later other c undone has =
      stays log maker (Some n) kind other n later (record { filed = has; none = λ h. k.none (not-done kind (phase_of ss) c); made = λ h. absurd (false≢true (sym undone ∙ h)) })

  -- what it had is there still
  same-file : (later : Course) → ((path : List ℕ) → file later path ≡ file ss path) → HasFile ss → HasFile later
  same-file later same h = record { path = h.path; fact = h.fact; there = same h.path ∙ h.there }

  e : (kind : EventKind) → Course
  e kind = happens log maker n kind ∷ ss

  passed : comes_in on.IPass (phase_of ss) ≡ true → IsKept (of_change maker n on.IPass ∷ log) n (happens log maker n on.IPass ∷ ss)
  passed c = record {
    filed = λ h. same-file (happens log maker n on.IPass ∷ ss) (λ path. refl) (k.filed (ap is_frozen (integrated-is (phase_of ss) c)));
    none = λ h. absurd (false≢true (sym h));
    made = λ h. record {
      row = row_made log maker n;
      named = find-last (λ (row : DeltaRow). nat_eq n row.change) (deltas log) (row_made log maker n) (k.none (not-done on.IPass (phase_of ss) c)) ∙ ap (λ b. cond b (Some (row_made log maker n)) None) (by_number.same_self n);
      entries = λ path fact f. new path (file ss path) fact f;
    };
  }
    where
      new : (path : List ℕ) (v : Option FileFact) (fact : FileFact) → v ≡ Some fact
          → entry_of (with_entry (length (deltas log) + 1) (frozen_file (frozen ss) path) v (past log path)) (length (deltas log) + 1) ≡ Some (entry_made (length (deltas log) + 1) fact ss path)
      new path (Some other) fact is =
          let delta = length (deltas log) + 1 in
          let made : Entry = entry_made delta other ss path in
          find-last (λ (x : Entry). nat_eq delta x.delta) (past log path) made (no-entry (past log path) (length (deltas log)) delta (past-there log path) (omega arith))
          ∙ ap (λ b. cond b (Some made) None) (by_number.same_self delta)
          ∙ ap (λ (f : FileFact). Some (entry_made delta f ss path)) (same_Some other fact is)
      new path None fact is = none-some fact is

  own : (kind : EventKind) → comes_in kind (phase_of ss) ≡ true → Suits o x kind → Said o x maker.who kind → IsKept (of_change maker n kind ∷ log) n (continued kind (happens log maker n kind) ss)
  own (on.New b) c suits said = absurd (false≢true c)
  own (on.Project name b) c suits said = absurd (false≢true c)
  own (on.Attributes b) c suits said = absurd (false≢true c)
  own (on.RoleAdd role user) c suits said = absurd (false≢true c)
  own (on.RoleDrop role user) c suits said = absurd (false≢true c)
  own on.NewUndo c suits said = free on.NewUndo [] refl c refl refl
  own (on.ChangeAttributes b) c suits said = holding (on.ChangeAttributes b) _ refl c (not-done (on.ChangeAttributes b) (phase_of ss) c) (λ h. same-file _ (λ path. refl) (k.filed h))
  own on.Begin c suits said = free on.Begin _ refl c refl refl
  own on.BeginUndo c suits said = free on.BeginUndo _ refl c refl refl
  own (on.File q action usage origin) c suits said = free (on.File q action usage origin) _ refl c (ap is_frozen (developed-is (phase_of ss) c)) (ap is_completed (developed-is (phase_of ss) c))
  own (on.Unfile q) c suits said = free (on.Unfile q) _ refl c (ap is_frozen (developed-is (phase_of ss) c)) (ap is_completed (developed-is (phase_of ss) c))
  own (on.Run r) c suits said = holding (on.Run r) _ refl c (not-done (on.Run r) (phase_of ss) c) (λ h. same-file _ (λ path. refl) (k.filed h))
  own (on.End tree to places) c suits said = holding (on.End tree to places) _ refl c (not-completed to suits.fits.may_follow) (λ h. same-file _ (λ path. refl) (ended said.1))
  own on.EndUndo c suits said = free on.EndUndo _ refl c refl refl
  own on.ReviewBegin c suits said = holding on.ReviewBegin _ refl c refl (λ h. same-file _ (λ path. refl) (k.filed (ap is_frozen (awaits_review-is (phase_of ss) c))))
  own on.ReviewBeginUndo c suits said = holding on.ReviewBeginUndo _ refl c refl (λ h. same-file _ (λ path. refl) (k.filed (ap is_frozen (reviewed-is (phase_of ss) c))))
  own on.Pass c suits said = holding on.Pass _ refl c refl (λ h. same-file _ (λ path. refl) (k.filed (ap is_frozen (reviewed-is (phase_of ss) c))))
  own on.PassUndo c suits said = holding on.PassUndo _ refl c refl (λ h. same-file _ (λ path. refl) (k.filed (ap is_frozen (awaits_integration-is (phase_of ss) c))))
  own on.Fail c suits said = free on.Fail _ refl c refl refl
  own on.IBegin c suits said = holding on.IBegin _ refl c refl (λ h. same-file _ (λ path. refl) (k.filed (ap is_frozen (awaits_integration-is (phase_of ss) c))))
  own on.IBeginUndo c suits said = holding on.IBeginUndo _ refl c refl (λ h. same-file _ (λ path. refl) (k.filed (ap is_frozen (integrated-is (phase_of ss) c))))
  own on.IPass c suits said = passed c
  own on.IFail c suits said = free on.IFail _ refl c refl refl

-- ---- every change

other-step : (log : Log) (maker : Maker) (m : ℕ) (kind : EventKind) (n : ℕ) (ss : Course) → nat_eq n m ≡ false → IsKept log n ss → IsKept (of_change maker m kind ∷ log) n ss
other-step log maker m on.IPass n ss differs k = other-pass log maker m n ss differs k
other-step log maker m kind n ss differs k = stays log maker (Some m) kind refl n ss k

differ : (m n : ℕ) → nat_eq m n ≡ false → nat_eq n m ≡ false
differ m n e = apart by_number n m (λ is. false≢true (sym e ∙ ap (nat_eq m) is ∙ by_number.same_self m))

each-step : (log : Log) (maker : Maker) (m : ℕ) (kind : EventKind) (n : ℕ) → IsKept (of_change maker m kind ∷ log) m (continued kind (happens log maker m kind) (course log m)) → IsKept log n (course log n)
    → IsKept (of_change maker m kind ∷ log) n (course (of_change maker m kind ∷ log) n)
each-step log maker m kind n own k = go (nat_eq m n) refl
  where
    go : (b : Bool) → nat_eq m n ≡ b → IsKept (of_change maker m kind ∷ log) n (cond b (continued kind (happens log maker m kind) (course log n)) (course log n))
    go true e = subst (λ i. IsKept (of_change maker m kind ∷ log) i (continued kind (happens log maker m kind) (course log i))) (eqb-true m n e) own
    go false e = other-step log maker m kind n (course log n) (differ m n e) k

-- of one that is there
found-step : (log : Log) (maker : Maker) (m : ℕ) (kind : EventKind) (o : Observation) → observation log ≡ Some o
    → IsSomeAnd (change_at o m) (λ (change : Change). (comes_in kind change.phase ≡ true) × Suits o change kind) → ((change : Change) → change_at o m ≡ Some change → Said o change maker.who kind)
    → ((n : ℕ) → IsKept log n (course log n)) → (n : ℕ) → IsKept (of_change maker m kind ∷ log) n (course (of_change maker m kind ∷ log) n)
found-step log maker m kind o stood there said kept n = go (change_at o m) refl there
  where
    go : (v : Option Change) → change_at o m ≡ v → IsSomeAnd v (λ (change : Change). (comes_in kind change.phase ≡ true) × Suits o change kind) → IsKept (of_change maker m kind ∷ log) n (course (of_change maker m kind ∷ log) n)
    go (Some x) at_m h =
        each-step log maker m kind n
        (own log maker m o stood x at_m (kept m) kind (ap (λ (y : Change). comes_in kind y.phase) (sym (is-of log o m x stood at_m).is) ∙ h.0) h.1 (said x at_m))
        (kept n)
    go None at_m h = absurd h

-- of a new one, to which nothing happened
not-there : (log : Log) (o : Observation) → observation log ≡ Some o → Sound o → (n : ℕ) → has_number o.numbers n ≡ false → IsKnown n (course log n) → is_completed (phase_of (course log n)) ≡ false
not-there log o stood s n free (inl empty) = ap (λ ss. is_completed (phase_of ss)) empty
not-there log o stood s n free (inr known) =
    let y = there-found log o n stood known.0 known.1 in
    absurd (false≢true (sym free ∙ s.changes.numbered n y.0 y.1))

new-step : (log : Log) (maker : Maker) (m : ℕ) (kind : EventKind) (later : Course) → is_pass kind ≡ false → is_frozen (phase_of later) ≡ false → is_completed (phase_of later) ≡ false → is_completed (phase_of (course log m)) ≡ false
    → IsKept log m (course log m) → IsKept (of_change maker m kind ∷ log) m later
new-step log maker m kind later other idle undone before k =
    stays log maker (Some m) kind other m later (record { filed = λ h. absurd (false≢true (sym idle ∙ h)); none = λ h. k.none before; made = λ h. absurd (false≢true (sym undone ∙ h)) })

event-step : (log : Log) (maker : Maker) (c : Option ℕ) (kind : EventKind) (v : Option Observation) → observation log ≡ v → ComesAfter log v (event_by maker c kind) → SaidAfter v (event_by maker c kind)
    → ((n : ℕ) → IsKnown n (course log n)) → ((n : ℕ) → IsKept log n (course log n)) → (n : ℕ) → IsKept (event_by maker c kind ∷ log) n (course (event_by maker c kind ∷ log) n)
event-step log maker None on.IPass (Some o) stood c said known kept n = absurd c.applies.comes
event-step log maker None on.IPass None stood c said known kept n = absurd c.1.project
event-step log maker None kind v stood c said known kept n = stays log maker None kind refl n (course log n) (kept n)
event-step log maker (Some m) kind None stood c said known kept n = none-some m (sym c.1.no_change)
event-step log maker (Some m) (on.New b) (Some o) stood c said known kept n =
    each-step log maker m (on.New b) n (new-step log maker m (on.New b) (happens log maker m (on.New b) ∷ []) refl refl refl (not-there log o stood c.sound m c.applies.comes.1 (known m)) (kept m)) (kept n)
event-step log maker (Some m) kind (Some o) stood c said known kept n = found-step log maker m kind o stood c.applies.comes said kept n

pub kept : (log : Log) → Rightly log → AllSaid log → (n : ℕ) → IsKept log n (course log n)
kept [] r said n = record { filed = λ h. absurd (false≢true h); none = λ h. refl; made = λ h. absurd (false≢true h) }
kept (event ∷ log) r said n = event-step log (maker_of event) event.change event.what (observation log) refl r.0 said.0 (λ k. ((facts log r.1).each k).known) (kept log r.1 said.1) n
