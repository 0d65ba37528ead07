-- At each pass of an integration the change's files are of the edits that their paths have, and untouched since they were added.
use Rattle.std.proofs.Common.{◌≡◌, inl, inr, ℕ, ◌+◌, ◌≤◌, refl, sym, ◌∙◌, ap, subst, List, [], ◌∷◌, ◌++◌, Option, Some, None, Bool, true, false, cond, length, length-append, append-nil, append_assoc, arith}
use Rattle.std.specs.Prelude.{IsSomeAnd}
use Rattle.std.specs.Option.{option_and_then}
use Rattle.std.specs.Str.{bytes_eq}
use Rattle.std.proofs.lemmas.Bool.{le-leb}
use Rattle.std.proofs.lemmas.Option.{same_Some}
use Rattle.ae_types.specs.Phases.{holds_locks, is_integrating}
use Rattle.ae_types.specs.Trees.{unless_later}
use Rattle.ae_types.proofs.Keys.{by_text}
use Rattle.ae_types.proofs.Ordered.{none-some}
use Rattle.ae_log.specs.declared.event.Event.{Event}
use Rattle.ae_log.specs.declared.event.EventKind.{EventKind}
use Rattle.ae_log.specs.declared.event.EventKind.TheVariants as on
use Rattle.ae_log.specs.Baseline.{Entry, baseline, deltas, edit, entry_file, last_up_to, past}
use Rattle.ae_log.specs.Files.{FileFact, file, file_by, file_in, file_mark}
use Rattle.ae_log.specs.Log.{Log, Happened, Course, Mark, makes, ends, leaves, marked, course, continued, is_of, standing}
use Rattle.ae_log.specs.Phases.{phase_of}
use Rattle.ae_log.proofs.ChangeSteps.{integrated-is}
use Rattle.ae_machine.specs.Facts.{Rightly}
use Rattle.ae_machine.specs.Updates.{file_of}
use Rattle.ae_machine.proofs.CandidateStands.{at-baseline}
use Rattle.ae_machine.proofs.PassedBaseline.{AreThere, past-there}
use Rattle.ae_machine.specs.Updates.{IsUntouched, ReplacesItsOrigin}
use Rattle.ae_machine.proofs.Updates.{IsNow, now}
use Rattle.ae_machine.proofs.Filed.{AllFiled, Filed, past-grows}
use Rattle.ae_machine.proofs.Said.{AllSaid}

-- ---- what happened to a change, beside the log

-- what was added then began from an edit that its path had, and the pasts of all paths have grown since
pub record Before (log : Log) (happened : Happened) : Type 0 where
  pub filed : Filed happened.before happened.event.what
  pub grown : (path : List ℕ) → (later : List Entry) × (past log path ≡ past happened.before path ++ later)

abbrev pub AllBefore : Log → Course → Type 0
AllBefore log [] = Unit {0}
AllBefore log (happened ∷ course) = Before log happened × AllBefore log course

still-before : (event : Event) (log : Log) (ss : Course) → AllBefore log ss → AllBefore (event ∷ log) ss
still-before event log [] all = tt
still-before event log (s ∷ ss) all = (record { filed = all.0.filed; grown = grown }, still-before event log ss all.1)
  where
    grown : (path : List ℕ) → (later : List Entry) × (past (event ∷ log) path ≡ past s.before path ++ later)
    grown path =
        let now = past-grows event log path in
        let earlier = all.0.grown path in
        (earlier.0 ++ now.0, now.1 ∙ ap (λ (entries : List Entry). entries ++ now.0) earlier.1 ∙ append_assoc (past s.before path) earlier.0 now.0)

continued-before : (log : Log) (kind : EventKind) (happened : Happened) (ss : Course) → Before log happened → AllBefore log ss → AllBefore log (continued kind happened ss)
continued-before log (on.New attributes) happened ss b all = (b, tt)
continued-before log on.NewUndo happened ss b all = tt
continued-before log kind happened ss b all = (b, all)

course-before : (log : Log) → AllFiled log → (n : ℕ) → AllBefore log (course log n)
course-before [] filed n = tt
course-before (event ∷ log) filed n = go (is_of n event) (still-before event log (course log n) (course-before log filed.1 n))
  where
    go : (b : Bool) → AllBefore (event ∷ log) (course log n) → AllBefore (event ∷ log) (cond b (continued event.what (record { event = event; before = log }) (course log n)) (course log n))
    go true all = continued-before (event ∷ log) event.what (record { event = event; before = log }) (course log n) (record { filed = filed.0; grown = past-grows event log }) all
    go false all = all

-- the event that makes a fact
pub record MakesBefore (log : Log) (mark : EventKind → Mark) (happened : Happened) : Type 0 where
  pub then : Before log happened
  pub makes : mark happened.event.what ≡ makes

standing-before : (log : Log) (mark : EventKind → Mark) (ss : Course) → AllBefore log ss → (happened : Happened) → standing mark ss ≡ Some happened → MakesBefore log mark happened
standing-before log mark [] all happened e = none-some happened e
standing-before log mark (s ∷ ss) all happened e = go (mark s.event.what) refl e (standing-before log mark ss all.1 happened)
  where
    go : (m : Mark) → mark s.event.what ≡ m → marked m s (standing mark ss) ≡ Some happened → (standing mark ss ≡ Some happened → MakesBefore log mark happened) → MakesBefore log mark happened
    go makes is e rest = subst (MakesBefore log mark) (same_Some s happened e) (record { then = all.0; makes = is })
    go ends is e rest = none-some happened e
    go leaves is e rest = rest e

-- ---- a file that was added

added-le : (kind : EventKind) (before : Log) (path : List ℕ) (fact : FileFact) → file_mark path kind ≡ makes → file_in kind ≡ Some fact → Filed before kind → fact.origin ≤ edit before path
added-le (on.File other action usage origin) before path fact m is filed = go (bytes_eq path other) refl m
  where
    origin-is : origin ≡ fact.origin
    origin-is = ap (λ (f : FileFact). f.origin) (same_Some (record { action = action; usage = usage; origin = origin }) fact is)

    go : (b : Bool) → bytes_eq path other ≡ b → cond b makes leaves ≡ makes → fact.origin ≤ edit before path
    go true same m =
        let its : edit before path ≡ edit before other = ap (edit before) (by_text.same_is path other same) in
        let given = origin-is in
        omega (arith, filed, its, given)
    go false same m = cc
added-le kind before path fact m is filed = none-some fact is

nothing-more : (entries : List Entry) → length entries ≡ 0 → entries ≡ []
nothing-more [] e = refl
nothing-more (entry ∷ entries) e = absurd (omega (arith, e))

-- the last of all entries is the same up to each delta that has them all
same-last : (n m : ℕ) (entries : List Entry) → AreThere n entries → AreThere m entries → last_up_to n entries ≡ last_up_to m entries
same-last n m [] one two = refl
same-last n m (entry ∷ entries) one two =
    ap (λ b. cond b (unless_later entry (last_up_to n entries)) (last_up_to n entries)) (le-leb entry.delta n (one entry (inl refl)))
    ∙ ap (unless_later entry) (same-last n m entries (λ x h. one x (inr h)) (λ x h. two x (inr h)))
    ∙ sym (ap (λ b. cond b (unless_later entry (last_up_to m entries)) (last_up_to m entries)) (le-leb entry.delta m (two entry (inl refl))))

untouched-is : (log before : Log) (path : List ℕ) → past before path ≡ past log path → file_of (baseline before) path ≡ file_of (baseline log) path
untouched-is log before path same =
    at-baseline before path
    ∙ ap (option_and_then (entry_file path))
    (same-last (length (deltas before)) (length (deltas log)) (past before path) (past-there before path) (subst (AreThere (length (deltas log))) (sym same) (past-there log path))
    ∙ ap (last_up_to (length (deltas log))) same)
    ∙ sym (at-baseline log path)

-- an edit that was there then is that of now only where nothing came since
untouched : (log : Log) (path : List ℕ) (fact : FileFact) (added : Happened) → MakesBefore log (file_mark path) added → file_in added.event.what ≡ Some fact → fact.origin ≡ edit log path → IsUntouched log path added
untouched log path fact added m is origin =
    let g = m.then.grown path in
    let le = added-le added.event.what added.before path fact m.makes is m.then.filed in
    let longer : edit log path ≡ edit added.before path + length g.0 = ap (λ (entries : List Entry). length entries) g.1 ∙ length-append (past added.before path) g.0 in
    let none = nothing-more g.0 (omega (arith, le, longer, origin)) in
    let same : past added.before path ≡ past log path = sym (append-nil (past added.before path)) ∙ ap (λ (later : List Entry). past added.before path ++ later) (sym none) ∙ sym g.1 in
    record { past = same; baseline = untouched-is log added.before path same }

-- ---- an integration that passes

replaces : (log : Log) (n : ℕ) → AllFiled log → (path : List ℕ) (fact : FileFact) → file (course log n) path ≡ Some fact → IsNow log path fact → ReplacesItsOrigin log n path fact
replaces log n filed path fact f is = record {
  origin = is.origin;
  untouched = go (standing (file_mark path) (course log n)) refl f;
  new = λ creates. at-baseline log path ∙ is.new creates;
}
  where
    go : (v : Option Happened) → standing (file_mark path) (course log n) ≡ v → file_by v ≡ Some fact → IsSomeAnd v (IsUntouched log path)
    go (Some added) there e = untouched log path fact added (standing-before log (file_mark path) (course log n) (course-before log filed n) added there) e is.origin
    go None there e = none-some fact e

pub none-lost : (log : Log) → Rightly log → AllSaid log → AllFiled log → (n : ℕ) → is_integrating (phase_of (course log n)) ≡ true → (path : List ℕ) (fact : FileFact) → file (course log n) path ≡ Some fact → ReplacesItsOrigin log n path fact
none-lost log r said filed n integrated path fact f = replaces log n filed path fact f (now log r said n (ap holds_locks (integrated-is (phase_of (course log n)) integrated)) path fact f)
