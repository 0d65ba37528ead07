-- What happened to a change came rightly, event by event, and so did what makes a fact of it.
use Rattle.std.proofs.Common.{◌≡◌, ℕ, refl, ap, subst, [], ◌∷◌, Option, Some, None, Bool, true, false, cond, nat_eq, eqb-true, sym, ◌∙◌}
use Rattle.std.specs.Prelude.{is_some, IsSomeAnd}
use Rattle.std.specs.Option.{option_eq}
use Rattle.std.proofs.lemmas.Option.{same_Some}
use Rattle.std.proofs.lemmas.Bool.{false≢true}
use Rattle.ae_types.specs.declared.change.Change.{Change}
use Rattle.ae_types.specs.Found.{change_at}
use Rattle.ae_types.specs.Observation.{Observation}
use Rattle.ae_types.proofs.Ordered.{none-some}
use Rattle.ae_log.specs.declared.event.EventKind.{EventKind}
use Rattle.ae_log.specs.declared.event.EventKind.TheVariants as on
use Rattle.ae_log.specs.Applies.{AppliesBy}
use Rattle.ae_log.specs.Log.{Log, Happened, Course, Mark, makes, ends, leaves, marked, course, continued, is_of, standing}
use Rattle.ae_log.specs.Observed.{observation}
use Rattle.ae_machine.specs.Facts.{ComesAfter, Rightly}
use Rattle.ae_machine.proofs.Said.{AllSaid, Said, SaidAfter, SaidBy}

-- the event is of this change, came rightly, and its conditions said so
pub record Came (n : ℕ) (happened : Happened) : Type 0 where
  pub change : happened.event.change ≡ Some n
  pub comes : ComesAfter happened.before (observation happened.before) happened.event
  pub said : SaidAfter (observation happened.before) happened.event

abbrev pub AllCame : ℕ → Course → Type 0
AllCame n [] = Unit {0}
AllCame n (happened ∷ course) = Came n happened × AllCame n course

its-number : (c : Option ℕ) (n : ℕ) → option_eq nat_eq c (Some n) ≡ true → c ≡ Some n
its-number (Some m) n e = ap (λ k. Some k) (eqb-true m n e)
its-number None n e = absurd (false≢true e)

continued-came : (n : ℕ) (kind : EventKind) (happened : Happened) (ss : Course) → Came n happened → AllCame n ss → AllCame n (continued kind happened ss)
continued-came n (on.New attributes) happened ss c all = (c, tt)
continued-came n on.NewUndo happened ss c all = tt
continued-came n kind happened ss c all = (c, all)

pub course-came : (log : Log) → Rightly log → AllSaid log → (n : ℕ) → AllCame n (course log n)
course-came [] r said n = tt
course-came (event ∷ log) r said n = go (is_of n event) refl (course-came log r.1 said.1 n)
  where
    go : (b : Bool) → is_of n event ≡ b → AllCame n (course log n) → AllCame n (cond b (continued event.what (record { event = event; before = log }) (course log n)) (course log n))
    go true is all = continued-came n event.what (record { event = event; before = log }) (course log n) (record { change = its-number event.change n is; comes = r.0; said = said.0 }) all
    go false is all = all

-- the event that makes a fact
pub record Makes (n : ℕ) (mark : EventKind → Mark) (happened : Happened) : Type 0 where
  pub came : Came n happened
  pub makes : mark happened.event.what ≡ makes

pub standing-came : (n : ℕ) (mark : EventKind → Mark) (ss : Course) → AllCame n ss → (happened : Happened) → standing mark ss ≡ Some happened → Makes n mark happened
standing-came n mark [] all happened e = none-some happened e
standing-came n mark (s ∷ ss) all happened e = go (mark s.event.what) refl e (standing-came n mark ss all.1 happened)
  where
    go : (m : Mark) → mark s.event.what ≡ m → marked m s (standing mark ss) ≡ Some happened → (standing mark ss ≡ Some happened → Makes n mark happened) → Makes n mark happened
    go makes is e rest = subst (Makes n mark) (same_Some s happened e) (record { came = all.0; makes = is })
    go ends is e rest = none-some happened e
    go leaves is e rest = rest e

-- ---- what an event of the change found

-- the project that stood, the change, and what the conditions said
pub record FoundBy (n : ℕ) (happened : Happened) (kind : EventKind) : Type 0 where
  pub o : Observation
  pub x : Change
  pub stood : observation happened.before ≡ Some o
  pub at_n : change_at o n ≡ Some x
  pub said : Said o x happened.event.who kind

pub found-by : (n : ℕ) (happened : Happened) (kind : EventKind) → Came n happened → happened.event.what ≡ kind → ((o : Observation) → AppliesBy o (Some n) kind → is_some (change_at o n) ≡ true) → FoundBy n happened kind
found-by n happened kind c is there = go (observation happened.before) refl c.comes c.said
  where
    of : (o : Observation) → observation happened.before ≡ Some o → SaidBy o happened.event (Some n) → (v : Option Change) → change_at o n ≡ v → is_some v ≡ true → FoundBy n happened kind
    of o stood said (Some x) at_n e = record { o = o; x = x; stood = stood; at_n = at_n; said = subst (λ (k : EventKind). Said o x happened.event.who k) is (said x at_n) }
    of o stood said None at_n e = absurd (false≢true e)

    go : (v : Option Observation) → observation happened.before ≡ v → ComesAfter happened.before v happened.event → SaidAfter v happened.event → FoundBy n happened kind
    go (Some o) stood comes said =
        of o stood (subst (λ (m : Option ℕ). SaidBy o happened.event m) c.change said) (change_at o n) refl
        (there o (subst (λ (k : EventKind). AppliesBy o (Some n) k) is (subst (λ (m : Option ℕ). AppliesBy o m happened.event.what) c.change comes.applies.comes)))
    go None stood comes said = none-some n (sym comes.1.no_change ∙ c.change)

pub there-is : (P : Change → Type 0) (v : Option Change) → IsSomeAnd v P → is_some v ≡ true
there-is P (Some x) h = refl
there-is P None h = absurd h
