-- One more event of a change: what it leaves, and what it makes of the change.
use Rattle.std.proofs.Common.{◌≡◌, ℕ, refl, sym, ◌∙◌, ap, subst, List, ◌∷◌, map, Option, Some, None, Bool, true, false, cond, nat_eq, eqb-true}
use Rattle.std.specs.List.{filter_map}
use Rattle.std.specs.Option.{option_map}
use Rattle.std.proofs.lemmas.Bool.{and_right}
use Rattle.std.proofs.lemmas.Option.{same_Some}
use Rattle.ae_types.specs.declared.project.Attributes.{Attributes}
use Rattle.ae_types.specs.declared.change.Change.{Change}
use Rattle.ae_types.specs.declared.change.ChangeAttributes.{ChangeAttributes}
use Rattle.ae_types.specs.Observation.{Observation}
use Rattle.ae_types.specs.Found.{number_of_change, change_at}
use Rattle.ae_types.specs.Phases.{holds_locks}
use Rattle.ae_types.proofs.Keys.{by_number}
use Rattle.ae_types.proofs.Ordered.{member, at-filter_map, none-some}
use Rattle.ae_log.specs.declared.event.Event.{Event}
use Rattle.ae_log.specs.declared.event.EventKind.{EventKind}
use Rattle.ae_log.specs.Log.{Log, Course, Happened, course, continued}
use Rattle.ae_log.specs.Phases.{phase_of}
use Rattle.ae_log.specs.Settings.{attributes, change_attributes, is_there, change_numbers, numbers}
use Rattle.ae_log.specs.Baseline.{holds}
use Rattle.ae_log.specs.Observed.{observation, observation_with, change, change_with, lock, lock_of}
use Rattle.ae_log.specs.After.{after, where_number}
use Rattle.ae_log.specs.Maker.{Maker, event_by}
use Rattle.ae_log.proofs.Lists.{option_map-step, filter_map-step, filter-same, find-same}
use Rattle.ae_log.proofs.Listed.{own_change}

abbrev pub of_change : Maker → ℕ → EventKind → Event
of_change maker c kind = event_by maker (Some c) kind

abbrev pub of_none : Maker → EventKind → Event
of_none maker kind = event_by maker None kind

-- the event, and the log before it
abbrev pub happens : Log → Maker → ℕ → EventKind → Happened
happens log maker c kind = record { event = of_change maker c kind; before = log }

-- what stands is its parts
pub same-parts : (o q : Observation) → o.project ≡ q.project → o.numbers ≡ q.numbers → o.files ≡ q.files → o.locks ≡ q.locks → o.changes ≡ q.changes → o ≡ q
same-parts o q p n f l c = λ i. record { project = p i; numbers = n i; files = f i; locks = l i; changes = c i }

-- ---- facts of courses

-- a fact of the course, after an event of a change
pub course-fact : {A : Type 0} (f : Course → A) (log : Log) (maker : Maker) (c : ℕ) (kind : EventKind) (n : ℕ)
    → f (course (of_change maker c kind ∷ log) n) ≡ cond (nat_eq c n) (f (continued kind (happens log maker c kind) (course log n))) (f (course log n))
course-fact f log maker c kind n =
    elim (nat_eq c n) as (λ b. f (cond b (continued kind (happens log maker c kind) (course log n)) (course log n)) ≡ cond b (f (continued kind (happens log maker c kind) (course log n))) (f (course log n))) [
      | true ↦ refl
      | false ↦ refl
    ]

-- one that is as before for the event's own change is so for all
pub fact-same : {A : Type 0} (f : Course → A) (log : Log) (maker : Maker) (c : ℕ) (kind : EventKind) (n : ℕ)
    → (nat_eq c n ≡ true → f (continued kind (happens log maker c kind) (course log n)) ≡ f (course log n))
    → f (course (of_change maker c kind ∷ log) n) ≡ f (course log n)
fact-same f log maker c kind n this = course-fact f log maker c kind n ∙ go (nat_eq c n) refl
  where
    go : (b : Bool) → nat_eq c n ≡ b → cond b (f (continued kind (happens log maker c kind) (course log n))) (f (course log n)) ≡ f (course log n)
    go true e = this e
    go false e = refl

-- a number that isn't the event's
pub differ : (c n : ℕ) → (n ≡ c → ⊥) → nat_eq c n ≡ false
differ c n apart = go (nat_eq c n) refl
  where
    go : (b : Bool) → nat_eq c n ≡ b → b ≡ false
    go true e = absurd (apart (sym (eqb-true c n e)))
    go false e = refl

-- a fact of the event's change, and of the others
pub its-fact : {A : Type 0} (f : Course → A) (log : Log) (maker : Maker) (c : ℕ) (kind : EventKind) → f (course (of_change maker c kind ∷ log) c) ≡ f (continued kind (happens log maker c kind) (course log c))
its-fact f log maker c kind = course-fact f log maker c kind c ∙ ap (λ b. cond b (f (continued kind (happens log maker c kind) (course log c))) (f (course log c))) (by_number.same_self c)

pub other-fact : {A : Type 0} (f : Course → A) (log : Log) (maker : Maker) (c : ℕ) (kind : EventKind) (n : ℕ) → (n ≡ c → ⊥) → f (course (of_change maker c kind ∷ log) n) ≡ f (course log n)
other-fact f log maker c kind n apart = course-fact f log maker c kind n ∙ ap (λ b. cond b (f (continued kind (happens log maker c kind) (course log n))) (f (course log n))) (differ c n apart)

-- ---- an event that neither makes a change nor takes it away

abbrev pub GoesOn : EventKind → Type 0
GoesOn kind = (s : Happened) (ss : Course) → continued kind s ss ≡ s ∷ ss

-- what stands of the event's own change is changed by h
abbrev pub Moves : Log → Happened → ℕ → (Change → Change) → Type 0
Moves log s c h = (n : ℕ) → nat_eq c n ≡ true → change n (s ∷ course log n) ≡ option_map h (change n (course log n))

other_stays : (c n : ℕ) (h : Change → Change) (ss : Course) → nat_eq c n ≡ false → change n ss ≡ option_map (where_number c h) (change n ss)
other_stays c n h ss apart = option_map-step (change_with n ss) (change_with n ss) (where_number c h) (λ a. ap (λ b. cond b (h (change_with n ss a)) (change_with n ss a)) (sym apart)) (change_attributes ss)

own_moves : (c n : ℕ) (h : Change → Change) (ss : Course) → nat_eq c n ≡ true → option_map h (change n ss) ≡ option_map (where_number c h) (change n ss)
own_moves c n h ss same = go (change_attributes ss)
  where
    go : (o : Option ChangeAttributes) → option_map h (option_map (change_with n ss) o) ≡ option_map (where_number c h) (option_map (change_with n ss) o)
    go (Some a) = ap (λ b. Some (cond b (h (change_with n ss a)) (change_with n ss a))) (sym same)
    go None = refl

change-step : (log : Log) (maker : Maker) (c : ℕ) (kind : EventKind) (h : Change → Change) → GoesOn kind → Moves log (happens log maker c kind) c h
    → (n : ℕ) → change n (course (of_change maker c kind ∷ log) n) ≡ option_map (where_number c h) (change n (course log n))
change-step log maker c kind h goes this n =
    elim (nat_eq c n) as (λ b. nat_eq c n ≡ b → change n (cond b (continued kind (happens log maker c kind) (course log n)) (course log n)) ≡ option_map (where_number c h) (change n (course log n))) [
      | true ↦ λ e. ap (change n) (goes _ (course log n)) ∙ this n e ∙ own_moves c n h (course log n) e
      | false ↦ λ e. other_stays c n h (course log n) e
    ] refl

-- what an event makes of its own change it makes of that one among all
pub changes-step : (log : Log) (maker : Maker) (c : ℕ) (kind : EventKind) (h : Change → Change) → GoesOn kind → Moves log (happens log maker c kind) c h
    → filter_map (λ n. change n (course (of_change maker c kind ∷ log) n)) change_numbers ≡ map (where_number c h) (filter_map (λ n. change n (course log n)) change_numbers)
changes-step log maker c kind h goes this = filter_map-step _ (λ n. change n (course log n)) (where_number c h) (change-step log maker c kind h goes this) change_numbers

-- no number comes or goes where the event's own change is there as before
pub numbers-stay : (log : Log) (maker : Maker) (c : ℕ) (kind : EventKind)
    → ((n : ℕ) → nat_eq c n ≡ true → is_there (continued kind (happens log maker c kind) (course log n)) ≡ is_there (course log n))
    → numbers (of_change maker c kind ∷ log) ≡ numbers log
numbers-stay log maker c kind this = filter-same _ _ (λ n. fact-same is_there log maker c kind n (this n)) change_numbers

-- ---- locks that stay

-- no lock comes or goes where the event's own change holds as before
pub locks-stay : (log : Log) (maker : Maker) (c : ℕ) (kind : EventKind)
    → ((p : List ℕ) (n : ℕ) → nat_eq c n ≡ true → holds p (continued kind (happens log maker c kind) (course log n)) ≡ holds p (course log n))
    → (p : List ℕ) → lock (of_change maker c kind ∷ log) p ≡ lock log p
locks-stay log maker c kind this p =
    ap (option_map (lock_of p)) (find-same (λ n. holds p (course (of_change maker c kind ∷ log) n)) (λ n. holds p (course log n)) (λ n. fact-same (holds p) log maker c kind n (this p n)) change_numbers)

-- a change that holds none before and after
pub holds-none : (log : Log) (maker : Maker) (c : ℕ) (kind : EventKind) → holds_locks (phase_of (course log c)) ≡ false → holds_locks (phase_of (continued kind (happens log maker c kind) (course log c))) ≡ false
    → (p : List ℕ) (n : ℕ) → nat_eq c n ≡ true → holds p (continued kind (happens log maker c kind) (course log n)) ≡ holds p (course log n)
holds-none log maker c kind none none_then p n e = subst (λ m. holds p (continued kind (happens log maker c kind) (course log m)) ≡ holds p (course log m)) (eqb-true c n e) (and_right _ _ none_then ∙ sym (and_right _ _ none))

-- ---- what is found

-- what is found of a change is what its course tells
pub record IsOf (log : Log) (c : ℕ) (x : Change) : Type 0 where
  pub numbered : member by_number c change_numbers ≡ true
  pub given : ChangeAttributes
  pub has : change_attributes (course log c) ≡ Some given
  pub is : x ≡ change_with c (course log c) given

pub found-is : (log : Log) (a : Attributes) (c : ℕ) (x : Change) → change_at (observation_with log a) c ≡ Some x → IsOf log c x
found-is log a c x e = go (member by_number c change_numbers) refl (sym (at-filter_map by_number number_of_change (λ n. change n (course log n)) (own_change log) c change_numbers) ∙ e)
  where
    of : member by_number c change_numbers ≡ true → (b : Option ChangeAttributes) → change_attributes (course log c) ≡ b → option_map (change_with c (course log c)) b ≡ Some x → IsOf log c x
    of m (Some b) is f = record { numbered = m; given = b; has = is; is = sym (same_Some (change_with c (course log c) b) x f) }
    of m None is f = none-some x f

    go : (m : Bool) → member by_number c change_numbers ≡ m → cond m (change c (course log c)) None ≡ Some x → IsOf log c x
    go true m f = of m (change_attributes (course log c)) refl f
    go false m f = none-some x f

-- what stands of a change is found by its number
pub found : (log : Log) (a : Attributes) (c : ℕ) → member by_number c change_numbers ≡ true → change_at (observation_with log a) c ≡ change c (course log c)
found log a c is = at-filter_map by_number number_of_change (λ n. change n (course log n)) (own_change log) c change_numbers ∙ ap (λ b. cond b (change c (course log c)) None) is

-- ---- what stands with the attributes

-- a project that stands has its attributes
pub attributes-of : (log : Log) (o : Observation) → observation log ≡ Some o → (a : Attributes) × (attributes log ≡ Some a) × (observation_with log a ≡ o)
attributes-of log o e = go (attributes log) refl e
  where
    go : (b : Option Attributes) → attributes log ≡ b → option_map (observation_with log) b ≡ Some o → (a : Attributes) × (attributes log ≡ Some a) × (observation_with log a ≡ o)
    go (Some a) is f = (a, is, same_Some (observation_with log a) o f)
    go None is f = none-some o f

-- an event that leaves the attributes makes what stands after it
pub stands-after : (log : Log) (event : Event) (o : Observation) → attributes (event ∷ log) ≡ attributes log → observation log ≡ Some o
    → ((a : Attributes) → observation_with log a ≡ o → observation_with (event ∷ log) a ≡ after (observation_with log a) event)
    → observation (event ∷ log) ≡ Some (after o event)
stands-after log event o same stood this =
    let w = attributes-of log o stood in
    ap (option_map (observation_with (event ∷ log))) (same ∙ w.1) ∙ ap (λ q. Some q) (this w.0 w.2 ∙ ap (λ q. after q event) w.2)
