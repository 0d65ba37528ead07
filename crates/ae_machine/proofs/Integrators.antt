-- Who passes an integration began it rightly, and the change was developed by a developer.
use Rattle.std.proofs.Common.{◌≡◌, ℕ, refl, sym, ◌∙◌, ap, subst, List, [], ◌∷◌, Option, Some, None, Bool, true, false, cond, not, nat_eq, eqb-true}
use Rattle.std.specs.Prelude.{is_some, IsSomeAnd}
use Rattle.std.proofs.lemmas.Option.{same_Some}
use Rattle.std.proofs.lemmas.Bool.{false≢true}
use Rattle.ae_base.specs.declared.words.Phase.{Phase}
use Rattle.ae_base.specs.declared.words.Phase.TheVariants as phase
use Rattle.ae_base.specs.declared.words.Role.TheVariants.{Developer, Integrator}
use Rattle.ae_types.specs.declared.project.Attributes.{Attributes}
use Rattle.ae_types.specs.declared.change.Change.{Change}
use Rattle.ae_types.specs.Found.{change_at}
use Rattle.ae_types.specs.Observation.{Observation}
use Rattle.ae_types.specs.Phases.{is_awaiting_development, is_integrating}
use Rattle.ae_types.specs.Roles.{users_of, has_user}
use Rattle.ae_types.specs.Sound.{Sound}
use Rattle.ae_log.specs.declared.event.Event.{Event}
use Rattle.ae_log.specs.declared.event.EventKind.{EventKind}
use Rattle.ae_log.specs.declared.event.EventKind.TheVariants as on
use Rattle.ae_log.specs.Applies.{comes_in, Suits, ends_in}
use Rattle.ae_log.specs.Log.{Log, Happened, Course, makes, course, continued, standing, who_of}
use Rattle.ae_log.specs.Maker.{Maker, event_by, maker_of}
use Rattle.ae_log.specs.Observed.{observation}
use Rattle.ae_log.specs.People.{developer, developer_mark, reviewer, integrator_mark}
use Rattle.ae_log.specs.Phases.{phase_of}
use Rattle.ae_log.specs.Settings.{attributes, role_users}
use Rattle.ae_log.proofs.ChangeSteps.{integrated-is}
use Rattle.ae_log.proofs.Steps.{IsOf, attributes-of, happens, of_change}
use Rattle.ae_machine.specs.Facts.{ComesAfter, Rightly}
use Rattle.ae_machine.proofs.CandidateStands.{is-of}
use Rattle.ae_machine.specs.Integrators.{IsIntegration, IsDevelopment, HasPeople}
use Rattle.ae_machine.proofs.Said.{AllSaid}
use Rattle.ae_machine.proofs.Came.{Came, AllCame, course-came, standing-came, found-by, there-is}

-- ---- the begin of an integration, and of a development

pub record WasBegun (n : ℕ) (begun : Happened) : Type 0 where
  pub by_integrator : has_user (role_users begun.before Integrator) begun.event.who ≡ true
  pub not_developer : developer (course begun.before n) ≡ Some begun.event.who → IsSomeAnd (attributes begun.before) (λ (attributes : Attributes). attributes.developer_may_integrate ≡ true)
  pub not_reviewer : reviewer (course begun.before n) ≡ Some begun.event.who → IsSomeAnd (attributes begun.before) (λ (attributes : Attributes). attributes.reviewer_may_integrate ≡ true)

was-begun : (n : ℕ) (begun : Happened) → Came n begun → begun.event.what ≡ on.IBegin → WasBegun n begun
was-begun n begun c is =
    let f = found-by n begun on.IBegin c is (λ o h. there-is _ (change_at o n) h) in
    let w = attributes-of begun.before f.o f.stood in
    let x = is-of begun.before f.o n f.x f.stood f.at_n in
    record {
      by_integrator = ap (λ (q : Observation). has_user (users_of Integrator q.project) begun.event.who) w.2 ∙ f.said.0;
      not_developer = λ d. subst (λ (v : Option Attributes). IsSomeAnd v (λ (attributes : Attributes). attributes.developer_may_integrate ≡ true)) (sym w.1)
          (ap (λ (q : Observation). q.project.attributes.developer_may_integrate) w.2 ∙ f.said.1 (ap (λ (y : Change). y.developer) x.is ∙ d));
      not_reviewer = λ d. subst (λ (v : Option Attributes). IsSomeAnd v (λ (attributes : Attributes). attributes.reviewer_may_integrate ≡ true)) (sym w.1)
          (ap (λ (q : Observation). q.project.attributes.reviewer_may_integrate) w.2 ∙ f.said.2 (ap (λ (y : Change). y.reviewer) x.is ∙ d));
    }

was-developed : (n : ℕ) (begun : Happened) → Came n begun → begun.event.what ≡ on.Begin → IsDevelopment begun
was-developed n begun c is =
    let f = found-by n begun on.Begin c is (λ o h. there-is _ (change_at o n) h) in
    let w = attributes-of begun.before f.o f.stood in
    record { what = is; by_developer = ap (λ (q : Observation). has_user (users_of Developer q.project) begun.event.who) w.2 ∙ f.said }

integrator-makes : (kind : EventKind) → integrator_mark kind ≡ makes → kind ≡ on.IBegin
integrator-makes on.IBegin e = refl
integrator-makes _ e = cc

developer-makes : (kind : EventKind) → developer_mark kind ≡ makes → kind ≡ on.Begin
developer-makes on.Begin e = refl
developer-makes _ e = cc

-- ---- since an integration began

-- its change has the developer and the reviewer that it had then
pub record AreSame (n : ℕ) (ss : Course) (begun : Happened) : Type 0 where
  pub developer : developer (course begun.before n) ≡ developer ss
  pub reviewer : reviewer (course begun.before n) ≡ reviewer ss

abbrev pub AreSameSince : ℕ → Course → Type 0
AreSameSince n ss = is_integrating (phase_of ss) ≡ true → IsSomeAnd (standing integrator_mark ss) (AreSame n ss)

-- a development doesn't end in an integration
abbrev pub EndsElsewhere : EventKind → Type 0
EndsElsewhere (on.End tree to places) = ends_in to ≡ true
EndsElsewhere kind = Unit {0}

elsewhere : (to : Phase) → ends_in to ≡ true → is_integrating to ≡ true → ⊥
elsewhere phase.BeingIntegrated e i = false≢true e
elsewhere _ e i = cc

own-since : (log : Log) (maker : Maker) (n : ℕ) (kind : EventKind) → EndsElsewhere kind → AreSameSince n (course log n) → AreSameSince n (continued kind (happens log maker n kind) (course log n))
own-since log maker n (on.New attributes) ends since i = absurd (false≢true i)
own-since log maker n on.NewUndo ends since i = absurd (false≢true i)
own-since log maker n (on.End tree to places) ends since i = absurd (elsewhere to ends i)
own-since log maker n on.Begin ends since i = absurd (false≢true i)
own-since log maker n on.BeginUndo ends since i = absurd (false≢true i)
own-since log maker n on.EndUndo ends since i = absurd (false≢true i)
own-since log maker n on.ReviewBegin ends since i = absurd (false≢true i)
own-since log maker n on.ReviewBeginUndo ends since i = absurd (false≢true i)
own-since log maker n on.Pass ends since i = absurd (false≢true i)
own-since log maker n on.PassUndo ends since i = absurd (false≢true i)
own-since log maker n on.Fail ends since i = absurd (false≢true i)
own-since log maker n on.IBegin ends since i = record { developer = refl; reviewer = refl }
own-since log maker n on.IBeginUndo ends since i = absurd (false≢true i)
own-since log maker n on.IPass ends since i = absurd (false≢true i)
own-since log maker n on.IFail ends since i = absurd (false≢true i)
own-since log maker n kind ends since i = stays (standing integrator_mark (course log n)) (since i)
  where
    stays : (v : Option Happened) → IsSomeAnd v (AreSame n (course log n)) → IsSomeAnd v (AreSame n (happens log maker n kind ∷ course log n))
    stays (Some begun) h = record { developer = h.developer; reviewer = h.reviewer }
    stays None h = h

-- the ends of developments come rightly
ends-rightly : (log : Log) (maker : Maker) (n : ℕ) (kind : EventKind) (v : Option Observation) → ComesAfter log v (event_by maker (Some n) kind) → EndsElsewhere kind
ends-rightly log maker n (on.End tree to places) (Some o) c = go (change_at o n) c.applies.comes
  where
    go : (v : Option Change) → IsSomeAnd v (λ (change : Change). (comes_in (on.End tree to places) change.phase ≡ true) × Suits o change (on.End tree to places)) → ends_in to ≡ true
    go (Some x) h = h.1.fits.may_follow
    go None h = absurd h
ends-rightly log maker n (on.End tree to places) None c = absurd c.1.project
ends-rightly log maker n kind v c = tt

since-step : (log : Log) (maker : Maker) (c : Option ℕ) (kind : EventKind) (v : Option Observation) → ComesAfter log v (event_by maker c kind) → ((n : ℕ) → AreSameSince n (course log n)) → (n : ℕ) → AreSameSince n (course (event_by maker c kind ∷ log) n)
since-step log maker None kind v comes since n = since n
since-step log maker (Some m) kind v comes since n = go (nat_eq m n) refl
  where
    go : (b : Bool) → nat_eq m n ≡ b → AreSameSince n (cond b (continued kind (happens log maker m kind) (course log n)) (course log n))
    go true e = subst (λ k. AreSameSince k (continued kind (happens log maker m kind) (course log k))) (eqb-true m n e) (own-since log maker m kind (ends-rightly log maker m kind v comes) (since m))
    go false e = since n

since : (log : Log) → Rightly log → (n : ℕ) → AreSameSince n (course log n)
since [] r n i = absurd (false≢true i)
since (event ∷ log) r n i = since-step log (maker_of event) event.change event.what (observation log) r.0 (since log r.1) n i

-- ---- an integration that passes

module _ (log : Log) (r : Rightly log) (said : AllSaid log) (maker : Maker) (n : ℕ) (o : Observation) (stood : observation log ≡ Some o) (s : Sound o) (x : Change) (at_n : change_at o n ≡ Some x)
    (right : is_integrating x.phase ≡ true) (own : x.integrator ≡ Some maker.who) where
  abbrev ss : Course
  ss = course log n

  abbrev pass : Event
  pass = of_change maker n on.IPass

  all : AllCame n ss
  all = course-came log r said n

  here : IsOf log n x
  here = is-of log o n x stood at_n

  integrated : is_integrating (phase_of ss) ≡ true
  integrated = ap (λ (y : Change). is_integrating y.phase) (sym here.is) ∙ right

  by-begin : IsSomeAnd (standing integrator_mark ss) (IsIntegration ss pass)
  by-begin = go (standing integrator_mark ss) refl (ap (λ (y : Change). y.integrator) (sym here.is) ∙ own) (since log r n integrated)
    where
      go : (v : Option Happened) → standing integrator_mark ss ≡ v → who_of v ≡ Some maker.who → IsSomeAnd v (AreSame n ss) → IsSomeAnd v (IsIntegration ss pass)
      go (Some begun) is who same =
          let made = standing-came n integrator_mark ss all begun is in
          let what = integrator-makes begun.event.what made.makes in
          let was = was-begun n begun made.came what in
          let user : begun.event.who ≡ maker.who = same_Some begun.event.who maker.who who in
          record {
            what = what;
            same_user = user;
            by_integrator = ap (has_user (role_users begun.before Integrator)) (sym user) ∙ was.by_integrator;
            not_developer = λ d. was.not_developer (same.developer ∙ d ∙ ap (λ (u : List ℕ). Some u) (sym user));
            not_reviewer = λ d. was.not_reviewer (same.reviewer ∙ d ∙ ap (λ (u : List ℕ). Some u) (sym user));
          }
      go None is who same = absurd same

  by-developer : IsSomeAnd (standing developer_mark ss) IsDevelopment
  by-developer = go (standing developer_mark ss) refl
      (ap (λ (y : Change). is_some y.developer) (sym here.is) ∙ (s.changes.good n x at_n).people.developer ∙ ap (λ p. not (is_awaiting_development p)) (integrated-is x.phase right))
    where
      go : (v : Option Happened) → standing developer_mark ss ≡ v → is_some (who_of v) ≡ true → IsSomeAnd v IsDevelopment
      go (Some begun) is e = let made = standing-came n developer_mark ss all begun is in was-developed n begun made.came (developer-makes begun.event.what made.makes)
      go None is e = absurd (false≢true e)

  pub has-people : HasPeople ss pass
  has-people = record { developed = by-developer; integrated = by-begin }
