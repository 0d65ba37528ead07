-- An event of a change that is there, with what is found of the change.
use Rattle.std.proofs.Common.{◌≡◌, ℕ, refl, sym, ◌∙◌, ap, subst, List, ◌∷◌, Option, Some, None, true, nat_eq, eqb-true, ◌&&◌}
use Rattle.std.specs.Prelude.{is_some, IsSomeAnd}
use Rattle.ae_base.specs.declared.words.Phase.{Phase}
use Rattle.ae_base.specs.declared.words.Phase.TheVariants as phase
use Rattle.ae_types.specs.declared.project.Attributes.{Attributes}
use Rattle.ae_types.specs.declared.change.Change.{Change}
use Rattle.ae_types.specs.Observation.{Observation}
use Rattle.ae_types.specs.Found.{change_at}
use Rattle.ae_types.specs.Phases.{is_awaiting_development, is_integrating, holds_locks}
use Rattle.ae_log.specs.declared.event.EventKind.{EventKind}
use Rattle.ae_log.specs.Log.{Log, course, continued}
use Rattle.ae_log.specs.Phases.{phase_of}
use Rattle.ae_log.specs.Settings.{attributes, is_there}
use Rattle.ae_log.specs.Files.{file}
use Rattle.ae_log.specs.Baseline.{holds}
use Rattle.ae_log.specs.Observed.{observation, observation_with}
use Rattle.ae_log.specs.After.{after}
use Rattle.ae_log.specs.Applies.{comes_in, Suits, is_being_developed, is_awaiting_review, is_being_reviewed, is_awaiting_integration}
use Rattle.ae_log.specs.Maker.{Maker}
use Rattle.ae_log.proofs.Steps.{of_change, happens, IsOf, found-is, stands-after}

-- ---- phases

pub awaits-is : (p : Phase) → is_awaiting_development p ≡ true → p ≡ phase.AwaitingDevelopment
awaits-is phase.AwaitingDevelopment e = refl
awaits-is _ e = cc

pub developed-is : (p : Phase) → is_being_developed p ≡ true → p ≡ phase.BeingDeveloped
developed-is phase.BeingDeveloped e = refl
developed-is _ e = cc

pub awaits_review-is : (p : Phase) → is_awaiting_review p ≡ true → p ≡ phase.AwaitingReview
awaits_review-is phase.AwaitingReview e = refl
awaits_review-is _ e = cc

pub reviewed-is : (p : Phase) → is_being_reviewed p ≡ true → p ≡ phase.BeingReviewed
reviewed-is phase.BeingReviewed e = refl
reviewed-is _ e = cc

pub awaits_integration-is : (p : Phase) → is_awaiting_integration p ≡ true → p ≡ phase.AwaitingIntegration
awaits_integration-is phase.AwaitingIntegration e = refl
awaits_integration-is _ e = cc

pub integrated-is : (p : Phase) → is_integrating p ≡ true → p ≡ phase.BeingIntegrated
integrated-is phase.BeingIntegrated e = refl
integrated-is _ e = cc

-- ---- what is found

-- what an event of a change finds
pub record Finds (log : Log) (o : Observation) (a : Attributes) (c : ℕ) (kind : EventKind) : Type 0 where
  pub change : Change
  pub there : change_at o c ≡ Some change
  pub is_of : IsOf log c change
  pub comes : comes_in kind (phase_of (course log c)) ≡ true
  pub suits : Suits o change kind
  pub stands : observation_with log a ≡ o

pub after-found : (log : Log) (maker : Maker) (c : ℕ) (kind : EventKind) (o : Observation) → attributes (of_change maker c kind ∷ log) ≡ attributes log → observation log ≡ Some o
    → IsSomeAnd (change_at o c) (λ (change : Change). (comes_in kind change.phase ≡ true) × Suits o change kind)
    → ((a : Attributes) → Finds log o a c kind → observation_with (of_change maker c kind ∷ log) a ≡ after (observation_with log a) (of_change maker c kind))
    → observation (of_change maker c kind ∷ log) ≡ Some (after o (of_change maker c kind))
after-found log maker c kind o same stood m this = go (change_at o c) refl m
  where
    go : (x : Option Change) → change_at o c ≡ x → IsSomeAnd x (λ (change : Change). (comes_in kind change.phase ≡ true) × Suits o change kind) → observation (of_change maker c kind ∷ log) ≡ Some (after o (of_change maker c kind))
    go (Some x) e n = stands-after log (of_change maker c kind) o same stood (λ a is.
        let i = found-is log a c x (ap (λ q. change_at q c) is ∙ e) in
        this a (record { change = x; there = e; is_of = i; comes = ap (λ (y : Change). comes_in kind y.phase) (sym i.is) ∙ n.0; suits = n.1; stands = is }))
    go None e n = absurd n

-- what is so of the course of the event's number is so of that of an equal one
pub at-its : (log : Log) (c n : ℕ) (P : ℕ → Type 0) → nat_eq c n ≡ true → P c → P n
at-its log c n P e h = subst P (eqb-true c n e) h

-- a change that holds before and after, and has the same files
pub holds-both : (log : Log) (maker : Maker) (c : ℕ) (kind : EventKind) → holds_locks (phase_of (course log c)) ≡ true
    → ((n : ℕ) → is_there (continued kind (happens log maker c kind) (course log n)) ≡ is_there (course log n))
    → ((p : List ℕ) (n : ℕ) → file (continued kind (happens log maker c kind) (course log n)) p ≡ file (course log n) p)
    → ((n : ℕ) → holds_locks (phase_of (continued kind (happens log maker c kind) (course log n))) ≡ true)
    → (p : List ℕ) (n : ℕ) → nat_eq c n ≡ true → holds p (continued kind (happens log maker c kind) (course log n)) ≡ holds p (course log n)
holds-both log maker c kind held there same held_then p n e = λ i. there n i && is_some (same p n i) && (held_then n ∙ sym (at-its log c n (λ m. holds_locks (phase_of (course log m)) ≡ true) e held)) i
