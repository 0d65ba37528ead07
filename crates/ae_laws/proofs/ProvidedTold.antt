-- Where each baseline is provided for the right people were there, and no update was lost.
use Rattle.std.proofs.Common.{ℕ, [], ◌∷◌, Option, Some, None}
use Rattle.std.specs.Prelude.{IsSomeAnd}
use Rattle.ae_types.specs.declared.change.Change.{Change}
use Rattle.ae_types.specs.Observation.{Observation}
use Rattle.ae_log.specs.declared.event.Event.{Event}
use Rattle.ae_log.specs.declared.event.EventKind.{EventKind}
use Rattle.ae_log.specs.declared.event.EventKind.TheVariants as on
use Rattle.ae_log.specs.Log.{Log, course}
use Rattle.ae_log.specs.Observed.{change, observation}
use Rattle.ae_machine.specs.Provenance.{IsProvided, Provenance, ProvidedAt}
use Rattle.ae_machine.proofs.LegalRightly.{legal-provided}
use Rattle.ae_laws.specs.Current.{LegalLosesNone, LosesNone, LosesNoneAt}
use Rattle.ae_laws.specs.Integrators.{ArePeopleRight, HasPeopleAt, LegalHasPeople}

-- what holds of the change that is provided for
told : (P : Type 0) (log : Log) (event : Event) (n : ℕ) → ((o : Observation) (x : Change) → IsProvided log event n o x → P)
    → IsSomeAnd (observation log) (λ o. IsSomeAnd (change n (course log n)) (IsProvided log event n o)) → P
told P log event n give provided = go (observation log) (change n (course log n)) provided
  where
    go : (v : Option Observation) (x : Option Change) → IsSomeAnd v (λ o. IsSomeAnd x (IsProvided log event n o)) → P
    go (Some o) (Some x) is = give o x is
    go (Some o) None is = absurd is
    go None x is = absurd is

people-at : (log : Log) (event : Event) (c : Option ℕ) (kind : EventKind) → ProvidedAt log event c kind → HasPeopleAt log event c kind
people-at log event (Some n) on.IPass p = told (HasPeopleAt log event (Some n) on.IPass) log event n (λ o x is. is.people) p
people-at log event None on.IPass p = p
people-at log event (Some n) kind p = tt
people-at log event None kind p = tt

people : (log : Log) → Provenance log → ArePeopleRight log
people [] p = tt
people (event ∷ log) p = (people-at log event event.change event.what p.0, people log p.1)

updates-at : (log : Log) (event : Event) (c : Option ℕ) (kind : EventKind) → ProvidedAt log event c kind → LosesNoneAt log c kind
updates-at log event (Some n) on.IPass p = told (LosesNoneAt log (Some n) on.IPass) log event n (λ o x is. is.updates) p
updates-at log event None on.IPass p = p
updates-at log event (Some n) kind p = tt
updates-at log event None kind p = tt

updates : (log : Log) → Provenance log → LosesNone log
updates [] p = tt
updates (event ∷ log) p = (updates-at log event event.change event.what p.0, updates log p.1)

pub legal-people : LegalHasPeople
legal-people log legal = people log (legal-provided log legal)

pub legal-loses-none : LegalLosesNone
legal-loses-none log legal = updates log (legal-provided log legal)
