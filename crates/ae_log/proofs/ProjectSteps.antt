-- What stands after the first event, and after events of the project's settings and roles.
use Rattle.std.proofs.Common.{◌≡◌, ℕ, refl, sym, ◌∙◌, ap, List, [], ◌∷◌, Option, Some, None, true, false}
use Rattle.std.specs.Prelude.{IsSomeAnd}
use Rattle.ae_base.specs.declared.words.Phase.{Phase}
use Rattle.ae_base.specs.declared.words.Role.{Role}
use Rattle.ae_base.specs.declared.words.Role.TheVariants.{Administrator, Developer, Reviewer, Integrator}
use Rattle.ae_types.specs.declared.project.Attributes.{Attributes}
use Rattle.ae_types.specs.declared.change.Change.{Change}
use Rattle.ae_types.specs.Observation.{Observation}
use Rattle.ae_log.specs.declared.event.EventKind.{EventKind}
use Rattle.ae_log.specs.declared.event.EventKind.TheVariants as on
use Rattle.ae_log.specs.Log.{Log}
use Rattle.ae_log.specs.Settings.{change_numbers}
use Rattle.ae_log.specs.Observed.{observation, observation_with}
use Rattle.ae_log.specs.After.{after, started, new_observation}
use Rattle.ae_log.specs.Applies.{comes_in, Suits, IsProject}
use Rattle.ae_log.specs.Laws.{Begins}
use Rattle.ae_log.specs.Maker.{Maker, event_by, maker_of}
use Rattle.ae_log.proofs.Lists.{filter_map-none, filter-none}
use Rattle.ae_log.proofs.Steps.{of_none, same-parts, attributes-of, stands-after}

-- ---- the first event

with-project : (maker : Maker) (name : List ℕ) (a : Attributes) → observation_with (of_none maker (on.Project name a) ∷ []) a ≡ new_observation maker.who name a
with-project maker name a = same-parts _ _ refl
    (filter-none _ (λ n. refl) change_numbers)
    refl refl
    (filter_map-none _ (λ n. refl) change_numbers)

begins-by : (maker : Maker) (c : Option ℕ) (kind : EventKind) → c ≡ None → IsProject kind
    → observation (event_by maker c kind ∷ []) ≡ started (event_by maker c kind)
begins-by maker None (on.Project name a) e h = ap (λ o. Some o) (with-project maker name a)
begins-by maker (Some c) kind e h = cc
begins-by maker None kind e h = absurd h

pub begins : Begins
begins event s = begins-by (maker_of event) event.change event.what s.no_change s.project

-- ---- settings and roles

with-role_add : (log : Log) (maker : Maker) (role : Role) (user : List ℕ) (a : Attributes) → observation_with (of_none maker (on.RoleAdd role user) ∷ log) a ≡ after (observation_with log a) (of_none maker (on.RoleAdd role user))
with-role_add log maker Administrator user a = refl
with-role_add log maker Developer user a = refl
with-role_add log maker Reviewer user a = refl
with-role_add log maker Integrator user a = refl

with-role_drop : (log : Log) (maker : Maker) (role : Role) (user : List ℕ) (a : Attributes) → observation_with (of_none maker (on.RoleDrop role user) ∷ log) a ≡ after (observation_with log a) (of_none maker (on.RoleDrop role user))
with-role_drop log maker Administrator user a = refl
with-role_drop log maker Developer user a = refl
with-role_drop log maker Reviewer user a = refl
with-role_drop log maker Integrator user a = refl

pub after-attributes : (log : Log) (maker : Maker) (b : Attributes) (o : Observation) → observation log ≡ Some o → observation (of_none maker (on.Attributes b) ∷ log) ≡ Some (after o (of_none maker (on.Attributes b)))
after-attributes log maker b o stood =
    let w = attributes-of log o stood in
    ap (λ q. Some (after q (of_none maker (on.Attributes b)))) w.2

pub after-role_add : (log : Log) (maker : Maker) (role : Role) (user : List ℕ) (o : Observation) → observation log ≡ Some o → observation (of_none maker (on.RoleAdd role user) ∷ log) ≡ Some (after o (of_none maker (on.RoleAdd role user)))
after-role_add log maker role user o stood = stands-after log (of_none maker (on.RoleAdd role user)) o refl stood (λ a is. with-role_add log maker role user a)

pub after-role_drop : (log : Log) (maker : Maker) (role : Role) (user : List ℕ) (o : Observation) → observation log ≡ Some o → observation (of_none maker (on.RoleDrop role user) ∷ log) ≡ Some (after o (of_none maker (on.RoleDrop role user)))
after-role_drop log maker role user o stood = stands-after log (of_none maker (on.RoleDrop role user)) o refl stood (λ a is. with-role_drop log maker role user a)

-- an event that comes in no phase is none of a change
pub out-of-phase : (o : Observation) (kind : EventKind) (x : Option Change) → ((phase : Phase) → comes_in kind phase ≡ false) → IsSomeAnd x (λ (change : Change). (comes_in kind change.phase ≡ true) × Suits o change kind) → ⊥
out-of-phase o kind (Some x) never_in h = never (sym (never_in x.phase) ∙ h.0)
  where
    never : false ≡ true → ⊥
    never e = cc
out-of-phase o kind None never_in h = h
