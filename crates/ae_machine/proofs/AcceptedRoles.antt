-- The users that a command adds to a role or drops, each where those before him are done.
use Rattle.std.proofs.Common.{◌≡◌, ℕ, refl, ◌∙◌, ap, List, [], ◌∷◌, ◌++◌, map, Option, Some, None}
use Rattle.std.specs.Option.{option_or}
use Rattle.ae_types.specs.Users.{without}
use Rattle.ae_base.specs.declared.words.Role.{Role}
use Rattle.ae_base.specs.declared.words.Role.TheVariants.{Administrator, Developer, Reviewer, Integrator}
use Rattle.ae_types.specs.declared.project.Project.{Project}
use Rattle.ae_types.specs.Observation.{Observation}
use Rattle.ae_types.specs.Roles.{users_of, with_users, refuses_adding, refuses_dropping}
use Rattle.ae_types.specs.Sound.{IsMoment}
use Rattle.ae_log.specs.declared.event.EventKind.TheVariants as on
use Rattle.ae_log.specs.After.{after}
use Rattle.ae_machine.specs.Accepted.{AppliesAll}
use Rattle.ae_machine.specs.Permission.{all_added, all_dropped}
use Rattle.ae_log.specs.Maker.{Maker, event_by}

-- neither of two conditions refuses
pub both-none : {A : Type 0} (x y : Option A) → option_or x y ≡ None → (x ≡ None) × (y ≡ None)
both-none (Some a) y e = cc
both-none None y e = (refl, e)

pub role-of : (role : Role) (users : List (List ℕ)) (project : Project) → users_of role (with_users role users project) ≡ users
role-of Administrator users project = refl
role-of Developer users project = refl
role-of Reviewer users project = refl
role-of Integrator users project = refl

pub added-apply : (role : Role) (users : List (List ℕ)) (o : Observation) (maker : Maker) → IsMoment maker.when → all_added users (users_of role o.project) ≡ None
    → AppliesAll o (map (event_by maker None) (map (on.RoleAdd role) users))
added-apply role [] o maker m h = tt
added-apply role (user ∷ users) o maker m h =
    let now = users_of role o.project in
    let p = both-none (refuses_adding now user) (all_added users (now ++ user ∷ [])) h in
    (record { moment = m; comes = p.0 }, added-apply role users (after o (event_by maker None (on.RoleAdd role user))) maker m (ap (all_added users) (role-of role (now ++ user ∷ []) o.project) ∙ p.1))

pub dropped-apply : (role : Role) (users : List (List ℕ)) (o : Observation) (maker : Maker) → IsMoment maker.when → all_dropped role users (users_of role o.project) ≡ None
    → AppliesAll o (map (event_by maker None) (map (on.RoleDrop role) users))
dropped-apply role [] o maker m h = tt
dropped-apply role (user ∷ users) o maker m h =
    let now = users_of role o.project in
    let p = both-none (refuses_dropping role now user) (all_dropped role users (without user now)) h in
    (record { moment = m; comes = p.0 }, dropped-apply role users (after o (event_by maker None (on.RoleDrop role user))) maker m (ap (all_dropped role users) (role-of role (without user now) o.project) ∙ p.1))
