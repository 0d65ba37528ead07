-- The rules of a project's roles are kept by each change that isn't refused.
use Rattle.std.proofs.Common.{◌≡◌, ℕ, ◌<◌, List, [], ◌∷◌, ◌++◌, length, length-append, None, refl, arith}
use Rattle.std.specs.Str.{bytes_eq}
use Rattle.std.proofs.lemmas.Map.Made.{length-remove_key}
use Rattle.ae_types.specs.Users.{without}
use Rattle.ae_base.specs.declared.words.Role.{Role}
use Rattle.ae_base.specs.declared.words.Role.TheVariants.{Administrator, Developer, Reviewer, Integrator}
use Rattle.ae_types.specs.declared.project.Project.{Project}
use Rattle.ae_types.specs.Roles.{users_of, with_users, refuses_adding, refuses_dropping}
use Rattle.ae_types.specs.Sound.{IsGoodRole, IsGoodProject}
use Rattle.ae_types.proofs.GoodRoles.{may-drop, added-good, dropped-good}
use Rattle.ae_policy.specs.Changed.{after_adding, after_dropping}

-- a good role may take the place of another one
with_role : (role : Role) (users : List (List ℕ)) (p : Project) (numbers : List ℕ) → IsGoodProject p numbers → IsGoodRole users
    → 0 < length (with_users role users p).administrators → IsGoodProject (with_users role users p) numbers
with_role Administrator users p numbers g r some =
    record { roles = by; administrator = some; numbers_ascend = g.numbers_ascend; numbered = g.numbered; moments = g.moments; next = g.next }
  where
    by : (other : Role) → IsGoodRole (users_of other (with_users Administrator users p))
    by Administrator = r
    by Developer = g.roles Developer
    by Reviewer = g.roles Reviewer
    by Integrator = g.roles Integrator
with_role Developer users p numbers g r some =
    record { roles = by; administrator = some; numbers_ascend = g.numbers_ascend; numbered = g.numbered; moments = g.moments; next = g.next }
  where
    by : (other : Role) → IsGoodRole (users_of other (with_users Developer users p))
    by Administrator = g.roles Administrator
    by Developer = r
    by Reviewer = g.roles Reviewer
    by Integrator = g.roles Integrator
with_role Reviewer users p numbers g r some =
    record { roles = by; administrator = some; numbers_ascend = g.numbers_ascend; numbered = g.numbered; moments = g.moments; next = g.next }
  where
    by : (other : Role) → IsGoodRole (users_of other (with_users Reviewer users p))
    by Administrator = g.roles Administrator
    by Developer = g.roles Developer
    by Reviewer = r
    by Integrator = g.roles Integrator
with_role Integrator users p numbers g r some =
    record { roles = by; administrator = some; numbers_ascend = g.numbers_ascend; numbered = g.numbered; moments = g.moments; next = g.next }
  where
    by : (other : Role) → IsGoodRole (users_of other (with_users Integrator users p))
    by Administrator = g.roles Administrator
    by Developer = g.roles Developer
    by Reviewer = g.roles Reviewer
    by Integrator = r

pub good_added : (p : Project) (numbers : List ℕ) (role : Role) (user : List ℕ) → IsGoodProject p numbers → refuses_adding (users_of role p) user ≡ None → IsGoodProject (after_adding role user p) numbers
good_added p numbers role user g none =
    with_role role (users_of role p ++ user ∷ []) p numbers g (added-good (users_of role p) user (g.roles role) none) (some role)
  where
    some : (role : Role) → 0 < length (with_users role (users_of role p ++ user ∷ []) p).administrators
    some Administrator = omega (arith, length-append p.administrators (user ∷ []))
    some Developer = g.administrator
    some Reviewer = g.administrator
    some Integrator = g.administrator

pub good_dropped : (p : Project) (numbers : List ℕ) (role : Role) (user : List ℕ) → IsGoodProject p numbers → refuses_dropping role (users_of role p) user ≡ None → IsGoodProject (after_dropping role user p) numbers
good_dropped p numbers role user g none =
    with_role role (without user (users_of role p)) p numbers g (dropped-good role (users_of role p) user (g.roles role) none) (some role none)
  where
    some : (role : Role) → refuses_dropping role (users_of role p) user ≡ None → 0 < length (with_users role (without user (users_of role p)) p).administrators
    some Administrator none =
        let may = may-drop Administrator p.administrators user none in
        omega (arith, length-remove_key (bytes_eq user) p.administrators may.there, may.others refl)
    some Developer none = g.administrator
    some Reviewer none = g.administrator
    some Integrator none = g.administrator
