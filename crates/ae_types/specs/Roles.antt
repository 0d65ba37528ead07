-- The users of each role.
use Rattle.std.specs.Prelude.{ℕ, Bool, true, false, ◌&&◌, not, List, Option, Some, None, if◌then◌else◌, length, nat_le}
use Rattle.std.specs.List.{list_any}
use Rattle.std.specs.Str.{bytes_eq}
use Rattle.ae_base.specs.Limits.{most_role_users}
use Rattle.ae_base.specs.declared.words.Role.{Role}
use Rattle.ae_base.specs.declared.words.Role.TheVariants.{Administrator, Developer, Reviewer, Integrator}
use Rattle.ae_base.specs.declared.words.Which.TheVariants.{RoleUsers}
use Rattle.ae_base.specs.declared.refusal.Refusal.{Refusal}
use Rattle.ae_base.specs.declared.refusal.Refusal.TheVariants.{UserThere, UserNotThere, LastAdministrator, Limit}
use Rattle.ae_types.specs.declared.project.Project.{Project}

-- the users of a role, in order of adding
abbrev pub users_of : Role → Project → List (List ℕ)
users_of Administrator project = project.administrators
users_of Developer project = project.developers
users_of Reviewer project = project.reviewers
users_of Integrator project = project.integrators

-- the project with these users in the role
abbrev pub with_users : Role → List (List ℕ) → Project → Project
with_users Administrator users project = record project { administrators = users }
with_users Developer users project = record project { developers = users }
with_users Reviewer users project = record project { reviewers = users }
with_users Integrator users project = record project { integrators = users }

abbrev pub is_administrators : Role → Bool
is_administrators Administrator = true
is_administrators _ = false

-- the user is among these
abbrev pub has_user : List (List ℕ) → List ℕ → Bool
has_user users user = list_any (bytes_eq user) users

-- why the user isn't added to a role with these users
abbrev pub refuses_adding : List (List ℕ) → List ℕ → Option Refusal
refuses_adding users user = if has_user users user then Some (UserThere user) else if nat_le most_role_users (length users) then Some (Limit RoleUsers most_role_users) else None

-- why the user isn't dropped from the role with these users
abbrev pub refuses_dropping : Role → List (List ℕ) → List ℕ → Option Refusal
refuses_dropping role users user = if not (has_user users user) then Some (UserNotThere user) else if is_administrators role && nat_le (length users) 1 then Some LastAdministrator else None
