-- The settings of a project and of a change, the users of the roles, and which changes are there.
use Rattle.std.specs.Prelude.{ℕ, zero, suc, ◌+◌, Bool, true, false, List, [], ◌∷◌, ◌++◌, Option, Some, None, if◌then◌else◌, is_some, unwrap_or, filter}
use Rattle.std.specs.Option.{option_or, option_and_then}
use Rattle.ae_base.specs.Limits.{most_changes}
use Rattle.ae_types.specs.Users.{without}
use Rattle.ae_base.specs.declared.words.Role.{Role}
use Rattle.ae_base.specs.declared.words.Role.TheVariants.{Administrator, Developer, Reviewer, Integrator}
use Rattle.ae_types.specs.declared.project.Attributes.{Attributes}
use Rattle.ae_types.specs.declared.change.ChangeAttributes.{ChangeAttributes}
use Rattle.ae_log.specs.declared.event.EventKind.{EventKind}
use Rattle.ae_log.specs.declared.event.EventKind.TheVariants as on
use Rattle.ae_log.specs.Log.{Log, Happened, Course, course, Mark, makes, leaves, standing}

-- ---- the project's

-- the newest of what the events have
abbrev pub newest : {A : Type 0} → (EventKind → Option A) → Log → Option A
newest part [] = None
newest part (event ∷ log) = option_or (part event.what) (newest part log)

abbrev pub name_in : EventKind → Option (List ℕ)
name_in (on.Project name attributes) = Some name
name_in _ = None

abbrev pub project_name : Log → List ℕ
project_name log = unwrap_or (newest name_in log) []

abbrev pub attributes_in : EventKind → Option Attributes
attributes_in (on.Project name attributes) = Some attributes
attributes_in (on.Attributes attributes) = Some attributes
attributes_in _ = None

abbrev pub attributes : Log → Option Attributes
attributes log = newest attributes_in log

-- ---- roles

abbrev pub same_role : Role → Role → Bool
same_role Administrator Administrator = true
same_role Developer Developer = true
same_role Reviewer Reviewer = true
same_role Integrator Integrator = true
same_role _ _ = false

-- the users of a role after one more event
abbrev pub users_after : EventKind → List ℕ → Role → List (List ℕ) → List (List ℕ)
users_after (on.Project name attributes) who role users = if same_role role Administrator then users ++ who ∷ [] else users
users_after (on.RoleAdd other user) who role users = if same_role role other then users ++ user ∷ [] else users
users_after (on.RoleDrop other user) who role users = if same_role role other then without user users else users
users_after _ who role users = users

-- the users added to the role and not dropped since, in the order of adding; who makes the project is its first administrator
abbrev pub role_users : Log → Role → List (List ℕ)
role_users [] role = []
role_users (event ∷ log) role = users_after event.what event.who role (role_users log role)

-- ---- a change's

abbrev pub change_attributes_in : EventKind → Option ChangeAttributes
change_attributes_in (on.New attributes) = Some attributes
change_attributes_in (on.ChangeAttributes attributes) = Some attributes
change_attributes_in _ = None

abbrev pub change_attributes_mark : EventKind → Mark
change_attributes_mark kind = if is_some (change_attributes_in kind) then makes else leaves

abbrev pub change_attributes : Course → Option ChangeAttributes
change_attributes course = option_and_then (λ (happened : Happened). change_attributes_in happened.event.what) (standing change_attributes_mark course)

-- ---- which changes are there

-- a change is there from its New on, which gives it attributes, until that is undone
abbrev pub is_there : Course → Bool
is_there course = is_some (change_attributes course)

-- n, the next number and on, as many as that
abbrev pub upward : ℕ → ℕ → List ℕ
upward n zero = []
upward n (suc count) = n ∷ upward (n + 1) count

-- the numbers that a change may have, 10 to 1999
unfoldable pub change_numbers : List ℕ
change_numbers = upward 10 most_changes

-- the numbers of the changes that are there, ascending
abbrev pub numbers : Log → List ℕ
numbers log = filter (λ number. is_there (course log number)) change_numbers
