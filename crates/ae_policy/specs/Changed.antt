-- A project after a change of a role.
use Rattle.std.specs.Prelude.{ℕ, List, [], ◌∷◌, ◌++◌}
use Rattle.ae_types.specs.Users.{without}
use Rattle.ae_base.specs.declared.words.Role.{Role}
use Rattle.ae_types.specs.declared.project.Project.{Project}
use Rattle.ae_types.specs.Roles.{users_of, with_users}

-- the project with this user as the last one of the role
abbrev pub after_adding : Role → List ℕ → Project → Project
after_adding role user project = with_users role (users_of role project ++ user ∷ []) project

-- the project without this user in the role
abbrev pub after_dropping : Role → List ℕ → Project → Project
after_dropping role user project = with_users role (without user (users_of role project)) project
