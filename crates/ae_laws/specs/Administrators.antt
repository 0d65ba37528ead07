-- Settings and roles are changed by administrators alone.
use Rattle.std.specs.Prelude.{◌≡◌, ℕ, Bool, true, false, ◌&&◌, List, [], ◌∷◌, if◌then◌else◌, nat_eq}
use Rattle.std.specs.Str.{bytes_eq}
use Rattle.ae_base.specs.declared.words.Role.TheVariants.{Administrator}
use Rattle.ae_types.specs.Roles.{has_user}
use Rattle.ae_log.specs.declared.event.Event.{Event}
use Rattle.ae_log.specs.declared.event.EventKind.{EventKind}
use Rattle.ae_log.specs.declared.event.EventKind.TheVariants as on
use Rattle.ae_log.specs.Log.{Log}
use Rattle.ae_log.specs.Settings.{role_users}
use Rattle.ae_machine.specs.Legal.{Legal}

-- the user is an administrator after this log
abbrev pub IsAdministrator : Log → List ℕ → Type 0
IsAdministrator log who = has_user (role_users log Administrator) who ≡ true

-- One command may remove several administrators, the user who gives it among them. It makes an event for each, at one moment.

abbrev pub removes_administrator : EventKind → Bool
removes_administrator (on.RoleDrop Administrator user) = true
removes_administrator _ = false

-- the user removed an administrator at this moment
abbrev pub is_removal_by : List ℕ → ℕ → Event → Bool
is_removal_by who when event = bytes_eq who event.who && nat_eq when event.when && removes_administrator event.what

-- the log without such removals at its end
abbrev pub before_removals : List ℕ → ℕ → Log → Log
before_removals who when [] = []
before_removals who when (event ∷ log) = if is_removal_by who when event then before_removals who when log else event ∷ log

-- Who changes the settings of the project or of a change, or a role, is an administrator then; who removes administrators was one
-- before the first of these removals. A project is made where nothing is.
abbrev pub IsByAdministrator : Log → Event → EventKind → Type 0
IsByAdministrator log event (on.Project name attributes) = log ≡ []
IsByAdministrator log event (on.Attributes attributes) = IsAdministrator log event.who
IsByAdministrator log event (on.ChangeAttributes attributes) = IsAdministrator log event.who
IsByAdministrator log event (on.RoleAdd role user) = IsAdministrator log event.who
IsByAdministrator log event (on.RoleDrop Administrator user) = IsAdministrator (before_removals event.who event.when log) event.who
IsByAdministrator log event (on.RoleDrop role user) = IsAdministrator log event.who
IsByAdministrator log event _ = Unit {0}

-- so it is of each event
abbrev pub AreByAdministrators : Log → Type 0
AreByAdministrators [] = Unit {0}
AreByAdministrators (event ∷ log) = IsByAdministrator log event event.what × AreByAdministrators log

-- of a legal log
abbrev pub LegalIsByAdministrators : Type 0
LegalIsByAdministrators = (log : Log) → Legal log → AreByAdministrators log
