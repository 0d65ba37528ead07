-- Who may make changes.
use Rattle.std.specs.Prelude.{◌≡◌, ℕ, List, Option, Some, None, if◌then◌else◌, Result, Ok, Err}
use Rattle.ae_base.specs.declared.refusal.Refusal.{Refusal}
use Rattle.ae_base.specs.declared.refusal.Refusal.TheVariants.{NotAdministrator, NotDeveloper}
use Rattle.ae_types.specs.declared.project.Project.{Project}
use Rattle.ae_types.specs.Roles.{has_user}

-- why a user who is no administrator may not make a change: only administrators may, or developers may and he is none
abbrev pub refuses_others : Project → List ℕ → Option Refusal
refuses_others project user =
    if project.attributes.developers_may_create_changes then (if has_user project.developers user then None else Some NotDeveloper) else Some NotAdministrator

-- why the user may not make a change
abbrev pub refuses_making : Project → List ℕ → Option Refusal
refuses_making project user = if has_user project.administrators user then None else refuses_others project user

-- it is refused exactly for this reason, and permitted exactly where there is none
abbrev pub IsPermission : {T : Type 0} → Option Refusal → Result T Refusal → Type 0
IsPermission reason (Ok permitted) = reason ≡ None
IsPermission reason (Err refusal) = reason ≡ Some refusal
