-- Nobody releases alone, unless the settings say so: who integrates a change, and who developed it.
use Rattle.std.specs.Prelude.{◌≡◌, true, Some, IsSomeAnd}
use Rattle.ae_base.specs.declared.words.Role.TheVariants.{Developer, Integrator}
use Rattle.ae_types.specs.Roles.{has_user}
use Rattle.ae_log.specs.declared.event.Event.{Event}
use Rattle.ae_log.specs.declared.event.EventKind.TheVariants as on
use Rattle.ae_log.specs.Log.{Happened, Course, standing}
use Rattle.ae_log.specs.People.{developer, developer_mark, reviewer, integrator_mark}
use Rattle.ae_log.specs.Settings.{attributes, role_users}

-- The begin of an integration: by the user who passes it, who was an integrator then; another than the developer of the change and
-- than its reviewer, unless the settings of then let these integrate.
pub record IsIntegration (course : Course) (pass : Event) (begun : Happened) : Type 0 where
  pub what : begun.event.what ≡ on.IBegin
  pub same_user : begun.event.who ≡ pass.who
  pub by_integrator : has_user (role_users begun.before Integrator) pass.who ≡ true
  pub not_developer : developer course ≡ Some pass.who → IsSomeAnd (attributes begun.before) (λ attributes. attributes.developer_may_integrate ≡ true)
  pub not_reviewer : reviewer course ≡ Some pass.who → IsSomeAnd (attributes begun.before) (λ attributes. attributes.reviewer_may_integrate ≡ true)

-- the begin of a development, by somebody who was a developer then
pub record IsDevelopment (begun : Happened) : Type 0 where
  pub what : begun.event.what ≡ on.Begin
  pub by_developer : has_user (role_users begun.before Developer) begun.event.who ≡ true

-- the change was developed by a developer, and is integrated by somebody who may
pub record HasPeople (course : Course) (pass : Event) : Type 0 where
  pub developed : IsSomeAnd (standing developer_mark course) IsDevelopment
  pub integrated : IsSomeAnd (standing integrator_mark course) (IsIntegration course pass)
