-- The words of the records: the variants in lower case, with `_` between their words.
use Rattle.std.specs.Prelude.{ℕ, List, [], ◌∷◌, codes}
use Rattle.ae_base.specs.declared.words.Phase.{Phase}
use Rattle.ae_base.specs.declared.words.Phase.TheVariants as phase_is
use Rattle.ae_base.specs.declared.words.Role.{Role}
use Rattle.ae_base.specs.declared.words.Role.TheVariants as role_is
use Rattle.ae_base.specs.declared.words.Action.{Action}
use Rattle.ae_base.specs.declared.words.Action.TheVariants as action_is
use Rattle.ae_base.specs.declared.words.Usage.{Usage}
use Rattle.ae_base.specs.declared.words.Usage.TheVariants as usage_is
use Rattle.ae_base.specs.declared.words.Cause.{Cause}
use Rattle.ae_base.specs.declared.words.Cause.TheVariants as cause_is
use Rattle.ae_base.specs.declared.words.Ground.{Ground}
use Rattle.ae_base.specs.declared.words.Ground.TheVariants as ground_is
use Rattle.ae_base.specs.declared.words.Kind.{Kind}
use Rattle.ae_base.specs.declared.words.Kind.TheVariants as kind_is
use Rattle.ae_base.specs.declared.words.What.{What}
use Rattle.ae_base.specs.declared.words.What.TheVariants as what_is
use Rattle.ae_base.specs.declared.words.Which.{Which}
use Rattle.ae_base.specs.declared.words.Which.TheVariants as which_is

abbrev pub phase_word : Phase → List ℕ
phase_word phase_is.AwaitingDevelopment = codes "awaiting_development"
phase_word phase_is.BeingDeveloped = codes "being_developed"
phase_word phase_is.AwaitingReview = codes "awaiting_review"
phase_word phase_is.BeingReviewed = codes "being_reviewed"
phase_word phase_is.AwaitingIntegration = codes "awaiting_integration"
phase_word phase_is.BeingIntegrated = codes "being_integrated"
phase_word phase_is.Completed = codes "completed"

abbrev pub phases : List Phase
phases = phase_is.AwaitingDevelopment ∷ phase_is.BeingDeveloped ∷ phase_is.AwaitingReview ∷ phase_is.BeingReviewed ∷ phase_is.AwaitingIntegration ∷ phase_is.BeingIntegrated ∷ phase_is.Completed ∷ []

abbrev pub role_word : Role → List ℕ
role_word role_is.Administrator = codes "administrator"
role_word role_is.Developer = codes "developer"
role_word role_is.Reviewer = codes "reviewer"
role_word role_is.Integrator = codes "integrator"

abbrev pub roles : List Role
roles = role_is.Administrator ∷ role_is.Developer ∷ role_is.Reviewer ∷ role_is.Integrator ∷ []

abbrev pub action_word : Action → List ℕ
action_word action_is.Create = codes "create"
action_word action_is.Modify = codes "modify"
action_word action_is.Remove = codes "remove"

abbrev pub actions : List Action
actions = action_is.Create ∷ action_is.Modify ∷ action_is.Remove ∷ []

abbrev pub usage_word : Usage → List ℕ
usage_word usage_is.Source = codes "source"
usage_word usage_is.Config = codes "config"
usage_word usage_is.Test = codes "test"

abbrev pub usages : List Usage
usages = usage_is.Source ∷ usage_is.Config ∷ usage_is.Test ∷ []

abbrev pub cause_word : Cause → List ℕ
cause_word cause_is.ExternalBug = codes "external_bug"
cause_word cause_is.ExternalEnhancement = codes "external_enhancement"
cause_word cause_is.ExternalImprovement = codes "external_improvement"
cause_word cause_is.InternalBug = codes "internal_bug"
cause_word cause_is.InternalEnhancement = codes "internal_enhancement"
cause_word cause_is.InternalImprovement = codes "internal_improvement"
cause_word cause_is.Chain = codes "chain"

abbrev pub causes : List Cause
causes = cause_is.ExternalBug ∷ cause_is.ExternalEnhancement ∷ cause_is.ExternalImprovement ∷ cause_is.InternalBug ∷ cause_is.InternalEnhancement ∷ cause_is.InternalImprovement ∷ cause_is.Chain ∷ []

abbrev pub ground_word : Ground → List ℕ
ground_word ground_is.Develop = codes "develop"
ground_word ground_is.Integrate = codes "integrate"

abbrev pub grounds : List Ground
grounds = ground_is.Develop ∷ ground_is.Integrate ∷ []

abbrev pub kind_word : Kind → List ℕ
kind_word kind_is.Build = codes "build"
kind_word kind_is.Test = codes "test"
kind_word kind_is.BaselineTest = codes "baseline_test"
kind_word kind_is.RegressionTest = codes "regression_test"

abbrev pub kinds : List Kind
kinds = kind_is.Build ∷ kind_is.Test ∷ kind_is.BaselineTest ∷ kind_is.RegressionTest ∷ []

abbrev pub what_word : What → List ℕ
what_word what_is.NewChange = codes "new_change"
what_word what_is.DevelopBegin = codes "develop_begin"
what_word what_is.DevelopBeginUndo = codes "develop_begin_undo"
what_word what_is.DevelopEnd = codes "develop_end"
what_word what_is.DevelopEndUndo = codes "develop_end_undo"
what_word what_is.ReviewBegin = codes "review_begin"
what_word what_is.ReviewBeginUndo = codes "review_begin_undo"
what_word what_is.ReviewPass = codes "review_pass"
what_word what_is.ReviewPassUndo = codes "review_pass_undo"
what_word what_is.ReviewFail = codes "review_fail"
what_word what_is.IntegrateBegin = codes "integrate_begin"
what_word what_is.IntegrateBeginUndo = codes "integrate_begin_undo"
what_word what_is.IntegratePass = codes "integrate_pass"
what_word what_is.IntegrateFail = codes "integrate_fail"

abbrev pub events_of_history : List What
events_of_history = what_is.NewChange ∷ what_is.DevelopBegin ∷ what_is.DevelopBeginUndo ∷ what_is.DevelopEnd ∷ what_is.DevelopEndUndo ∷ what_is.ReviewBegin ∷ what_is.ReviewBeginUndo ∷ what_is.ReviewPass ∷ what_is.ReviewPassUndo ∷ what_is.ReviewFail ∷ what_is.IntegrateBegin ∷ what_is.IntegrateBeginUndo ∷ what_is.IntegratePass ∷ what_is.IntegrateFail ∷ []

abbrev pub which_word : Which → List ℕ
which_word which_is.FileBytes = codes "file_bytes"
which_word which_is.AttributeBytes = codes "attribute_bytes"
which_word which_is.FrozenBytes = codes "frozen_bytes"
which_word which_is.ChangeFiles = codes "change_files"
which_word which_is.ProjectFiles = codes "project_files"
which_word which_is.ProjectTests = codes "project_tests"
which_word which_is.RoleUsers = codes "role_users"
which_word which_is.Changes = codes "changes"
which_word which_is.Deltas = codes "deltas"
which_word which_is.Versions = codes "versions"
which_word which_is.HistoryRows = codes "history_rows"

abbrev pub limits : List Which
limits = which_is.FileBytes ∷ which_is.AttributeBytes ∷ which_is.FrozenBytes ∷ which_is.ChangeFiles ∷ which_is.ProjectFiles ∷ which_is.ProjectTests ∷ which_is.RoleUsers ∷ which_is.Changes ∷ which_is.Deltas ∷ which_is.Versions ∷ which_is.HistoryRows ∷ []
