-- In each table of words every variant stands, and no two words are the same.
use Rattle.std.proofs.Common.{◌≡◌, ◌↔◌, Some, ℕ, List, inl, inr, refl}
use Rattle.std.specs.Prelude.{find}
use Rattle.std.specs.Str.{bytes_eq}
use Rattle.ae_base.proofs.WordTables.{Stands, found_word}
use Rattle.ae_base.specs.Words.{phase_word, phases, role_word, roles, action_word, actions, usage_word, usages, cause_word, causes, ground_word, grounds, kind_word, kinds, what_word, events_of_history, which_word, limits}
use Rattle.ae_base.specs.declared.words.Phase.{Phase}
use Rattle.ae_base.specs.declared.words.Phase.TheVariants as phase_is
use Rattle.ae_base.specs.declared.words.Role.{Role}
use Rattle.ae_base.specs.declared.words.Role.TheVariants as role_is
use Rattle.ae_base.specs.declared.words.Action.{Action}
use Rattle.ae_base.specs.declared.words.Action.TheVariants as action_is
use Rattle.ae_base.specs.declared.words.Usage.{Usage}
use Rattle.ae_base.specs.declared.words.Usage.TheVariants as usage_is
use Rattle.ae_base.specs.declared.words.Cause.{Cause}
use Rattle.ae_base.specs.declared.words.Cause.TheVariants as cause_is
use Rattle.ae_base.specs.declared.words.Ground.{Ground}
use Rattle.ae_base.specs.declared.words.Ground.TheVariants as ground_is
use Rattle.ae_base.specs.declared.words.Kind.{Kind}
use Rattle.ae_base.specs.declared.words.Kind.TheVariants as kind_is
use Rattle.ae_base.specs.declared.words.What.{What}
use Rattle.ae_base.specs.declared.words.What.TheVariants as what_is
use Rattle.ae_base.specs.declared.words.Which.{Which}
use Rattle.ae_base.specs.declared.words.Which.TheVariants as which_is

all_phases : (phase : Phase) → Stands phase phases
all_phases phase_is.AwaitingDevelopment = inl refl
all_phases phase_is.BeingDeveloped = inr (inl refl)
all_phases phase_is.AwaitingReview = inr (inr (inl refl))
all_phases phase_is.BeingReviewed = inr (inr (inr (inl refl)))
all_phases phase_is.AwaitingIntegration = inr (inr (inr (inr (inl refl))))
all_phases phase_is.BeingIntegrated = inr (inr (inr (inr (inr (inl refl)))))
all_phases phase_is.Completed = inr (inr (inr (inr (inr (inr (inl refl))))))

pub phase_found : (text : List ℕ) (phase : Phase) → (find (λ phase. bytes_eq (phase_word phase) text) phases ≡ Some phase) ↔ (text ≡ phase_word phase)
phase_found text phase = found_word phase_word phases refl all_phases text phase

all_roles : (role : Role) → Stands role roles
all_roles role_is.Administrator = inl refl
all_roles role_is.Developer = inr (inl refl)
all_roles role_is.Reviewer = inr (inr (inl refl))
all_roles role_is.Integrator = inr (inr (inr (inl refl)))

pub role_found : (text : List ℕ) (role : Role) → (find (λ role. bytes_eq (role_word role) text) roles ≡ Some role) ↔ (text ≡ role_word role)
role_found text role = found_word role_word roles refl all_roles text role

all_actions : (action : Action) → Stands action actions
all_actions action_is.Create = inl refl
all_actions action_is.Modify = inr (inl refl)
all_actions action_is.Remove = inr (inr (inl refl))

pub action_found : (text : List ℕ) (action : Action) → (find (λ action. bytes_eq (action_word action) text) actions ≡ Some action) ↔ (text ≡ action_word action)
action_found text action = found_word action_word actions refl all_actions text action

all_usages : (usage : Usage) → Stands usage usages
all_usages usage_is.Source = inl refl
all_usages usage_is.Config = inr (inl refl)
all_usages usage_is.Test = inr (inr (inl refl))

pub usage_found : (text : List ℕ) (usage : Usage) → (find (λ usage. bytes_eq (usage_word usage) text) usages ≡ Some usage) ↔ (text ≡ usage_word usage)
usage_found text usage = found_word usage_word usages refl all_usages text usage

all_causes : (cause : Cause) → Stands cause causes
all_causes cause_is.ExternalBug = inl refl
all_causes cause_is.ExternalEnhancement = inr (inl refl)
all_causes cause_is.ExternalImprovement = inr (inr (inl refl))
all_causes cause_is.InternalBug = inr (inr (inr (inl refl)))
all_causes cause_is.InternalEnhancement = inr (inr (inr (inr (inl refl))))
all_causes cause_is.InternalImprovement = inr (inr (inr (inr (inr (inl refl)))))
all_causes cause_is.Chain = inr (inr (inr (inr (inr (inr (inl refl))))))

pub cause_found : (text : List ℕ) (cause : Cause) → (find (λ cause. bytes_eq (cause_word cause) text) causes ≡ Some cause) ↔ (text ≡ cause_word cause)
cause_found text cause = found_word cause_word causes refl all_causes text cause

all_grounds : (during : Ground) → Stands during grounds
all_grounds ground_is.Develop = inl refl
all_grounds ground_is.Integrate = inr (inl refl)

pub ground_found : (text : List ℕ) (during : Ground) → (find (λ during. bytes_eq (ground_word during) text) grounds ≡ Some during) ↔ (text ≡ ground_word during)
ground_found text during = found_word ground_word grounds refl all_grounds text during

all_kinds : (kind : Kind) → Stands kind kinds
all_kinds kind_is.Build = inl refl
all_kinds kind_is.Test = inr (inl refl)
all_kinds kind_is.BaselineTest = inr (inr (inl refl))
all_kinds kind_is.RegressionTest = inr (inr (inr (inl refl)))

pub kind_found : (text : List ℕ) (kind : Kind) → (find (λ kind. bytes_eq (kind_word kind) text) kinds ≡ Some kind) ↔ (text ≡ kind_word kind)
kind_found text kind = found_word kind_word kinds refl all_kinds text kind

all_events_of_history : (what : What) → Stands what events_of_history
all_events_of_history what_is.NewChange = inl refl
all_events_of_history what_is.DevelopBegin = inr (inl refl)
all_events_of_history what_is.DevelopBeginUndo = inr (inr (inl refl))
all_events_of_history what_is.DevelopEnd = inr (inr (inr (inl refl)))
all_events_of_history what_is.DevelopEndUndo = inr (inr (inr (inr (inl refl))))
all_events_of_history what_is.ReviewBegin = inr (inr (inr (inr (inr (inl refl)))))
all_events_of_history what_is.ReviewBeginUndo = inr (inr (inr (inr (inr (inr (inl refl))))))
all_events_of_history what_is.ReviewPass = inr (inr (inr (inr (inr (inr (inr (inl refl)))))))
all_events_of_history what_is.ReviewPassUndo = inr (inr (inr (inr (inr (inr (inr (inr (inl refl))))))))
all_events_of_history what_is.ReviewFail = inr (inr (inr (inr (inr (inr (inr (inr (inr (inl refl)))))))))
all_events_of_history what_is.IntegrateBegin = inr (inr (inr (inr (inr (inr (inr (inr (inr (inr (inl refl))))))))))
all_events_of_history what_is.IntegrateBeginUndo = inr (inr (inr (inr (inr (inr (inr (inr (inr (inr (inr (inl refl)))))))))))
all_events_of_history what_is.IntegratePass = inr (inr (inr (inr (inr (inr (inr (inr (inr (inr (inr (inr (inl refl))))))))))))
all_events_of_history what_is.IntegrateFail = inr (inr (inr (inr (inr (inr (inr (inr (inr (inr (inr (inr (inr (inl refl)))))))))))))

pub what_found : (text : List ℕ) (what : What) → (find (λ what. bytes_eq (what_word what) text) events_of_history ≡ Some what) ↔ (text ≡ what_word what)
what_found text what = found_word what_word events_of_history refl all_events_of_history text what

all_limits : (which : Which) → Stands which limits
all_limits which_is.FileBytes = inl refl
all_limits which_is.AttributeBytes = inr (inl refl)
all_limits which_is.FrozenBytes = inr (inr (inl refl))
all_limits which_is.ChangeFiles = inr (inr (inr (inl refl)))
all_limits which_is.ProjectFiles = inr (inr (inr (inr (inl refl))))
all_limits which_is.ProjectTests = inr (inr (inr (inr (inr (inl refl)))))
all_limits which_is.RoleUsers = inr (inr (inr (inr (inr (inr (inl refl))))))
all_limits which_is.Changes = inr (inr (inr (inr (inr (inr (inr (inl refl)))))))
all_limits which_is.Deltas = inr (inr (inr (inr (inr (inr (inr (inr (inl refl))))))))
all_limits which_is.Versions = inr (inr (inr (inr (inr (inr (inr (inr (inr (inl refl)))))))))
all_limits which_is.HistoryRows = inr (inr (inr (inr (inr (inr (inr (inr (inr (inr (inl refl))))))))))

pub which_found : (text : List ℕ) (which : Which) → (find (λ which. bytes_eq (which_word which) text) limits ≡ Some which) ↔ (text ≡ which_word which)
which_found text which = found_word which_word limits refl all_limits text which
