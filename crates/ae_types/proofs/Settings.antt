-- Each word of a setting is that of one alone.
use Rattle.std.proofs.Common.{◌≡◌, ◌↔◌, Some, ℕ, List, inl, inr, refl}
use Rattle.std.specs.Prelude.{find}
use Rattle.std.specs.Str.{bytes_eq}
use Rattle.ae_base.proofs.WordTables.{Stands, found_word}
use Rattle.ae_types.specs.declared.project.EndAction.{EndAction}
use Rattle.ae_types.specs.declared.project.EndAction.TheVariants.{BeingReviewed, AwaitingReview, AwaitingIntegration}
use Rattle.ae_types.specs.Settings.{end_action_word, end_actions}

all_end_actions : (action : EndAction) → Stands action end_actions
all_end_actions BeingReviewed = inl refl
all_end_actions AwaitingReview = inr (inl refl)
all_end_actions AwaitingIntegration = inr (inr (inl refl))

pub end_action_found : (text : List ℕ) (action : EndAction) → (find (λ action. bytes_eq (end_action_word action) text) end_actions ≡ Some action) ↔ (text ≡ end_action_word action)
end_action_found text action = found_word end_action_word end_actions refl all_end_actions text action
