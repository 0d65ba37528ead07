-- The words of settings.
use Rattle.std.specs.Prelude.{ℕ, Bool, true, false, List, [], ◌∷◌, codes}
use Rattle.ae_types.specs.declared.project.EndAction.{EndAction}
use Rattle.ae_types.specs.declared.project.EndAction.TheVariants.{BeingReviewed, AwaitingReview, AwaitingIntegration}

-- of what may be so or not
abbrev pub flag_word : Bool → List ℕ
flag_word true = codes "true"
flag_word false = codes "false"

abbrev pub flags : List Bool
flags = true ∷ false ∷ []

-- of what follows the end of development
abbrev pub end_action_word : EndAction → List ℕ
end_action_word BeingReviewed = codes "goto_being_reviewed"
end_action_word AwaitingReview = codes "goto_awaiting_review"
end_action_word AwaitingIntegration = codes "goto_awaiting_integration"

abbrev pub end_actions : List EndAction
end_actions = BeingReviewed ∷ AwaitingReview ∷ AwaitingIntegration ∷ []
