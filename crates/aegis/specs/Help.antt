-- Which words ask of the program itself.
use Rattle.std.specs.Prelude.{◌≡◌, ℕ, List, [], ◌∷◌, Option, Some, None, IsSomeAnd, codes}
use Rattle.ae_base.specs.Numbers.{number_within}
use Rattle.ae_branch_words.specs.Said.{branch_pattern, begin_pattern, finish_pattern}
use Rattle.ae_words.specs.Items.{behind_dash}
use Rattle.ae_words.specs.Spelling.{Matches}
use Rattle.ae_words.specs.Table.{function_pattern}
use Rattle.ae_words.specs.declared.table.Function.{Function}
use Rattle.aegis.specs.declared.help_of_other.Topic.{Topic}
use Rattle.aegis.specs.declared.help_of_other.Topic.TheVariants as topic

-- one word alone, an option word that spells the pattern
abbrev pub Asks : List ℕ → List (List ℕ) → Type 0
Asks pattern (word ∷ []) = IsSomeAnd (behind_dash word) (Matches pattern)
Asks pattern _ = ⊥

-- what is behind the dash of a word spells the function, or the whole word where it has none
abbrev pub Spells : Function → Option (List ℕ) → List ℕ → Type 0
Spells function (Some name) word = Matches (function_pattern function) name
Spells function None word = Matches (function_pattern function) word

-- two words: an option word that spells `Help`, and the name of the function
abbrev pub AsksAbout : Function → List (List ℕ) → Type 0
AsksAbout function (help ∷ word ∷ []) = IsSomeAnd (behind_dash help) (Matches (codes "Help")) × Spells function (behind_dash word) word
AsksAbout function _ = ⊥

-- a name names this: a refusal by its number, 1 to 47, or commands in a branch, its begin or its end by their pattern
abbrev pub Names : Topic → List ℕ → Type 0
Names (topic.Refusal number) name = number_within 2 1 47 name ≡ Some number
Names topic.Branch name = Matches branch_pattern name
Names topic.Begin name = Matches begin_pattern name
Names topic.Finish name = Matches finish_pattern name

-- what is behind the dash of a word names it, or the whole word where it has none
abbrev pub NamesTopic : Topic → Option (List ℕ) → List ℕ → Type 0
NamesTopic about (Some name) word = Names about name
NamesTopic about None word = Names about word

-- two words: an option word that spells `Help`, and what names this
abbrev pub AsksHelp : Topic → List (List ℕ) → Type 0
AsksHelp about (help ∷ word ∷ []) = IsSomeAnd (behind_dash help) (Matches (codes "Help")) × NamesTopic about (behind_dash word) word
AsksHelp about _ = ⊥
