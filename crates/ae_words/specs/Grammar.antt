-- Which words are a command, and which word is the first bad one.
use Rattle.std.specs.Prelude.{ℕ, ◌+◌, ◌≡◌, ◌≤◌, ◌⊎◌, List, [], ◌∷◌, ◌++◌, true, false, Option, Some, None, Result, Ok, Err, length}
use Rattle.ae_words.specs.Items.{Item, items, function, listing}
use Rattle.ae_words.specs.Meaning.{blank, step, is_whole}
use Rattle.ae_words.specs.declared.command.Command.{Command}
use Rattle.ae_words.specs.declared.table.Function.{Function}
use Rattle.ae_words.specs.declared.table.Listing.{Listing}

-- a bad item says nothing
abbrev pub or_as_before : Command → Result Command ℕ → Command
or_as_before c (Ok d) = d
or_as_before c (Err p) = c

-- the command that items say, beginning with this one
abbrev pub said : Option Listing → Command → List Item → Command
said l c [] = c
said l c (i ∷ is) = said l (or_as_before c (step l c i)) is

-- the word at this place is bad: it belongs to an item that is bad after the items before it
pub record IsBadItem (l : Option Listing) (c : Command) (is : List Item) (place : ℕ) : Type 0 where
  pub before : List Item
  pub bad : Item
  pub after : List Item
  pub split : is ≡ before ++ bad ∷ after
  pub is_bad : step l (said l c before) bad ≡ Err place

-- the word at this place is bad in the words of this function
abbrev pub IsBad : Function → List (List ℕ) → ℕ → Type 0
IsBad f words place = IsBadItem (listing (items words)) (blank f) (items words) place

-- the command that the words say
abbrev pub command : Function → List (List ℕ) → Command
command f words = said (listing (items words)) (blank f) (items words)

-- the words are this command: they name its function, none is bad, they say it, and none is missing
pub record IsCommand (words : List (List ℕ)) (c : Command) : Type 0 where
  pub names : function words ≡ Some c.function
  pub good : (place : ℕ) → IsBad c.function words place → ⊥
  pub says : c ≡ command c.function words
  pub whole : is_whole c ≡ true

-- the first bad word of a function's words, or the place after the last where one is missing
abbrev pub IsFirstIn : Function → List (List ℕ) → ℕ → Type 0
IsFirstIn f words place =
    (IsBad f words place × ((p : ℕ) → IsBad f words p → place ≤ p))
    ⊎ (((p : ℕ) → IsBad f words p → ⊥) × (is_whole (command f words) ≡ false) × (place ≡ length words + 1))

-- the same where the first word may be no function
abbrev pub IsFirstOf : Option Function → List (List ℕ) → ℕ → Type 0
IsFirstOf None words place = place ≡ 1
IsFirstOf (Some f) words place = IsFirstIn f words place

-- the first bad word of these words
abbrev pub IsFirstBad : List (List ℕ) → ℕ → Type 0
IsFirstBad words place = IsFirstOf (function words) words place

-- ---- the same, from left to right

-- what comes next, where nothing was bad
abbrev pub then_read : (Command → Result Command ℕ) → Result Command ℕ → Result Command ℕ
then_read next (Ok c) = next c
then_read next (Err p) = Err p

-- the command that the items say, or the place of the first that is bad
unfoldable pub reads : Option Listing → Command → List Item → Result Command ℕ
reads l c [] = Ok c
reads l c (i ∷ is) = then_read (λ d. reads l d is) (step l c i)
