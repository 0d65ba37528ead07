-- What the reader answers.
use Rattle.std.specs.Prelude.{ℕ, ◌≡◌, ◌≤◌, ◌+◌, ◌⊎◌, List, length, Result, Ok, Err, if◌then◌else◌, nat_le}
use Rattle.ae_words.specs.Grammar.{IsCommand, IsFirstBad}
use Rattle.ae_words.specs.declared.command.Command.{Command}
use Rattle.ae_words.specs.declared.read.WordsError.{WordsError}
use Rattle.ae_words.specs.declared.read.WordsError.TheVariants as error

-- the last place that is told
abbrev pub last_place : ℕ
last_place = 4294967295

-- a place past it is told as that
abbrev pub told : ℕ → ℕ
told place = if nat_le place last_place then place else last_place

-- a command only where the words are that command, a place only where it is the first bad one
abbrev pub IsAnswer : List (List ℕ) → Result Command WordsError → Type 0
IsAnswer words (Ok c) = IsCommand words c
IsAnswer words (Err (error.Bad p)) = (place : ℕ) × IsFirstBad words place × (p ≡ told place)
IsAnswer words (Err error.Memory) = Unit {0}

-- what is answered where the words are this command
abbrev pub IsReadAs : Command → Result Command WordsError → Type 0
IsReadAs c (Ok d) = d ≡ c
IsReadAs c (Err (error.Bad p)) = ⊥
IsReadAs c (Err error.Memory) = Unit {0}

-- words are at most one command
abbrev pub OneCommand : Type 0
OneCommand = (words : List (List ℕ)) (c d : Command) → IsCommand words c → IsCommand words d → c ≡ d

-- words are a command, or one of them is the first bad one, or a word is missing
abbrev pub CommandOrPlace : Type 0
CommandOrPlace = (words : List (List ℕ)) → ((c : Command) × IsCommand words c) ⊎ ((place : ℕ) × IsFirstBad words place)

-- words have at most one first bad place
abbrev pub OnePlace : Type 0
OnePlace = (words : List (List ℕ)) (p q : ℕ) → IsFirstBad words p → IsFirstBad words q → p ≡ q

-- the words of a command have none
abbrev pub NeverBoth : Type 0
NeverBoth = (words : List (List ℕ)) (c : Command) (place : ℕ) → IsCommand words c → IsFirstBad words place → ⊥

-- it is at most one past the last
abbrev pub PlaceWithin : Type 0
PlaceWithin = (words : List (List ℕ)) (place : ℕ) → IsFirstBad words place → place ≤ length words + 1
