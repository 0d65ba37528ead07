-- What the words of a branch say, or which of them is the first bad one.
use Rattle.std.specs.Prelude.{ℕ, ◌≡◌, ◌+◌, List, [], ◌∷◌, Bool, false, ◌&&◌, if◌then◌else◌, codes, Option, Some, None, Result, Ok, Err}
use Rattle.ae_base.specs.Names.{is_project_name}
use Rattle.ae_base.specs.Numbers.{delta_number}
use Rattle.ae_words.specs.Items.{behind_dash, name_and_value}
use Rattle.ae_words.specs.Spelling.{spells}
use Rattle.ae_words.specs.declared.read.WordsError.{WordsError}
use Rattle.ae_words.specs.declared.read.WordsError.TheVariants as error
use Rattle.ae_branch_words.specs.declared.words.BranchWords.{BranchWords}
use Rattle.ae_branch_words.specs.declared.words.Rest.{Rest}
use Rattle.ae_branch_words.specs.declared.words.Rest.TheVariants as rest

-- ---- the three options

-- the word that names a branch
abbrev pub branch_pattern : List ℕ
branch_pattern = codes "BRanch"

-- the word that begins one
abbrev pub begin_pattern : List ℕ
begin_pattern = codes "BEGin"

-- the word that ends one
abbrev pub finish_pattern : List ℕ
finish_pattern = codes "FINish"

-- the name of an option, and its value where `=` stands in the word
abbrev pub option_in : Option (List ℕ) → Option (List ℕ × Option (List ℕ))
option_in None = None
option_in (Some text) = Some (name_and_value text)

-- the same of a word; one without a dash is no option
abbrev pub option_of : List ℕ → Option (List ℕ × Option (List ℕ))
option_of word = option_in (behind_dash word)

-- whether the option names a branch, with no value in the same word
abbrev pub names_branch : Option (List ℕ × Option (List ℕ)) → Bool
names_branch None = false
names_branch (Some option) = elim option.1 [ None ↦ spells false branch_pattern option.0 | Some value ↦ false ]

-- ---- the words after the name of the branch

-- nothing more follows, or the word at this place is one too many
abbrev pub with_no_more : ℕ → Rest → List (List ℕ) → Result Rest ℕ
with_no_more at said [] = Ok said
with_no_more at said (w ∷ ws) = Err at

-- a begin from the delta that the word at this place writes, if it writes one
abbrev pub begin_from : ℕ → Option ℕ → List (List ℕ) → Result Rest ℕ
begin_from at None ws = Err at
begin_from at (Some delta) ws = with_no_more (at + 1) (rest.Begin delta) ws

-- the delta is the next word, which may be missing
abbrev pub begin_next : List (List ℕ) → Result Rest ℕ
begin_next [] = Err 4
begin_next (w ∷ ws) = begin_from 4 (delta_number w) ws

-- the delta stands after the `=`, or is the next word
abbrev pub begin_said : Option (List ℕ) → List (List ℕ) → Result Rest ℕ
begin_said None ws = begin_next ws
begin_said (Some value) ws = begin_from 3 (delta_number value) ws

-- an end has no value
abbrev pub finish_said : Option (List ℕ) → List (List ℕ) → Result Rest ℕ
finish_said None ws = with_no_more 4 rest.Finish ws
finish_said (Some value) ws = Err 3

-- what the third word says as an option of this name and value, with these words after it: any other than the two is a
-- command's, which isn't read here
abbrev pub option_said : List ℕ × Option (List ℕ) → List (List ℕ) → Result Rest ℕ
option_said option ws =
    if spells false begin_pattern option.0 then begin_said option.1 ws
    else if spells false finish_pattern option.0 then finish_said option.1 ws
    else Ok rest.Plain

-- the same where it may be no option
abbrev pub third_said : Option (List ℕ × Option (List ℕ)) → List (List ℕ) → Result Rest ℕ
third_said None ws = Ok rest.Plain
third_said (Some option) ws = option_said option ws

-- what the words after the name say; none are the words of a command, a bad one
abbrev pub rest_said : List (List ℕ) → Result Rest ℕ
rest_said [] = Ok rest.Plain
rest_said (w ∷ ws) = third_said (option_of w) ws

-- ---- all words

-- the words name this branch, and say this of it
abbrev pub named : List ℕ → Result Rest ℕ → Result (Option BranchWords) ℕ
named name (Ok said) = Ok (Some (record { name = name; rest = said }))
named name (Err place) = Err place

-- the branch that the words name and what they say of it, or that they name none, or the place of the first bad word
abbrev pub branch_said : List (List ℕ) → Result (Option BranchWords) ℕ
branch_said [] = Ok None
branch_said (w ∷ []) = Ok None
branch_said (w ∷ name ∷ ws) = if names_branch (option_of w) && is_project_name name then named name (rest_said ws) else Ok None

-- the answer is what the words say, unless memory runs out
abbrev pub IsAnswer : List (List ℕ) → Result (Option BranchWords) WordsError → Type 0
IsAnswer words (Ok answer) = branch_said words ≡ Ok answer
IsAnswer words (Err (error.Bad place)) = branch_said words ≡ Err place
IsAnswer words (Err error.Memory) = Unit {0}
