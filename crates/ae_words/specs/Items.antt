-- Options with their values, and plain words.
use Rattle.std.specs.Prelude.{ℕ, ◌+◌, List, [], ◌∷◌, Bool, true, false, ◌==◌, if◌then◌else◌, Option, Some, None, position, take, drop, find}
use Rattle.ae_base.specs.Bytes.{dash, equals_sign}
use Rattle.ae_words.specs.Spelling.{spells}
use Rattle.ae_words.specs.Table.{function_pattern, all_functions, listing_pattern, all_listings, setting_pattern, all_settings}
use Rattle.ae_words.specs.declared.table.Function.{Function}
use Rattle.ae_words.specs.declared.table.Listing.{Listing}
use Rattle.ae_words.specs.declared.table.Setting.{Setting}
use Rattle.ae_words.specs.declared.table.Setting.TheVariants as setting

-- the function that the name spells; no name spells two
abbrev pub function_named : List ℕ → Option Function
function_named name = find (λ f. spells false (function_pattern f) name) all_functions

-- the listing that the name spells
abbrev pub listing_named : List ℕ → Option Listing
listing_named name = find (λ l. spells false (listing_pattern l) name) all_listings

-- the option that the name spells
abbrev pub setting_named : List ℕ → Option Setting
setting_named name = find (λ o. spells false (setting_pattern o) name) all_settings

-- whether the option has no value
abbrev pub is_flag : Setting → Bool
is_flag setting.Overwriting = true
is_flag setting.Baseline = true
is_flag setting.Regression = true
is_flag _ = false

-- a second dash is ignored
abbrev pub without_dash : List ℕ → List ℕ
without_dash [] = []
without_dash (b ∷ bs) = if b == dash then bs else b ∷ bs

-- what stands after the dash of an option word
abbrev pub behind_dash : List ℕ → Option (List ℕ)
behind_dash [] = None
behind_dash (b ∷ bs) = if b == dash then Some (without_dash bs) else None

-- the text before this place and the text after it
abbrev pub parted : List ℕ → Option ℕ → List ℕ × Option (List ℕ)
parted text None = (text, None)
parted text (Some i) = (take i text, Some (drop (i + 1) text))

-- the name, and what stands after the first `=`
abbrev pub name_and_value : List ℕ → List ℕ × Option (List ℕ)
name_and_value text = parted text (position (λ b. b == equals_sign) text)

-- what one word is
pub data Word : Type 0 where
  plain : Word
  flag : Setting → Word
  -- an option, and its value in the same word
  written : Setting → List ℕ → Word
  -- an option whose value is the next word
  asks : Setting → Word
  -- an option word that matches none, or a flag with a value
  wrong : Word

-- a flag may have no `=`
abbrev pub flag_word : Setting → Option (List ℕ) → Word
flag_word o None = flag o
flag_word o (Some v) = wrong

-- the value stands after the `=`, or is the next word
abbrev pub valued_word : Setting → Option (List ℕ) → Word
valued_word o None = asks o
valued_word o (Some v) = written o v

-- what an option word is, by the option that its name spells and what stands after its `=`
abbrev pub option_word : Option Setting → Option (List ℕ) → Word
option_word None v = wrong
option_word (Some o) v = if is_flag o then flag_word o v else valued_word o v

-- the same for its name and value
abbrev pub named_word : List ℕ × Option (List ℕ) → Word
named_word p = option_word (setting_named p.0) p.1

-- the same for what stands after its dash; a word without one is plain
abbrev pub word_behind : Option (List ℕ) → Word
word_behind None = plain
word_behind (Some text) = named_word (name_and_value text)

-- what the word is
unfoldable pub word : List ℕ → Word
word text = word_behind (behind_dash text)

-- the words that belong together, with the place of the first
pub data Item : Type 0 where
  a_plain : ℕ → List ℕ → Item
  a_flag : ℕ → Setting → Item
  -- an option, and its value at the second place
  an_option : ℕ → Setting → ℕ → List ℕ → Item
  -- an option word that matches none, a flag with a value, or an option without one
  a_wrong : ℕ → Item

-- an option whose value is the next word, which may be missing
abbrev pub valued_item : ℕ → Setting → List (List ℕ) → Item
valued_item at o [] = a_wrong at
valued_item at o (v ∷ vs) = an_option at o (at + 1) v

-- the item that begins with a word at this place, with these words after it
abbrev pub item : ℕ → List ℕ → Word → List (List ℕ) → Item
item at text plain behind = a_plain at text
item at text (flag o) behind = a_flag at o
item at text (written o v) behind = an_option at o at v
item at text (asks o) behind = valued_item at o behind
item at text wrong behind = a_wrong at

-- whether the next word is its value
abbrev pub takes_next : Word → Bool
takes_next (asks o) = true
takes_next _ = false

-- the items of the words from this place on; the first may be the value of the option before
abbrev pub items_from : ℕ → Bool → List (List ℕ) → List Item
items_from at is_value [] = []
items_from at true (w ∷ ws) = items_from (at + 1) false ws
items_from at false (w ∷ ws) = item at w (word w) ws ∷ items_from (at + 1) (takes_next (word w)) ws

-- the items after the first word
abbrev pub items : List (List ℕ) → List Item
items [] = []
items (w ∷ ws) = items_from 2 false ws

-- the function that the name spells, where no `=` stands after it
abbrev pub unvalued_function : List ℕ × Option (List ℕ) → Option Function
unvalued_function p = elim p.1 [ None ↦ function_named p.0 | Some v ↦ None ]

-- the same for what stands after the dash
abbrev pub function_behind : Option (List ℕ) → Option Function
function_behind None = None
function_behind (Some text) = unvalued_function (name_and_value text)

-- the function that the first word names
abbrev pub function : List (List ℕ) → Option Function
function [] = None
function (w ∷ ws) = function_behind (behind_dash w)

-- the listing that the first plain word names
abbrev pub listing : List Item → Option Listing
listing [] = None
listing (a_plain at text ∷ is) = listing_named text
listing (a_flag at o ∷ is) = listing is
listing (an_option at o v_at v ∷ is) = listing is
listing (a_wrong at ∷ is) = listing is
