-- Which trees are a text: the words are words, no name repeats, and nothing nests too deep.
use Rattle.std.specs.Prelude.{◌≢◌, ℕ, ◌-◌, ◌<◌, List, [], ◌∷◌, Bool, false, ◌==◌, ◌&&◌, ◌||◌, IsTrue}
use Rattle.std.specs.List.{list_all}
use Rattle.ae_base.specs.Names.{is_letter, is_digit}
use Rattle.ae_text.specs.Tree.{Node, word, number, str, list, fields, Items, no_items, item, Members, no_members, member}

-- a letter or `_`
abbrev pub begins_word : ℕ → Bool
begins_word b = is_letter b || (b == 95)

-- a letter, `_` or a digit
abbrev pub goes_on_word : ℕ → Bool
goes_on_word b = begins_word b || is_digit b

-- a letter or `_`, then letters, digits and `_`
abbrev pub is_word : List ℕ → Bool
is_word [] = false
is_word (b ∷ bs) = begins_word b && list_all goes_on_word bs

-- each word and each name in the tree is a word
abbrev mutual
  pub HasGoodWords : Node → Type 0
  HasGoodWords (word w) = IsTrue (is_word w)
  HasGoodWords (number n) = Unit {0}
  HasGoodWords (str s) = Unit {0}
  HasGoodWords (list js) = ItemsHaveGoodWords js
  HasGoodWords (fields ms) = MembersHaveGoodWords ms

  pub ItemsHaveGoodWords : Items → Type 0
  ItemsHaveGoodWords no_items = Unit {0}
  ItemsHaveGoodWords (item j js) = HasGoodWords j × ItemsHaveGoodWords js

  pub MembersHaveGoodWords : Members → Type 0
  MembersHaveGoodWords no_members = Unit {0}
  MembersHaveGoodWords (member k j ms) = IsTrue (is_word k) × HasGoodWords j × MembersHaveGoodWords ms

-- no field has this name
abbrev pub LacksName : List ℕ → Members → Type 0
LacksName k no_members = Unit {0}
LacksName k (member h j ms) = (k ≢ h) × LacksName k ms

-- no name of one structure repeats
abbrev mutual
  pub HasDistinctNames : Node → Type 0
  HasDistinctNames (word w) = Unit {0}
  HasDistinctNames (number n) = Unit {0}
  HasDistinctNames (str s) = Unit {0}
  HasDistinctNames (list js) = ItemsHaveDistinctNames js
  HasDistinctNames (fields ms) = MembersHaveDistinctNames ms

  pub ItemsHaveDistinctNames : Items → Type 0
  ItemsHaveDistinctNames no_items = Unit {0}
  ItemsHaveDistinctNames (item j js) = HasDistinctNames j × ItemsHaveDistinctNames js

  pub MembersHaveDistinctNames : Members → Type 0
  MembersHaveDistinctNames no_members = Unit {0}
  MembersHaveDistinctNames (member k j ms) = LacksName k ms × HasDistinctNames j × MembersHaveDistinctNames ms

-- lists and structures nest at most `depth` deep
abbrev mutual
  pub FitsDepth : ℕ → Node → Type 0
  FitsDepth depth (word w) = Unit {0}
  FitsDepth depth (number n) = Unit {0}
  FitsDepth depth (str s) = Unit {0}
  FitsDepth depth (list js) = (0 < depth) × ItemsFitDepth (depth - 1) js
  FitsDepth depth (fields ms) = (0 < depth) × MembersFitDepth (depth - 1) ms

  pub ItemsFitDepth : ℕ → Items → Type 0
  ItemsFitDepth depth no_items = Unit {0}
  ItemsFitDepth depth (item j js) = FitsDepth depth j × ItemsFitDepth depth js

  pub MembersFitDepth : ℕ → Members → Type 0
  MembersFitDepth depth no_members = Unit {0}
  MembersFitDepth depth (member k j ms) = FitsDepth depth j × MembersFitDepth depth ms

-- the levels of lists and structures that a text may have
abbrev pub max_depth : ℕ
max_depth = 16

-- a tree of fields, which are themselves no level
abbrev pub IsWellFormed : Node → Type 0
IsWellFormed (word w) = ⊥
IsWellFormed (number n) = ⊥
IsWellFormed (str s) = ⊥
IsWellFormed (list js) = ⊥
IsWellFormed (fields ms) = MembersHaveGoodWords ms × MembersHaveDistinctNames ms × MembersFitDepth max_depth ms
