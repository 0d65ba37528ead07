-- Which tokens spell which tree, and which bytes are a text.
use Rattle.std.specs.Prelude.{◌≡◌, ℕ, ◌+◌, ◌⊎◌, List, [], ◌∷◌, ◌++◌, map, take, min, ◌==◌, count_by}
use Rattle.ae_text.specs.Tree.{Node, list, fields, Items, no_items, item, Members, no_members, member}
use Rattle.ae_text.specs.Tree as tree
use Rattle.ae_text.specs.Token.{word, number, string, sign, end, Placed, Begins}
use Rattle.ae_text.specs.WellFormed.{MembersHaveDistinctNames, MembersFitDepth, max_depth}

abbrev mutual
  -- a word, a number, a string, `[` items `]`, or `{` fields `}`
  pub IsValue : List Placed → Node → Type 0
  IsValue ps (tree.word w) = (p : Placed) × (ps ≡ p ∷ []) × (p.token ≡ word w)
  IsValue ps (tree.number n) = (p : Placed) × (ps ≡ p ∷ []) × (p.token ≡ number n)
  IsValue ps (tree.str s) = (p : Placed) × (ps ≡ p ∷ []) × (p.token ≡ string s)
  IsValue ps (list js) =
      (open_sign : Placed) × (inner : List Placed) × (close_sign : Placed) × (ps ≡ open_sign ∷ (inner ++ close_sign ∷ []))
      × (open_sign.token ≡ sign 91) × (close_sign.token ≡ sign 93) × AreItems inner js
  IsValue ps (fields ms) =
      (open_sign : Placed) × (inner : List Placed) × (close_sign : Placed) × (ps ≡ open_sign ∷ (inner ++ close_sign ∷ []))
      × (open_sign.token ≡ sign 123) × (close_sign.token ≡ sign 125) × AreFields inner ms

  -- nothing, or a value and then the others
  pub AreItems : List Placed → Items → Type 0
  AreItems ps no_items = ps ≡ []
  AreItems ps (item j js) = (first : List Placed) × (rest : List Placed) × (ps ≡ first ++ rest) × IsValue first j × AreMoreItems rest js

  -- after a value: each further one after `,`, and one `,` may stand after the last
  pub AreMoreItems : List Placed → Items → Type 0
  AreMoreItems ps no_items = (ps ≡ []) ⊎ ((comma : Placed) × (ps ≡ comma ∷ []) × (comma.token ≡ sign 44))
  AreMoreItems ps (item j js) =
      (comma : Placed) × (first : List Placed) × (rest : List Placed) × (ps ≡ comma ∷ (first ++ rest)) × (comma.token ≡ sign 44) × IsValue first j × AreMoreItems rest js

  -- each a word, `=`, a value and `;`
  pub AreFields : List Placed → Members → Type 0
  AreFields ps no_members = ps ≡ []
  AreFields ps (member k j ms) =
      (name : Placed) × (equals : Placed) × (value : List Placed) × (semicolon : Placed) × (rest : List Placed) × (ps ≡ name ∷ equals ∷ (value ++ semicolon ∷ rest))
      × (name.token ≡ word k) × (equals.token ≡ sign 61) × (semicolon.token ≡ sign 59) × IsValue value j × AreFields rest ms

-- a whole text: its fields, with the places of their names, and the end of the bytes
abbrev pub IsSentence : List Placed → Members → List ℕ → Type 0
IsSentence ps no_members [] = (last : Placed) × (ps ≡ last ∷ []) × (last.token ≡ end)
IsSentence ps no_members (at ∷ places) = ⊥
IsSentence ps (member k j ms) [] = ⊥
IsSentence ps (member k j ms) (at ∷ places) =
    (name : Placed) × (equals : Placed) × (value : List Placed) × (semicolon : Placed) × (rest : List Placed) × (ps ≡ name ∷ equals ∷ (value ++ semicolon ∷ rest))
    × (name.token ≡ word k) × (equals.token ≡ sign 61) × (semicolon.token ≡ sign 59) × IsValue value j × (name.at ≡ at) × IsSentence rest ms places

-- how many line ends there are
abbrev pub line_ends : List ℕ → ℕ
line_ends = count_by (λ b. b == 10)

-- the line after so many line ends: they count from 1, and the greatest number stands for all above it
abbrev pub line_after : ℕ → ℕ
line_after ends = min (1 + ends) 4294967295

-- the line of a place, which is the number of bytes before it
abbrev pub line_of : List ℕ → ℕ → ℕ
line_of bytes at = line_after (line_ends (take at bytes))

-- The bytes are a text with these fields, whose names stand in these lines.
pub record ReadsFields (bytes : List ℕ) (ms : Members) (lines : List ℕ) : Type 0 where
  pub places : List ℕ
  pub all : List Placed
  pub tokens_are : Begins 0 bytes all
  pub sentence : IsSentence all ms places
  pub names_differ : MembersHaveDistinctNames ms
  pub nests : MembersFitDepth max_depth ms
  pub lines_are : lines ≡ map (line_of bytes) places

-- the bytes are a text of this tree, whose fields stand in these lines; only a tree of fields has texts
abbrev pub Reads : List ℕ → Node → List ℕ → Type 0
Reads bytes (tree.word w) lines = ⊥
Reads bytes (tree.number n) lines = ⊥
Reads bytes (tree.str s) lines = ⊥
Reads bytes (list js) lines = ⊥
Reads bytes (fields ms) lines = ReadsFields bytes ms lines
