-- The canonical text of a tree.
use Rattle.std.specs.Prelude.{ℕ, ◌+◌, ◌/◌, ◌%◌, List, [], ◌∷◌, ◌++◌, ◌==◌, ◌&&◌, if◌then◌else◌, nat_le, flat_map}
use Rattle.std.specs.Fmt.{decimal}
use Rattle.ae_text.specs.Tree.{Node, word, number, str, list, fields, Items, no_items, item, Members, no_members, member}

-- `\` with three octal digits
abbrev pub octal : ℕ → List ℕ
octal b = 92 ∷ (48 + b / 64) ∷ (48 + b / 8 % 8) ∷ (48 + b % 8) ∷ []

-- what stands in a string for a byte: `\n`, `\t`, `\"`, `\\`, the byte itself from 32 to 126, and else octal
unfoldable pub piece : ℕ → List ℕ
piece b =
    if b == 10 then 92 ∷ 110 ∷ []
    else if b == 9 then 92 ∷ 116 ∷ []
    else if b == 34 then 92 ∷ 34 ∷ []
    else if b == 92 then 92 ∷ 92 ∷ []
    else if nat_le 32 b && nat_le b 126 then b ∷ []
    else octal b

-- a string stands between two `"`
abbrev pub quoted : List ℕ → List ℕ
quoted s = 34 ∷ (flat_map piece s ++ 34 ∷ [])

-- `name = value;`, of a name and a value's text
abbrev pub field_text : List ℕ → List ℕ → List ℕ
field_text name value = name ++ 32 ∷ 61 ∷ 32 ∷ (value ++ 59 ∷ [])

abbrev mutual
  -- `[`, the values joined by `, `, and `]`; or `{ `, the fields joined by a space, and ` }`, where none are `{ }`
  pub value_text : Node → List ℕ
  value_text (word w) = w
  value_text (number n) = decimal n
  value_text (str s) = quoted s
  value_text (list js) = 91 ∷ (items_text [] js ++ 93 ∷ [])
  value_text (fields ms) = 123 ∷ (spaced_fields_text ms ++ 32 ∷ 125 ∷ [])

  -- the first after `before`, and each later one after `, `
  pub items_text : List ℕ → Items → List ℕ
  items_text before no_items = []
  items_text before (item j js) = before ++ (value_text j ++ items_text (44 ∷ 32 ∷ []) js)

  -- each field after a space
  pub spaced_fields_text : Members → List ℕ
  spaced_fields_text no_members = []
  spaced_fields_text (member k j ms) = 32 ∷ (field_text k (value_text j) ++ spaced_fields_text ms)

-- each field, and a line end
abbrev pub fields_text : Members → List ℕ
fields_text no_members = []
fields_text (member k j ms) = field_text k (value_text j) ++ 10 ∷ fields_text ms

-- the text is its fields, one on a line; what isn't a tree of fields has no text
abbrev pub text : Node → List ℕ
text (word w) = []
text (number n) = []
text (str s) = []
text (list js) = []
text (fields ms) = fields_text ms
