-- The fields of a text: which one is wrong, and what they give.
use Rattle.std.specs.Prelude.{ℕ, Bool, false, not, List, [], ◌∷◌, Option, map, unwrap_or, position, slice_get, Result, Ok, Err}
use Rattle.std.specs.Borrow.{Bor}
use Rattle.std.specs.Option.{option_map_or, option_and_then}
use Rattle.std.specs.Map.{lookup}
use Rattle.std.specs.Str.{bytes_eq}
use Rattle.ae_text.specs.Tree as tree
use Rattle.ae_text.specs.Tree.{Node, Members, no_members, member}
use Rattle.ae_conf.specs.declared.kind.FieldKind.{FieldKind}
use Rattle.ae_conf.specs.Kinds.{Kinds, is_of}

-- names with their values, one after another
abbrev pub Fields : Type 0
Fields = List (List ℕ × Node)

-- the fields of a structure
abbrev pub members_in : Members → Fields
members_in no_members = []
members_in (member name value ms) = (name, value) ∷ members_in ms

-- the fields of a text
abbrev pub fields_in : Node → Fields
fields_in (tree.fields ms) = members_in ms
fields_in _ = []

-- a table of the program, as its rows
abbrev pub kinds_seen : List (Bor (List ℕ) × FieldKind) → Kinds
kinds_seen rows = map (λ row. (row.0.now, row.1)) rows

-- its name is one of the known ones, and its value isn't of the kind that stands beside that
abbrev pub is_wrong : Kinds → List ℕ × Node → Bool
is_wrong kinds field = option_map_or (λ kind. not (is_of kind field.1)) (lookup (bytes_eq field.0) kinds) false

-- the line of the first wrong field
abbrev pub first_wrong : Kinds → Fields → List ℕ → Option ℕ
first_wrong kinds fields lines = option_and_then (slice_get lines) (position (is_wrong kinds) fields)

-- what the field of this name gives, and the old value where there is none
abbrev pub given : {A : Type 0} → (Node → Option A) → List ℕ → Fields → A → A
given value_in name fields old = unwrap_or (option_and_then value_in (lookup (bytes_eq name) fields)) old

-- the fields, or where one is wrong the line of the first such
abbrev pub right_or_line : Kinds → Fields → List ℕ → Result Fields ℕ
right_or_line kinds fields lines = option_map_or Err (first_wrong kinds fields lines) (Ok fields)
