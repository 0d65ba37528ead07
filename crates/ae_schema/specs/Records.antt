-- Records as lists of fields, each a name with its value, and the first place of a list that is wrong.
use Rattle.std.specs.Prelude.{◌≡◌, ◌≤◌, ℕ, ◌+◌, List, [], ◌∷◌, ◌++◌, ◌⊎◌, length, unwrap_or, slice_get, Result, Ok, Err}
use Rattle.ae_text.specs.Tree.{Node, word, number, str, list, fields}
use Rattle.ae_text.specs.View.{members_of}
use Rattle.ae_text.specs.Grammar.{Reads, line_ends, line_after}
use Rattle.ae_text.specs.Wrong.{IsError}
use Rattle.ae_text.specs.declared.read.TextError.{TextError}
use Rattle.ae_text.specs.declared.read.TextError.TheVariants as text_errors
use Rattle.ae_schema.specs.declared.fields.Stop.{Stop}
use Rattle.ae_schema.specs.declared.fields.Stop.TheVariants.{Bad, Memory}
use Rattle.ae_schema.specs.declared.error.SchemaError.{SchemaError}
use Rattle.ae_schema.specs.declared.error.SchemaError.TheVariants as errors

-- a name with its value
abbrev pub Named : Type 0
Named = List ℕ × Node

-- each name with its value
abbrev pub named : List (List ℕ) → List Node → List Named
named [] vs = []
named (k ∷ ks) [] = []
named (k ∷ ks) (v ∷ vs) = (k, v) ∷ named ks vs

-- a structure of these fields
abbrev pub structure : List Named → Node
structure ms = fields (members_of ms)

-- it is a structure, as a text is
abbrev pub IsStructure : Node → Type 0
IsStructure (word w) = ⊥
IsStructure (number n) = ⊥
IsStructure (str s) = ⊥
IsStructure (list js) = ⊥
IsStructure (fields ms) = Unit {0}

-- ---- the first wrong place

-- what stands at a place of a record: a field, or after the last one the end
pub data Piece : Type 0 where
  field : List ℕ → Node → Piece
  end : Piece

-- the fields, and the end
abbrev pub pieces : List Named → List Piece
pieces [] = end ∷ []
pieces (m ∷ ms) = field m.0 m.1 ∷ pieces ms

-- Some record begins with these pieces: that of a value which its type can hold.
pub record Begins {A : Type 0} (Fits : A → Type 0) (fields_of : A → List Named) (front : List Piece) : Type 0 where
  pub value : A
  pub fits : Fits value
  pub more : List Piece
  pub pieces_are : pieces (fields_of value) ≡ front ++ more

-- The pieces before this place begin a record, and with the one that stands there they begin none.
pub record IsWrongAt {A : Type 0} (Fits : A → Type 0) (fields_of : A → List Named) (ms : List Named) (at : ℕ) : Type 0 where
  pub front : List Piece
  pub wrong : Piece
  pub rest : List Piece
  pub pieces_are : pieces ms ≡ front ++ wrong ∷ rest
  pub begins : Begins Fits fields_of front
  pub stops : Begins Fits fields_of (front ++ wrong ∷ []) → ⊥
  pub place : at ≡ length front

-- ---- texts

-- the bytes are a text of just these fields, in this order
abbrev pub IsTextOf : List ℕ → List Named → Type 0
IsTextOf bytes ms = (lines : List ℕ) × Reads bytes (structure ms) lines

-- the bytes are a text of the fields of a value that stands in a record
abbrev pub IsRecord : {A : Type 0} → (A → Type 0) → (A → List Named) → List ℕ → Type 0
IsRecord {A} Fits fields_of bytes = (x : A) × Fits x × IsTextOf bytes (fields_of x)

-- the line after all line ends
abbrev pub last_line : List ℕ → ℕ
last_line bytes = line_after (line_ends bytes)

-- The bytes are a text, and the first of its fields that is wrong in a record stands in this line; where one is missing it is the last line.
pub record IsWrongText {A : Type 0} (Fits : A → Type 0) (fields_of : A → List Named) (bytes : List ℕ) (line : ℕ) : Type 0 where
  pub ms : List Named
  pub lines : List ℕ
  pub reads : Reads bytes (structure ms) lines
  pub at : ℕ
  pub wrong : IsWrongAt Fits fields_of ms at
  pub line_is : line ≡ unwrap_or (slice_get lines at) (last_line bytes)

-- the line of the first token that can't stand in a text, or else of the first field that can't stand in a record
abbrev pub IsBadLine : {A : Type 0} → (A → Type 0) → (A → List Named) → List ℕ → ℕ → Type 0
IsBadLine Fits fields_of bytes line = IsError bytes line ⊎ IsWrongText Fits fields_of bytes line

-- some line is that of the first token or field that can't stand there
abbrev pub HasBadLine : {A : Type 0} → (A → Type 0) → (A → List Named) → List ℕ → Type 0
HasBadLine Fits fields_of bytes = (line : ℕ) × IsBadLine Fits fields_of bytes line

-- it is this value, unless memory runs out
abbrev pub IsAnswer : {A : Type 0} → A → Result A SchemaError → Type 0
IsAnswer x (Ok y) = y ≡ x
IsAnswer x (Err (errors.Field line)) = ⊥
IsAnswer x (Err errors.Memory) = Unit {0}

-- it is refused with this line, unless memory runs out
abbrev pub IsRefusal : {A : Type 0} → ℕ → Result A SchemaError → Type 0
IsRefusal line (Ok y) = ⊥
IsRefusal line (Err (errors.Field other)) = other ≡ line
IsRefusal line (Err errors.Memory) = Unit {0}

-- ---- where the reader stops

-- what is told of a wrong token
abbrev pub refusal_of : TextError → SchemaError
refusal_of (text_errors.Syntax line) = errors.Field line
refusal_of (text_errors.TooDeep line) = errors.Field line
refusal_of text_errors.Memory = errors.Memory

-- what is told of a wrong place, of the lines of the fields
abbrev pub stop_error : List ℕ → List ℕ → Stop → SchemaError
stop_error bytes lines (Bad at) = errors.Field (unwrap_or (slice_get lines at) (last_line bytes))
stop_error bytes lines Memory = errors.Memory

-- the stop tells the first wrong place
abbrev pub BadAt : {A : Type 0} → (A → Type 0) → (A → List Named) → List Named → Stop → Type 0
BadAt Fits fields_of ms (Bad at) = (at ≤ length ms) × IsWrongAt Fits fields_of ms at
BadAt Fits fields_of ms Memory = Unit {0}

-- the stop tells the first place, for this reason
abbrev pub BadFirst : Type 0 → Stop → Type 0
BadFirst Reason (Bad at) = (at ≡ 0) × Reason
BadFirst Reason Memory = Unit {0}

-- the place is at most this
abbrev pub IsWithin : ℕ → Stop → Type 0
IsWithin most (Bad at) = at ≤ most
IsWithin most Memory = Unit {0}

-- the place is one further
abbrev pub stop_behind : Stop → Stop
stop_behind (Bad at) = Bad (at + 1)
stop_behind Memory = Memory
