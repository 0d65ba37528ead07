-- What is put after what was put before.
use Rattle.std.proofs.Common.{◌≡◌, ℕ, List, [], ◌∷◌, ◌++◌, refl, sym, ap, ◌∙◌, append_assoc}
use Rattle.std.proofs.lemmas.List.{append-nil}
use Rattle.ae_text.specs.Tree.{Node}
use Rattle.ae_text.specs.View.{members_of}
use Rattle.ae_text.specs.Canonical.{value_text, field_text}
use Rattle.ae_text.specs.Printing.{FitsTypes, MembersFitTypes}
use Rattle.ae_text.specs.WellFormed.{IsWellFormed}
use Rattle.ae_text.proofs.Again.{text_again, field_row}
use Rattle.ae_text.proofs.Printed.{four_put}
use Rattle.ae_schema.specs.Records.{Named, structure, IsTextOf}
use Rattle.ae_schema.specs.Put.{ArePut, spaced, lines}
use Rattle.ae_schema.proofs.RowLists.{joined}

-- ---- fields after fields

-- the text of fields after fields is one text after the other
abbrev Joins : (List Named → List ℕ) → Type 0
Joins text_of = (ms ns : List Named) → text_of (ms ++ ns) ≡ text_of ms ++ text_of ns

spaced_join : Joins spaced
spaced_join [] ns = refl
spaced_join (m ∷ ms) ns =
    let one : List ℕ = field_text m.0 (value_text m.1) in
    ap (λ (l : List ℕ). 32 ∷ (one ++ l)) (spaced_join ms ns) ∙ ap (λ (l : List ℕ). 32 ∷ l) (sym (append_assoc one (spaced ms) (spaced ns)))

lines_join : Joins lines
lines_join [] ns = refl
lines_join (m ∷ ms) ns =
    let one : List ℕ = field_text m.0 (value_text m.1) in
    ap (λ (l : List ℕ). one ++ 10 ∷ l) (lines_join ms ns) ∙ sym (append_assoc one (10 ∷ lines ms) (lines ns))

types_join : (ms ns : List Named) → MembersFitTypes (members_of ms) → MembersFitTypes (members_of ns) → MembersFitTypes (members_of (ms ++ ns))
types_join [] ns first second = second
types_join (m ∷ ms) ns first second = (first.0, types_join ms ns first.1 second)

put_more : (text_of : List Named → List ℕ) → Joins text_of → (before between after : List ℕ) (ms ns : List Named)
    → ArePut text_of before between ms → ArePut text_of between after ns → ArePut text_of before after (ms ++ ns)
put_more text_of joins before between after ms ns first second = record {
  text = joined before between after (text_of ms) (text_of ns) first.text second.text ∙ ap (λ (l : List ℕ). before ++ l) (sym (joins ms ns));
  types = types_join ms ns first.types second.types;
}

-- fields of a structure after others
pub more_spaced : (before between after : List ℕ) (ms ns : List Named) → ArePut spaced before between ms → ArePut spaced between after ns → ArePut spaced before after (ms ++ ns)
more_spaced = put_more spaced spaced_join

-- lines after others
pub more_lines : (before between after : List ℕ) (ms ns : List Named) → ArePut lines before between ms → ArePut lines between after ns → ArePut lines before after (ms ++ ns)
more_lines = put_more lines lines_join

-- ---- one field

-- a field of a structure
pub one_spaced : (before between after name : List ℕ) (value : Node) → between ≡ before ++ 32 ∷ [] → after ≡ between ++ field_text name (value_text value) → FitsTypes value
    → ArePut spaced before after ((name, value) ∷ [])
one_spaced before between after name value first second types =
    let one : List ℕ = field_text name (value_text value) in
    record {
      text = joined before between after (32 ∷ []) one first second ∙ ap (λ (l : List ℕ). before ++ 32 ∷ l) (sym (append-nil one));
      types = (types, tt);
    }

-- a line
pub one_line : (before between after name : List ℕ) (value : Node) → between ≡ before ++ field_text name (value_text value) → after ≡ between ++ 10 ∷ [] → FitsTypes value
    → ArePut lines before after ((name, value) ∷ [])
one_line before between after name value first second types = record {
  text = joined before between after (field_text name (value_text value)) (10 ∷ []) first second;
  types = (types, tt);
}

-- a line in four pieces
pub line_by_pieces : (before one two three four name : List ℕ) (value : Node) → one ≡ before ++ name → two ≡ one ++ 32 ∷ 61 ∷ 32 ∷ [] → three ≡ two ++ value_text value
    → four ≡ three ++ 59 ∷ 10 ∷ [] → FitsTypes value → ArePut lines before four ((name, value) ∷ [])
line_by_pieces before one two three four name value first second third fourth types = record {
  text = four_put before name (32 ∷ 61 ∷ 32 ∷ []) (value_text value) (59 ∷ 10 ∷ []) one two three four first second third fourth
      ∙ ap (λ (l : List ℕ). before ++ l) (sym (field_row name (value_text value) (10 ∷ [])));
  types = (types, tt);
}

-- ---- the state files

-- what is put in lines is a text of these fields
pub lines_again : (ms : List Named) (bytes : List ℕ) → IsWellFormed (structure ms) → ArePut lines [] bytes ms → IsTextOf bytes ms
lines_again ms bytes fine put = text_again (structure ms) bytes fine put.types put.text
