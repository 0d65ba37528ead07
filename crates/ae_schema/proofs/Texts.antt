-- A text is a record or has a bad line, and never both, and one bad line at most.
use Rattle.std.proofs.Common.{◌≡◌, ℕ, ◌<◌, ◌⊎◌, inl, inr, List, [], ◌∷◌, ◌++◌, length, append_assoc, unwrap_or, Result, Err, refl, sym, ap, ◌∙◌, subst, arith}
use Rattle.std.specs.Prelude.{slice_get}
use Rattle.std.proofs.lemmas.Bool.{cases_lt}
use Rattle.ae_text.specs.Tree.{Node, word, number, str, list, fields}
use Rattle.ae_text.specs.Grammar.{Reads}
use Rattle.ae_text.specs.Wrong.{IsSyntax, IsTooDeep, IsError}
use Rattle.ae_text.specs.View.{members_of}
use Rattle.ae_text.proofs.Whole.{one_tree}
use Rattle.ae_text.proofs.Errors as errors
use Rattle.ae_schema.specs.Records.{Named, Piece, pieces, structure, IsStructure, Begins, IsWrongAt, IsTextOf, IsBadLine, last_line, IsAnswer, IsRefusal, BadAt, refusal_of, stop_error}
use Rattle.ae_schema.specs.declared.fields.Stop.{Stop}
use Rattle.ae_schema.specs.declared.fields.Stop.TheVariants as stops
use Rattle.ae_schema.specs.declared.error.SchemaError.{SchemaError}
use Rattle.ae_schema.specs.declared.error.SchemaError.TheVariants as schema_errors
use Rattle.ae_text.specs.declared.read.TextError.{TextError}
use Rattle.ae_text.specs.declared.read.TextError.TheVariants as text_errors
use Rattle.ae_schema.proofs.RowLists.{same_members}

-- no place of a whole record is wrong
pub whole_is_right : {A : Type 0} (Fits : A → Type 0) (fields_of : A → List Named) (x : A) → Fits x → (at : ℕ) → IsWrongAt Fits fields_of (fields_of x) at → ⊥
whole_is_right Fits fields_of x fits at w =
    w.stops (record { value = x; fits = fits; more = w.rest; pieces_are = w.pieces_are ∙ sym (append_assoc w.front (w.wrong ∷ []) w.rest) })

-- of two fronts of a list the longer one goes on from the shorter
goes_on : (a b : List Piece) (p q : Piece) (r s : List Piece) → a ++ p ∷ r ≡ b ++ q ∷ s → length a < length b → (more : List Piece) × (b ≡ (a ++ p ∷ []) ++ more)
goes_on [] [] p q r s e less = absurd (omega arith)
goes_on [] (y ∷ b) p q r s e less = (b, cc)
goes_on (x ∷ a) [] p q r s e less = absurd (omega arith)
goes_on (x ∷ a) (y ∷ b) p q r s e less =
    let tails : a ++ p ∷ r ≡ b ++ q ∷ s = cc in
    let inner = goes_on a b p q r s tails (omega arith) in
    let is : b ≡ (a ++ p ∷ []) ++ inner.0 = inner.1 in
    (inner.0, cc)

-- what begins a record begins with what begins a record
begins_shorter : {A : Type 0} (Fits : A → Type 0) (fields_of : A → List Named) (front more whole : List Piece) → whole ≡ front ++ more → Begins Fits fields_of whole → Begins Fits fields_of front
begins_shorter Fits fields_of front more whole e b =
    record { value = b.value; fits = b.fits; more = more ++ b.more; pieces_are = b.pieces_are ∙ ap (λ (ps : List Piece). ps ++ b.more) e ∙ append_assoc front more b.more }

not_before : {A : Type 0} (Fits : A → Type 0) (fields_of : A → List Named) (ms : List Named) (at other : ℕ) (w : IsWrongAt Fits fields_of ms at) (v : IsWrongAt Fits fields_of ms other) → length w.front < length v.front → ⊥
not_before Fits fields_of ms at other w v less =
    let on = goes_on w.front v.front w.wrong v.wrong w.rest v.rest (sym w.pieces_are ∙ v.pieces_are) less in
    w.stops (begins_shorter Fits fields_of (w.front ++ w.wrong ∷ []) on.0 v.front on.1 v.begins)

-- one place is the first wrong one
pub one_place : {A : Type 0} (Fits : A → Type 0) (fields_of : A → List Named) (ms : List Named) (at other : ℕ) → IsWrongAt Fits fields_of ms at → IsWrongAt Fits fields_of ms other → at ≡ other
one_place Fits fields_of ms at other w v =
    let first = w.place in
    let second = v.place in
    elim (cases_lt (length w.front) (length v.front)) [
      | inl less ↦ absurd (not_before Fits fields_of ms at other w v less)
      | inr more ↦ elim (cases_lt (length v.front) (length w.front)) [
        | inl less ↦ absurd (not_before Fits fields_of ms other at v w less)
        | inr same ↦ omega arith
      ]
    ]

-- two texts of the same bytes have the same fields
pub one_record : (bytes : List ℕ) (ms ns : List Named) (lines others : List ℕ) → Reads bytes (structure ms) lines → Reads bytes (structure ns) others → (ms ≡ ns) × (lines ≡ others)
one_record bytes ms ns lines others r s =
    let one = one_tree bytes (structure ms) (structure ns) lines others r s in
    let members : members_of ms ≡ members_of ns = cc (one.0) in
    (same_members ms ns members, one.1)

-- a text of a record has no bad line
pub never_both : {A : Type 0} (Fits : A → Type 0) (fields_of : A → List Named) (bytes : List ℕ) (x : A) → Fits x → IsTextOf bytes (fields_of x) → (line : ℕ) → IsBadLine Fits fields_of bytes line → ⊥
never_both Fits fields_of bytes x fits text line (inl error) = errors.never_both bytes (structure (fields_of x)) text.0 line text.1 error
never_both Fits fields_of bytes x fits text line (inr w) =
    let same = one_record bytes w.ms (fields_of x) w.lines text.0 w.reads text.1 in
    whole_is_right Fits fields_of x fits w.at (subst (λ (ms : List Named). IsWrongAt Fits fields_of ms w.at) same.0 w.wrong)

-- a text has one bad line at most
pub one_line : {A : Type 0} (Fits : A → Type 0) (fields_of : A → List Named) (bytes : List ℕ) (line other : ℕ) → IsBadLine Fits fields_of bytes line → IsBadLine Fits fields_of bytes other → line ≡ other
one_line Fits fields_of bytes line other (inl e) (inl f) = errors.one_line bytes line other e f
one_line Fits fields_of bytes line other (inl e) (inr v) = absurd (errors.never_both bytes (structure v.ms) v.lines line v.reads e)
one_line Fits fields_of bytes line other (inr w) (inl f) = absurd (errors.never_both bytes (structure w.ms) w.lines other w.reads f)
one_line Fits fields_of bytes line other (inr w) (inr v) =
    let same = one_record bytes w.ms v.ms w.lines v.lines w.reads v.reads in
    let at : w.at ≡ v.at = one_place Fits fields_of v.ms w.at v.at (subst (λ (ms : List Named). IsWrongAt Fits fields_of ms w.at) same.0 w.wrong) v.wrong in
    let lines : w.lines ≡ v.lines = same.1 in
    let one = w.line_is in
    let two = v.line_is in
    cc

-- a text is a structure
pub text_is_structure : (bytes : List ℕ) (n : Node) (lines : List ℕ) → Reads bytes n lines → IsStructure n
text_is_structure bytes (word w) lines r = r
text_is_structure bytes (number m) lines r = r
text_is_structure bytes (str s) lines r = r
text_is_structure bytes (list js) lines r = r
text_is_structure bytes (fields ms) lines r = tt

-- the same places are wrong where two kinds of values have the same records
pub same_places : {A B : Type 0} (FitsA : A → Type 0) (FitsB : B → Type 0) (fields_a : A → List Named) (fields_b : B → List Named)
    → (to : A → B) (from : B → A) → ((x : A) → FitsA x → FitsB (to x)) → ((y : B) → FitsB y → FitsA (from y))
    → ((x : A) → fields_b (to x) ≡ fields_a x) → ((y : B) → fields_a (from y) ≡ fields_b y)
    → (ms : List Named) (at : ℕ) → IsWrongAt FitsA fields_a ms at → IsWrongAt FitsB fields_b ms at
same_places FitsA FitsB fields_a fields_b to from to_fits from_fits to_same from_same ms at w = record {
  front = w.front;
  wrong = w.wrong;
  rest = w.rest;
  pieces_are = w.pieces_are;
  begins = record { value = to w.begins.value; fits = to_fits w.begins.value w.begins.fits; more = w.begins.more; pieces_are = ap pieces (to_same w.begins.value) ∙ w.begins.pieces_are };
  stops = λ b. w.stops (record { value = from b.value; fits = from_fits b.value b.fits; more = b.more; pieces_are = ap pieces (from_same b.value) ∙ b.pieces_are });
  place = w.place;
}

pub same_line : {A B : Type 0} (FitsA : A → Type 0) (FitsB : B → Type 0) (fields_a : A → List Named) (fields_b : B → List Named)
    → (to : A → B) (from : B → A) → ((x : A) → FitsA x → FitsB (to x)) → ((y : B) → FitsB y → FitsA (from y))
    → ((x : A) → fields_b (to x) ≡ fields_a x) → ((y : B) → fields_a (from y) ≡ fields_b y)
    → (bytes : List ℕ) (line : ℕ) → IsBadLine FitsA fields_a bytes line → IsBadLine FitsB fields_b bytes line
same_line FitsA FitsB fields_a fields_b to from to_fits from_fits to_same from_same bytes line (inl e) = inl e
same_line FitsA FitsB fields_a fields_b to from to_fits from_fits to_same from_same bytes line (inr w) = inr (record {
  ms = w.ms;
  lines = w.lines;
  reads = w.reads;
  at = w.at;
  wrong = same_places FitsA FitsB fields_a fields_b to from to_fits from_fits to_same from_same w.ms w.at w.wrong;
  line_is = w.line_is;
})

-- ---- as the reader meets them

-- where the fields are a record, the reader doesn't stop at a place
pub not_bad : {A P : Type 0} (Fits : A → Type 0) (fields_of : A → List Named) (x : A) → Fits x → (ms : List Named) → fields_of x ≡ ms
    → (stop : Stop) → BadAt Fits fields_of ms stop → (at : ℕ) → stop ≡ stops.Bad at → P
not_bad Fits fields_of x fits ms is (stops.Bad n) w at e =
    absurd (whole_is_right Fits fields_of x fits n (subst (λ (ns : List Named). IsWrongAt Fits fields_of ns n) (sym is) w.1))
not_bad Fits fields_of x fits ms is stops.Memory w at e = absurd (cc)

refused : (bytes : List ℕ) (error : TextError) (line : ℕ) → refusal_of error ≡ schema_errors.Field line → (error ≡ text_errors.Syntax line) ⊎ (error ≡ text_errors.TooDeep line)
refused bytes (text_errors.Syntax n) line e = let is : n ≡ line = cc in inl (ap text_errors.Syntax is)
refused bytes (text_errors.TooDeep n) line e = let is : n ≡ line = cc in inr (ap text_errors.TooDeep is)
refused bytes text_errors.Memory line e = absurd (cc)

-- a line that is told of a text is that of its wrong token
pub told_token : (bytes : List ℕ) (error : TextError) → ((line : ℕ) → error ≡ text_errors.Syntax line → IsSyntax bytes line) → ((line : ℕ) → error ≡ text_errors.TooDeep line → IsTooDeep bytes line)
    → (line : ℕ) → refusal_of error ≡ schema_errors.Field line → IsError bytes line
told_token bytes error syntax deep line e =
    elim (refused bytes error line e) [
      | inl s ↦ inl (syntax line s)
      | inr d ↦ inr (deep line d)
    ]

-- a line that is told of a place is that of the wrong field
pub told_field : {A : Type 0} (Fits : A → Type 0) (fields_of : A → List Named) (bytes : List ℕ) (ms : List Named) (lines : List ℕ) → Reads bytes (structure ms) lines
    → (stop : Stop) → BadAt Fits fields_of ms stop → (line : ℕ) → stop_error bytes lines stop ≡ schema_errors.Field line → IsBadLine Fits fields_of bytes line
told_field Fits fields_of bytes ms lines reads (stops.Bad at) w line e =
    let is : unwrap_or (slice_get lines at) (last_line bytes) ≡ line = cc in
    inr (record { ms = ms; lines = lines; reads = reads; at = at; wrong = w.1; line_is = sym is })
told_field Fits fields_of bytes ms lines reads stops.Memory w line e = absurd (cc)

pub same_error : {T : Type 0} (x y : SchemaError) → ◌≡◌ {A = Result T SchemaError} (Err x) (Err y) → x ≡ y
same_error x y e = cc

-- ---- the clauses of a state file's reader, where it refuses

-- a refusal answers a text of a record out of memory alone
pub bad_answer : {A : Type 0} (Fits : A → Type 0) (fields_of : A → List Named) (bytes : List ℕ) (error : SchemaError)
    → ((line : ℕ) → error ≡ schema_errors.Field line → IsBadLine Fits fields_of bytes line)
    → (x : A) → Fits x → IsTextOf bytes (fields_of x) → IsAnswer x (Err error)
bad_answer Fits fields_of bytes (schema_errors.Field line) bad x fits text = never_both Fits fields_of bytes x fits text line (bad line refl)
bad_answer Fits fields_of bytes schema_errors.Memory bad x fits text = tt

-- a refusal tells the bad line
pub bad_refusal : {A : Type 0} (Fits : A → Type 0) (fields_of : A → List Named) (bytes : List ℕ) (error : SchemaError)
    → ((line : ℕ) → error ≡ schema_errors.Field line → IsBadLine Fits fields_of bytes line)
    → (line : ℕ) → IsBadLine Fits fields_of bytes line → IsRefusal {A = A} line (Err error)
bad_refusal Fits fields_of bytes (schema_errors.Field other) bad line w = one_line Fits fields_of bytes other line (bad other refl) w
bad_refusal Fits fields_of bytes schema_errors.Memory bad line w = tt
