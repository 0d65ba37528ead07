-- A text tells one format at most, and has one line at most where none is told.
use Rattle.std.proofs.Common.{◌≡◌, ◌≤◌, ℕ, inl, inr, List, [], ◌∷◌, length, map, drop, get_or, Option, Some, None, Err, unwrap_or, refl, sym, ap, ◌∙◌, subst, arith}
use Rattle.std.specs.Prelude.{IfSome, slice_get}
use Rattle.ae_text.specs.Grammar.{Reads}
use Rattle.ae_text.specs.Tree.{Node, number}
use Rattle.ae_text.proofs.Errors as errors
use Rattle.ae_types.specs.declared.project.Project.{Project}
use Rattle.ae_schema.specs.declared.format.Format.{Format}
use Rattle.ae_schema.specs.declared.format.Format.TheVariants.{One, Two}
use Rattle.ae_schema.specs.declared.error.SchemaError.{SchemaError}
use Rattle.ae_schema.specs.declared.error.SchemaError.TheVariants as schema_errors
use Rattle.ae_schema.specs.Records.{Named, structure, last_line, IsTextOf, IsAnswer, IsRefusal}
use Rattle.ae_schema.specs.Formats.{format_number, format_field, IsOfFormat, HasNoFormat}
use Rattle.ae_schema.specs.Files.{project_fields}
use Rattle.ae_schema.proofs.Texts.{one_record}

-- formats that have the same number are one
pub one_number : (format other : Format) → number (format_number format) ≡ number (format_number other) → format ≡ other
one_number One One e = refl
one_number One Two e = absurd (cc)
one_number Two One e = absurd (cc)
one_number Two Two e = refl

-- fields that begin alike tell the same format
same_first : (format other : Format) (more rest : List Named) → format_field format ∷ more ≡ format_field other ∷ rest → format ≡ other
same_first format other more rest e =
    let firsts : format_field format ≡ format_field other = cc in
    one_number format other (ap (λ (m : Named). m.1) firsts)

-- a text is of one format at most
pub one_format : (bytes : List ℕ) (format other : Format) → IsOfFormat format bytes → IsOfFormat other bytes → format ≡ other
one_format bytes format other (more, text) (rest, same) =
    same_first format other more rest (one_record bytes (format_field format ∷ more) (format_field other ∷ rest) text.0 same.0 text.1 same.1).0

-- no text is of both formats
pub no_both : (bytes : List ℕ) → IsOfFormat One bytes → IsOfFormat Two bytes → ⊥
no_both bytes one two = let same = one_format bytes One Two one two in cc

-- the record of a project is of its format
pub project_tells : (format : Format) (p : Project × List ℕ) (bytes : List ℕ) → IsTextOf bytes (project_fields format p) → IsOfFormat format bytes
project_tells format p bytes text = (drop 1 (project_fields format p), text)

-- what the first of some fields tells
pub first_told : {X : Type 0} (f : X → Named) (xs : List X) (x : X) → 1 ≤ length xs → x ≡ get_or xs 0 x → (told : Option Format)
    → IfSome told (λ format. format_field format ≡ f x) → IfSome told (λ format. (more : List Named) × (map f xs ≡ format_field format ∷ more))
first_told f [] x some is told h = absurd (omega arith)
first_told f (y ∷ ys) x some is None h = tt
first_told f (y ∷ ys) x some is (Some format) h = let first : format_field format ≡ f y = h ∙ ap f is in (map f ys, λ i. sym first i ∷ map f ys)

-- ---- the clauses of the reader of the format

-- a text whose fields begin so is of that format
pub told_format : (bytes lines : List ℕ) (n : Node) (ms : List Named) → Reads bytes n lines → n ≡ structure ms
    → (format : Format) → (more : List Named) × (ms ≡ format_field format ∷ more) → IsOfFormat format bytes
told_format bytes lines n ms reads is format first = (first.0, (lines, subst (λ (m : Node). Reads bytes m lines) (is ∙ ap structure first.1) reads))

-- a text whose fields begin otherwise tells none
pub told_none : (bytes lines : List ℕ) (n : Node) (ms : List Named) → Reads bytes n lines → n ≡ structure ms
    → ((format : Format) (more : List Named) → ms ≡ format_field format ∷ more → ⊥) → HasNoFormat bytes (unwrap_or (slice_get lines 0) (last_line bytes))
told_none bytes lines n ms reads is wrong =
    inr (record { ms = ms; lines = lines; reads = subst (λ (m : Node). Reads bytes m lines) is reads; wrong = wrong; line_is = refl })

-- a text that tells a format has no line where none is told
pub never_none : (bytes : List ℕ) (format : Format) → IsOfFormat format bytes → (line : ℕ) → HasNoFormat bytes line → ⊥
never_none bytes format (more, text) line (inl error) = errors.never_both bytes (structure (format_field format ∷ more)) text.0 line text.1 error
never_none bytes format (more, text) line (inr told) =
    told.wrong format more (one_record bytes told.ms (format_field format ∷ more) told.lines text.0 told.reads text.1).0

-- a text has one such line at most
pub one_line : (bytes : List ℕ) (line other : ℕ) → HasNoFormat bytes line → HasNoFormat bytes other → line ≡ other
one_line bytes line other (inl e) (inl f) = errors.one_line bytes line other e f
one_line bytes line other (inl e) (inr t) = absurd (errors.never_both bytes (structure t.ms) t.lines line t.reads e)
one_line bytes line other (inr t) (inl f) = absurd (errors.never_both bytes (structure t.ms) t.lines other t.reads f)
one_line bytes line other (inr t) (inr u) =
    let lines : t.lines ≡ u.lines = (one_record bytes t.ms u.ms t.lines u.lines t.reads u.reads).1 in
    let one = t.line_is in
    let two = u.line_is in
    cc

-- a refusal answers a text that tells a format out of memory alone
pub no_answer : (bytes : List ℕ) (error : SchemaError) → ((line : ℕ) → error ≡ schema_errors.Field line → HasNoFormat bytes line)
    → (format : Format) → IsOfFormat format bytes → IsAnswer (format_number format) (Err error)
no_answer bytes (schema_errors.Field line) bad format text = never_none bytes format text line (bad line refl)
no_answer bytes schema_errors.Memory bad format text = tt

-- a refusal tells the line
pub no_refusal : (bytes : List ℕ) (error : SchemaError) → ((line : ℕ) → error ≡ schema_errors.Field line → HasNoFormat bytes line)
    → (line : ℕ) → HasNoFormat bytes line → IsRefusal {A = ℕ} line (Err error)
no_refusal bytes (schema_errors.Field other) bad line told = one_line bytes other line (bad other refl) told
no_refusal bytes schema_errors.Memory bad line told = tt
