-- Which bytes are which report, and the line of the first token that is wrong or bad.
use Rattle.std.specs.Prelude.{◌≡◌, ℕ, ◌⊎◌, List, [], ◌∷◌, ◌++◌, false, Some, None}
use Rattle.ae_rlang.specs.Token.{Lexeme, Begins}
use Rattle.ae_rlang.specs.Report.{Deeds, deeds_of}
use Rattle.ae_rlang.specs.Written.{Statements}
use Rattle.ae_rlang.specs.Grammar.{IsText}
use Rattle.ae_rlang.specs.Scope.{Scope, totals_in}
use Rattle.ae_rlang.specs.Meaning.{meant_body}
use Rattle.ae_rlang.specs.Bad.{bad_body}

-- nothing is bound, and the totals are those of all the tokens
abbrev pub whole_scope : List Lexeme → Scope
whole_scope ps = record { totals = totals_in false ps; bound = [] }

-- The bytes are these statements, as they are written.
pub record IsWritten (bytes : List ℕ) (ss : Statements) (ps : List Lexeme) : Type 0 where
  pub tokens_are : Begins bytes 0 bytes ps
  pub is_text : IsText ps ss

-- The bytes are this report, in which no token is bad.
abbrev pub IsReport : List ℕ → Deeds → Type 0
IsReport bytes report =
    (ss : Statements) × (ps : List Lexeme) × IsWritten bytes ss ps × (bad_body (whole_scope ps) 0 ss ≡ None) × (report ≡ deeds_of (meant_body [] ss))

-- Some text begins with these tokens.
abbrev pub GoesOn : List Lexeme → Type 0
GoesOn front = (more : List Lexeme) × (ss : Statements) × IsText (front ++ more) ss

-- The bytes begin with `front` and then p, which stands in this line: after `front` another token can stand, and p can't.
pub record IsWrongAt (bytes : List ℕ) (line : ℕ) (front : List Lexeme) (p : Lexeme) : Type 0 where
  pub tokens_are : Begins bytes 0 bytes (front ++ p ∷ [])
  pub can_go_on : (other : Lexeme) × GoesOn (front ++ other ∷ [])
  pub cannot_stand : GoesOn (front ++ p ∷ []) → ⊥
  pub line_is : line ≡ p.line

-- The bytes aren't in the grammar, and the first token that can't stand where it stands is in this line.
abbrev pub IsWrong : List ℕ → ℕ → Type 0
IsWrong bytes line = (front : List Lexeme) × (p : Lexeme) × IsWrongAt bytes line front p

-- The bytes are in the grammar, and the first bad token is in this line.
abbrev pub IsBad : List ℕ → ℕ → Type 0
IsBad bytes line = (ss : Statements) × (ps : List Lexeme) × IsWritten bytes ss ps × (bad_body (whole_scope ps) 0 ss ≡ Some line)

-- The line that a text which is no report is refused with.
abbrev pub IsRefused : List ℕ → ℕ → Type 0
IsRefused bytes line = IsWrong bytes line ⊎ IsBad bytes line

-- No cause of refusal stands in these statements: they are those of a text.
abbrev pub IsGood : Deeds → Type 0
IsGood report = (bytes : List ℕ) × IsReport bytes report
