-- A report as it is written: each word and sign with its line.
use Rattle.std.specs.Prelude.{ℕ, List, [], ◌∷◌, ◌++◌, Bool, true, false}
use Rattle.ae_rlang.specs.declared.token.Mark.{Mark}
use Rattle.ae_rlang.specs.declared.token.Mark.TheVariants as mark_is
use Rattle.ae_rlang.specs.declared.operator.Operator.{Operator}
use Rattle.ae_rlang.specs.Operator.{mark_of}
use Rattle.ae_rlang.specs.Token.{Token, name, mark, Lexeme}
use Rattle.ae_rlang.specs.Token as token

-- an expression; first the lines of its words and signs
pub data Expression : Type 0 where
  number : ℕ → ℕ → Expression
  string : ℕ → List ℕ → Expression
  flag : ℕ → Bool → Expression
  -- NAME
  named : ℕ → List ℕ → Expression
  -- NAME . FIELD
  field : ℕ → List ℕ → ℕ → ℕ → List ℕ → Expression
  -- time ( E )
  timed : ℕ → ℕ → Expression → ℕ → Expression
  -- ( E )
  grouped : ℕ → Expression → ℕ → Expression
  -- not E
  negated : ℕ → Expression → Expression
  -- E operator E
  operated : Operator → ℕ → Expression → Expression → Expression

-- E : W, or E : W right
pub data Cell : Type 0 where
  cell : Expression → ℕ → ℕ → ℕ → Cell
  right_cell : Expression → ℕ → ℕ → ℕ → ℕ → Cell

-- cells with `,` between them
pub data Cells : Type 0 where
  one : Cell → Cells
  further : Cells → ℕ → Cell → Cells

-- nothing, or `where` E
pub data Test : Type 0 where
  no_test : Test
  where_test : ℕ → Expression → Test

mutual
  pub data Statement : Type 0 where
    -- title STRING ;
    title : ℕ → ℕ → List ℕ → ℕ → Statement
    -- columns CELLS ;
    columns : ℕ → Cells → ℕ → Statement
    -- total NAME = E ;
    total : ℕ → ℕ → List ℕ → ℕ → Expression → ℕ → Statement
    -- for NAME in TABLE TEST { BODY }
    each : ℕ → ℕ → List ℕ → ℕ → ℕ → List ℕ → Test → ℕ → Statements → ℕ → Statement
    -- if E { BODY }
    choice : ℕ → Expression → ℕ → Statements → ℕ → Statement
    -- if E { BODY } else { BODY }
    choice_else : ℕ → Expression → ℕ → Statements → ℕ → ℕ → ℕ → Statements → ℕ → Statement

  -- none, or statements and one more after them
  pub data Statements : Type 0 where
    none : Statements
    more : Statements → Statement → Statements

-- the word or sign in this line
abbrev pub at : ℕ → Mark → Lexeme
at line m = record { line = line; token = mark m }

-- the token in this line
abbrev pub put : ℕ → Token → Lexeme
put line t = record { line = line; token = t }

-- the word of a flag
abbrev pub flag_mark : Bool → Mark
flag_mark true = mark_is.True
flag_mark false = mark_is.False

-- the tokens of an expression
abbrev pub spelled : Expression → List Lexeme
spelled (number l n) = put l (token.number n) ∷ []
spelled (string l s) = put l (token.string s) ∷ []
spelled (flag l b) = at l (flag_mark b) ∷ []
spelled (named l w) = put l (name w) ∷ []
spelled (field l w d m f) = put l (name w) ∷ at d mark_is.Dot ∷ put m (name f) ∷ []
spelled (timed l o e c) = at l mark_is.Time ∷ at o mark_is.OpenGroup ∷ (spelled e ++ at c mark_is.CloseGroup ∷ [])
spelled (grouped o e c) = at o mark_is.OpenGroup ∷ (spelled e ++ at c mark_is.CloseGroup ∷ [])
spelled (negated l e) = at l mark_is.Not ∷ spelled e
spelled (operated op l a b) = spelled a ++ at l (mark_of op) ∷ spelled b

-- the tokens of a cell
abbrev pub spelled_cell : Cell → List Lexeme
spelled_cell (cell e c m w) = spelled e ++ at c mark_is.Colon ∷ put m (token.number w) ∷ []
spelled_cell (right_cell e c m w r) = spelled e ++ at c mark_is.Colon ∷ put m (token.number w) ∷ at r mark_is.Right ∷ []

abbrev pub spelled_cells : Cells → List Lexeme
spelled_cells (one c) = spelled_cell c
spelled_cells (further cs k c) = spelled_cells cs ++ at k mark_is.Comma ∷ spelled_cell c

abbrev pub spelled_test : Test → List Lexeme
spelled_test no_test = []
spelled_test (where_test l e) = at l mark_is.Where ∷ spelled e

-- the tokens of statements
abbrev mutual
  pub spelled_statement : Statement → List Lexeme
  spelled_statement (title l m s c) = at l mark_is.Title ∷ put m (token.string s) ∷ at c mark_is.Semicolon ∷ []
  spelled_statement (columns l cs c) = at l mark_is.Columns ∷ (spelled_cells cs ++ at c mark_is.Semicolon ∷ [])
  spelled_statement (total l m w q e c) = at l mark_is.Total ∷ put m (name w) ∷ at q mark_is.Assign ∷ (spelled e ++ at c mark_is.Semicolon ∷ [])
  spelled_statement (each l m w i k t h o body c) =
      at l mark_is.For ∷ put m (name w) ∷ at i mark_is.In ∷ put k (name t)
      ∷ (spelled_test h ++ at o mark_is.OpenBlock ∷ (spelled_body body ++ at c mark_is.CloseBlock ∷ []))
  spelled_statement (choice l e o body c) = at l mark_is.If ∷ (spelled e ++ at o mark_is.OpenBlock ∷ (spelled_body body ++ at c mark_is.CloseBlock ∷ []))
  spelled_statement (choice_else l e o first c k p second q) =
      at l mark_is.If ∷ (spelled e ++ at o mark_is.OpenBlock ∷ (spelled_body first
      ++ at c mark_is.CloseBlock ∷ at k mark_is.Else ∷ at p mark_is.OpenBlock ∷ (spelled_body second ++ at q mark_is.CloseBlock ∷ [])))

  pub spelled_body : Statements → List Lexeme
  spelled_body none = []
  spelled_body (more ss s) = spelled_body ss ++ spelled_statement s
