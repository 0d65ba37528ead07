-- Which operands fit: each has the kind of value that its operator or word takes, and each name stands for a row that has the
-- field.
use Rattle.std.specs.Prelude.{◌≡◌, ℕ, List, [], ◌∷◌, Option, Some, None, if◌then◌else◌}
use Rattle.std.specs.Str.{bytes_eq}
use Rattle.ae_rlang.specs.declared.operator.Operator.{Operator}
use Rattle.ae_rlang.specs.declared.operator.Operator.TheVariants.{Or, And, Equal, Unequal, Less, AtMost, Plus, Minus}
use Rattle.ae_rlang.specs.declared.operator.Kind.{Kind}
use Rattle.ae_rlang.specs.declared.operator.Kind.TheVariants as kind_is
use Rattle.ae_rlang.specs.declared.table.Table.{Table}
use Rattle.ae_rlang.specs.declared.table.RowField.{RowField}
use Rattle.ae_rlang.specs.Table.{field_in, field_kind}
use Rattle.ae_rlang.specs.Operator.{result_kind}
use Rattle.ae_rlang.specs.Report.{Meant, operated, negated, number, text, flag, total, field, timed, MeantCell, Deed, Deeds, title, columns, add, each, choose, no_deeds, deed}

-- the kind of an expression's value
abbrev pub kind_of : Meant → Kind
kind_of (operated line op left right) = result_kind op
kind_of (negated line e) = kind_is.Flag
kind_of (number line n) = kind_is.Number
kind_of (text line s) = kind_is.Text
kind_of (flag line b) = kind_is.Flag
kind_of (total line name) = kind_is.Number
kind_of (field line name f) = field_kind f
kind_of (timed line e) = kind_is.Text

-- the operator takes sides of these kinds
abbrev pub Takes : Operator → Kind → Kind → Type 0
Takes Or left right = (left ≡ kind_is.Flag) × (right ≡ kind_is.Flag)
Takes And left right = (left ≡ kind_is.Flag) × (right ≡ kind_is.Flag)
Takes Equal left right = left ≡ right
Takes Unequal left right = left ≡ right
Takes Less left right = (left ≡ kind_is.Number) × (right ≡ kind_is.Number)
Takes AtMost left right = (left ≡ kind_is.Number) × (right ≡ kind_is.Number)
Takes Plus left right = (left ≡ kind_is.Number) × (right ≡ kind_is.Number)
Takes Minus left right = (left ≡ kind_is.Number) × (right ≡ kind_is.Number)

-- ---- names

-- no name stands for a row
abbrev pub no_names : List ℕ → Option Table
no_names name = None

-- a name more stands for a row of this table
abbrev pub with_name : List ℕ → Table → (List ℕ → Option Table) → List ℕ → Option Table
with_name new table names name = if bytes_eq new name then Some table else names name

-- what the name stands for has this field, by some word
abbrev pub HasField : Option Table → RowField → Type 0
HasField None f = ⊥
HasField (Some table) f = (word : List ℕ) × (field_in table word ≡ Some f)

-- ---- expressions

-- Each operand in the expression has its kind, and each field is one of the row that its name stands for.
abbrev pub Fits : (List ℕ → Option Table) → Meant → Type 0
Fits names (operated line op left right) = Takes op (kind_of left) (kind_of right) × Fits names left × Fits names right
Fits names (negated line e) = (kind_of e ≡ kind_is.Flag) × Fits names e
Fits names (number line n) = Unit {0}
Fits names (text line s) = Unit {0}
Fits names (flag line b) = Unit {0}
Fits names (total line name) = Unit {0}
Fits names (field line name f) = HasField (names name) f
Fits names (timed line e) = (kind_of e ≡ kind_is.Number) × Fits names e

-- the expression fits, and its value is of this kind
abbrev pub FitsAs : (List ℕ → Option Table) → Kind → Meant → Type 0
FitsAs names kind e = (kind_of e ≡ kind) × Fits names e

abbrev pub CellsFit : (List ℕ → Option Table) → List MeantCell → Type 0
CellsFit names [] = Unit {0}
CellsFit names (cell ∷ cells) = Fits names cell.value × CellsFit names cells

abbrev pub TestFits : (List ℕ → Option Table) → Option Meant → Type 0
TestFits names None = Unit {0}
TestFits names (Some test) = FitsAs names kind_is.Flag test

-- ---- statements

abbrev mutual
  -- so does each expression of a statement; the name of a `for` stands for nothing before
  pub DeedFits : (List ℕ → Option Table) → Deed → Type 0
  DeedFits names (title s) = Unit {0}
  DeedFits names (columns cells) = CellsFit names cells
  DeedFits names (add line name e) = FitsAs names kind_is.Number e
  DeedFits names (each name table test body) =
      (names name ≡ None) × TestFits (with_name name table names) test × DeedsFit (with_name name table names) body
  DeedFits names (choose test first second) = FitsAs names kind_is.Flag test × DeedsFit names first × DeedsFit names second

  pub DeedsFit : (List ℕ → Option Table) → Deeds → Type 0
  DeedsFit names no_deeds = Unit {0}
  DeedsFit names (deed d ds) = DeedFits names d × DeedsFit names ds
