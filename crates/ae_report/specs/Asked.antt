-- Which expressions a run computes, where, and of which kind their values are to be.
use Rattle.std.specs.Prelude.{◌≡◌, ℕ, ◌⊎◌, List, [], ◌∷◌, Option, Some, None, Result}
use Rattle.std.specs.List.{Contains}
use Rattle.ae_rlang.specs.declared.operator.Kind.{Kind}
use Rattle.ae_rlang.specs.declared.operator.Kind.TheVariants as kind_is
use Rattle.ae_rlang.specs.Report.{Meant, operated, negated, number, text, flag, total, field, timed, MeantCell, Deed, Deeds, title, columns, add, each, choose, no_deeds, deed}
use Rattle.ae_rlang.specs.Fits.{kind_of, Takes}
use Rattle.ae_types.specs.Observation.{Observation}
use Rattle.ae_report.specs.declared.total.Tally.{Tally}
use Rattle.ae_report.specs.declared.value.Value.{Value}
use Rattle.ae_report.specs.Frames.{known_within}
use Rattle.ae_report.specs.Kinds.{HasKind}
use Rattle.ae_report.specs.Out.{bind}
use Rattle.ae_report.specs.Rows.{Row, rows}
use Rattle.ae_report.specs.Values.{Binding, Known, value}

-- ---- what is computed

-- an expression, the kind that is wanted of its value, if one is, and the names that are bound there
pub record Asked : Type 0 where
  pub expression : Meant
  pub kind : Option Kind
  pub bound : List Binding

abbrev pub asked : Meant → Option Kind → List Binding → Asked
asked e kind bound = record { expression = e; kind = kind; bound = bound }

-- a cell shows a value of any kind
abbrev pub AsksCell : List MeantCell → List Binding → Asked → Type 0
AsksCell [] bound a = ⊥
AsksCell (cell ∷ cells) bound a = (a ≡ asked cell.value None bound) ⊎ AsksCell cells bound a

abbrev pub AsksTest : Option Meant → List Binding → Asked → Type 0
AsksTest None bound a = ⊥
AsksTest (Some test) bound a = a ≡ asked test (Some kind_is.Flag) bound

abbrev mutual
  -- where these names are bound, the statement computes this for some rows
  pub Asks : Deed → Observation → List Binding → Asked → Type 0
  Asks (title s) o bound a = ⊥
  Asks (columns cells) o bound a = AsksCell cells bound a
  Asks (add line name e) o bound a = a ≡ asked e (Some kind_is.Number) bound
  Asks (each name table test body) o bound a =
      (row : Row) × Contains (rows o table) row × (AsksTest test (bind bound name row) a ⊎ AsksIn body o (bind bound name row) a)
  Asks (choose test first second) o bound a = AsksTest (Some test) bound a ⊎ (AsksIn first o bound a ⊎ AsksIn second o bound a)

  pub AsksIn : Deeds → Observation → List Binding → Asked → Type 0
  AsksIn no_deeds o bound a = ⊥
  AsksIn (deed d ds) o bound a = Asks d o bound a ⊎ AsksIn ds o bound a

-- ---- its operands

-- each operand in the expression has the kind that its operator or word takes
abbrev pub OperandsFit : Meant → Known → Type 0
OperandsFit (operated line op left right) known =
    Takes op (kind_of left) (kind_of right) × HasKind (value left known) (kind_of left) × HasKind (value right known) (kind_of right) × OperandsFit left known × OperandsFit right known
OperandsFit (negated line e) known = HasKind (value e known) kind_is.Flag × OperandsFit e known
OperandsFit (number line n) known = Unit {0}
OperandsFit (text line s) known = Unit {0}
OperandsFit (flag line b) known = Unit {0}
OperandsFit (total line name) known = Unit {0}
OperandsFit (field line name f) known = Unit {0}
OperandsFit (timed line e) known = HasKind (value e known) kind_is.Number × OperandsFit e known

abbrev pub IsWanted : Result Value ℕ → Option Kind → Type 0
IsWanted found None = Unit {0}
IsWanted found (Some kind) = HasKind found kind

-- with these totals its operands and its value have their kinds
abbrev pub IsAnswered : Asked → List Tally → Type 0
IsAnswered a totals =
    let known = known_within a.bound totals in
    OperandsFit a.expression known × IsWanted (value a.expression known) a.kind
