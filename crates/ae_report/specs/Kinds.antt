-- The kinds of values, and names that stand for rows of their tables.
use Rattle.std.specs.Prelude.{◌≡◌, ℕ, List, Option, Some, None, Result, Ok, find}
use Rattle.std.specs.Str.{bytes_eq}
use Rattle.ae_rlang.specs.declared.operator.Kind.{Kind}
use Rattle.ae_rlang.specs.declared.operator.Kind.TheVariants as kind_is
use Rattle.ae_rlang.specs.declared.table.Table.{Table}
use Rattle.ae_rlang.specs.declared.table.RowField.{RowField}
use Rattle.ae_rlang.specs.Table.{field_in, field_kind}
use Rattle.ae_report.specs.declared.value.Value.{Value}
use Rattle.ae_report.specs.declared.value.Value.TheVariants.{Number, Text, Flag}
use Rattle.ae_report.specs.Rows.{Row, row_field}
use Rattle.ae_report.specs.Values.{Binding}

abbrev pub value_kind : Value → Kind
value_kind (Number n) = kind_is.Number
value_kind (Text s) = kind_is.Text
value_kind (Flag b) = kind_is.Flag

-- it is a value of this kind, if it is one
abbrev pub HasKind : Result Value ℕ → Kind → Type 0
HasKind found kind = (v : Value) → found ≡ Ok v → value_kind v ≡ kind

-- the row has each field of the table, each of its kind
abbrev pub IsRowOf : Table → Row → Type 0
IsRowOf table row = (word : List ℕ) (f : RowField) → field_in table word ≡ Some f → value_kind (row_field row f) ≡ field_kind f

-- what is bound to a name is a row of the table that it stands for
abbrev pub StandsFor : Option Table → Option Binding → Type 0
StandsFor None None = Unit {0}
StandsFor None (Some b) = ⊥
StandsFor (Some table) None = ⊥
StandsFor (Some table) (Some b) = IsRowOf table b.row

-- the names that are bound are these, each to a row of its table
abbrev pub AreRows : (List ℕ → Option Table) → List Binding → Type 0
AreRows names bound = (name : List ℕ) → StandsFor (names name) (find (λ b. bytes_eq b.name name) bound)
