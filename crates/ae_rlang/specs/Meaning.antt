-- What a report says, as it is written: without its signs and parentheses. A name that isn't known has a meaning too, which
-- no report has that is read.
use Rattle.std.specs.Prelude.{ℕ, List, [], ◌∷◌, ◌++◌, pos, true, false, Option, Some, None}
use Rattle.ae_rlang.specs.declared.table.Table.{Table}
use Rattle.ae_rlang.specs.declared.table.Table.TheVariants as table_is
use Rattle.ae_rlang.specs.declared.table.RowField.{RowField}
use Rattle.ae_rlang.specs.declared.table.RowField.TheVariants as field_is
use Rattle.ae_rlang.specs.Table.{table_named, field_in}
use Rattle.ae_rlang.specs.Report.{Meant, MeantCell, Deed, Deeds, no_deeds, deeds_of}
use Rattle.ae_rlang.specs.Report as report
use Rattle.ae_rlang.specs.Written.{Expression, number, string, flag, named, field, timed, grouped, negated, operated, Cell, cell, right_cell, Cells, one, further, Test, no_test, where_test, Statement, title, columns, total, each, choice, choice_else, Statements, none, more}
use Rattle.ae_rlang.specs.declared.operand.Bound.{Bound}
use Rattle.ae_rlang.specs.Scope.{table_bound}

-- the table, or any where there is none
abbrev pub table_or_any : Option Table → Table
table_or_any (Some t) = t
table_or_any None = table_is.Changes

-- the field, or any where there is none
abbrev pub field_or_any : Option RowField → RowField
field_or_any (Some f) = f
field_or_any None = field_is.Number

-- the field of this name of what a name is bound to
abbrev pub field_within : Option (Option Table) → List ℕ → Option RowField
field_within None f = None
field_within (Some None) f = None
field_within (Some (Some table)) f = field_in table f

-- an expression has the line of its operator, or else of its first token; parentheses leave no trace
abbrev pub meant : List Bound → Expression → Meant
meant bound (number l n) = report.number l (pos n)
meant bound (string l s) = report.text l s
meant bound (flag l b) = report.flag l b
meant bound (named l w) = report.total l w
meant bound (field l w d m f) = report.field l w (field_or_any (field_within (table_bound w bound) f))
meant bound (timed l o e c) = report.timed l (meant bound e)
meant bound (grouped o e c) = meant bound e
meant bound (negated l e) = report.negated l (meant bound e)
meant bound (operated op l a b) = report.operated l op (meant bound a) (meant bound b)

abbrev pub meant_cell : List Bound → Cell → MeantCell
meant_cell bound (cell e c m w) = record { value = meant bound e; width = w; right = false }
meant_cell bound (right_cell e c m w r) = record { value = meant bound e; width = w; right = true }

abbrev pub meant_cells : List Bound → Cells → List MeantCell
meant_cells bound (one c) = meant_cell bound c ∷ []
meant_cells bound (further cs k c) = meant_cells bound cs ++ meant_cell bound c ∷ []

abbrev pub meant_test : List Bound → Test → Option Meant
meant_test bound no_test = None
meant_test bound (where_test l e) = Some (meant bound e)

-- the names that are bound within a `for`
abbrev pub bound_within : List ℕ → List ℕ → List Bound → List Bound
bound_within w t bound = record { name = w; table = table_named t } ∷ bound

abbrev mutual
  pub meant_statement : List Bound → Statement → Deed
  meant_statement bound (title l m s c) = report.title s
  meant_statement bound (columns l cs c) = report.columns (meant_cells bound cs)
  meant_statement bound (total l m w q e c) = report.add l w (meant bound e)
  meant_statement bound (each l m w i k t h o body c) =
      report.each w (table_or_any (table_named t)) (meant_test (bound_within w t bound) h) (deeds_of (meant_body (bound_within w t bound) body))
  meant_statement bound (choice l e o body c) = report.choose (meant bound e) (deeds_of (meant_body bound body)) no_deeds
  meant_statement bound (choice_else l e o first c k p second q) = report.choose (meant bound e) (deeds_of (meant_body bound first)) (deeds_of (meant_body bound second))

  pub meant_body : List Bound → Statements → List Deed
  meant_body bound none = []
  meant_body bound (more ss s) = meant_body bound ss ++ meant_statement bound s ∷ []
