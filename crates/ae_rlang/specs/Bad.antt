-- Which tokens of a report are bad, and the line of the first. Lines never fall along a text, so that the first bad token is
-- in the least line that has one.
use Rattle.std.specs.Prelude.{ℕ, suc, List, length, Bool, ◌||◌, not, nat_le, Option, Some, None, is_some}
use Rattle.ae_rlang.specs.declared.operator.Kind.TheVariants as kind_is
use Rattle.ae_rlang.specs.declared.table.Table.{Table}
use Rattle.ae_rlang.specs.Table.{table_named, field_in}
use Rattle.ae_rlang.specs.Operator.{earlier, bad_where, is_other, is_wrong}
use Rattle.ae_rlang.specs.Written.{Expression, number, string, flag, named, field, timed, grouped, negated, operated, Cell, cell, right_cell, Cells, one, further, Test, no_test, where_test, Statement, title, columns, total, each, choice, choice_else, Statements, none, more}
use Rattle.ae_rlang.specs.Scope.{Scope, is_among, table_bound, kind_in}
use Rattle.ae_rlang.specs.Meaning.{bound_within}

-- blocks and parentheses may stand in each other so deep
abbrev pub max_level : ℕ
max_level = 16

-- and so many `for`
abbrev pub max_fors : ℕ
max_fors = 2

-- the sign that opens one level too many
abbrev pub bad_level : ℕ → ℕ → Option ℕ
bad_level level line = bad_where (nat_le max_level level) line

-- a name that isn't bound, or a field that its table lacks; where the table isn't known, the field isn't bad
abbrev pub bad_field : Option (Option Table) → ℕ → ℕ → List ℕ → Option ℕ
bad_field None l m f = Some l
bad_field (Some None) l m f = None
bad_field (Some (Some table)) l m f = bad_where (not (is_some (field_in table f))) m

-- the first bad line of an expression inside so many levels
abbrev pub first_bad : Scope → ℕ → Expression → Option ℕ
first_bad scope level (number l n) = None
first_bad scope level (string l s) = None
first_bad scope level (flag l b) = None
first_bad scope level (named l w) = bad_where (not (is_among w scope.totals)) l
first_bad scope level (field l w d m f) = bad_field (table_bound w scope.bound) l m f
first_bad scope level (timed l o e c) =
    earlier (earlier (bad_level level o) (first_bad scope (suc level) e)) (bad_where (is_other (kind_in scope e) kind_is.Number) l)
first_bad scope level (grouped o e c) = earlier (bad_level level o) (first_bad scope (suc level) e)
first_bad scope level (negated l e) = earlier (first_bad scope level e) (bad_where (is_other (kind_in scope e) kind_is.Flag) l)
first_bad scope level (operated op l a b) =
    earlier (earlier (first_bad scope level a) (first_bad scope level b)) (bad_where (is_wrong op (kind_in scope a) (kind_in scope b)) l)

abbrev pub bad_cell : Scope → ℕ → Cell → Option ℕ
bad_cell scope level (cell e c m w) = first_bad scope level e
bad_cell scope level (right_cell e c m w r) = first_bad scope level e

abbrev pub bad_cells : Scope → ℕ → Cells → Option ℕ
bad_cells scope level (one c) = bad_cell scope level c
bad_cells scope level (further cs k c) = earlier (bad_cells scope level cs) (bad_cell scope level c)

-- an expression behind a word that takes this kind
abbrev pub bad_operand : Scope → ℕ → Expression → Bool → ℕ → Option ℕ
bad_operand scope level e wrong l = earlier (first_bad scope level e) (bad_where wrong l)

-- the word `for`, its name, or its table
abbrev pub bad_header : Scope → ℕ → ℕ → List ℕ → ℕ → List ℕ → Option ℕ
bad_header scope l m w k t =
    earlier (earlier (bad_where (nat_le max_fors (length scope.bound)) l) (bad_where (is_among w scope.totals || is_some (table_bound w scope.bound)) m))
    (bad_where (not (is_some (table_named t))) k)

-- the name of this `for` is bound
abbrev pub scope_within : List ℕ → List ℕ → Scope → Scope
scope_within w t scope = record { totals = scope.totals; bound = bound_within w t scope.bound }

abbrev pub bad_test : Scope → ℕ → Test → Option ℕ
bad_test scope level no_test = None
bad_test scope level (where_test l e) = bad_operand scope level e (is_other (kind_in scope e) kind_is.Flag) l

abbrev mutual
  pub bad_statement : Scope → ℕ → Statement → Option ℕ
  bad_statement scope level (title l m s c) = None
  bad_statement scope level (columns l cs c) = bad_cells scope level cs
  bad_statement scope level (total l m w q e c) = bad_operand scope level e (is_other (kind_in scope e) kind_is.Number) l
  bad_statement scope level (each l m w i k t h o body c) =
      earlier (earlier (earlier (bad_header scope l m w k t) (bad_test (scope_within w t scope) level h)) (bad_level level o))
      (bad_body (scope_within w t scope) (suc level) body)
  bad_statement scope level (choice l e o body c) =
      earlier (earlier (bad_operand scope level e (is_other (kind_in scope e) kind_is.Flag) l) (bad_level level o)) (bad_body scope (suc level) body)
  bad_statement scope level (choice_else l e o first c k p second q) =
      earlier (earlier (earlier (earlier (bad_operand scope level e (is_other (kind_in scope e) kind_is.Flag) l) (bad_level level o)) (bad_body scope (suc level) first))
      (bad_level level p)) (bad_body scope (suc level) second)

  pub bad_body : Scope → ℕ → Statements → Option ℕ
  bad_body scope level none = None
  bad_body scope level (more ss s) = earlier (bad_body scope level ss) (bad_statement scope level s)
