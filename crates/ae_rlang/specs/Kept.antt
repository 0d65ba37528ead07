-- What the reader keeps of what is written: what it says, without what stands more levels deep than may be. A text that has such
-- a thing is refused, and what is kept of it is no deeper than a report.
use Rattle.std.specs.Prelude.{ℕ, suc, List, [], ◌∷◌, ◌++◌, pos, Bool, true, false, nat_le, Option, Some, None}
use Rattle.ae_rlang.specs.declared.operand.Bound.{Bound}
use Rattle.ae_rlang.specs.Table.{table_named}
use Rattle.ae_rlang.specs.Report.{Meant, MeantCell, Deed, no_deeds, deeds_of}
use Rattle.ae_rlang.specs.Report as report
use Rattle.ae_rlang.specs.Written.{Expression, number, string, flag, named, field, timed, grouped, negated, operated, Cell, cell, right_cell, Cells, one, further, Test, no_test, where_test, Statement, title, columns, total, each, choice, choice_else, Statements, none, more}
use Rattle.ae_rlang.specs.Scope.{table_bound}
use Rattle.ae_rlang.specs.Meaning.{table_or_any, field_or_any, field_within, bound_within}
use Rattle.ae_rlang.specs.Bad.{max_level}

-- what stands in parentheses that open in this line: where they are one level too deep, a flag in its place
abbrev pub kept_where : Bool → ℕ → Meant → Meant
kept_where true o e = report.flag o false
kept_where false o e = e

-- the statements of a block: none where it is one level too deep
abbrev pub deeds_where : Bool → List Deed → List Deed
deeds_where true ds = []
deeds_where false ds = ds

-- an expression inside so many levels
abbrev pub kept : List Bound → ℕ → Expression → Meant
kept bound level (number l n) = report.number l (pos n)
kept bound level (string l s) = report.text l s
kept bound level (flag l b) = report.flag l b
kept bound level (named l w) = report.total l w
kept bound level (field l w d m f) = report.field l w (field_or_any (field_within (table_bound w bound) f))
kept bound level (timed l o e c) = report.timed l (kept_where (nat_le max_level level) o (kept bound (suc level) e))
kept bound level (grouped o e c) = kept_where (nat_le max_level level) o (kept bound (suc level) e)
kept bound level (negated l e) = report.negated l (kept bound level e)
kept bound level (operated op l a b) = report.operated l op (kept bound level a) (kept bound level b)

abbrev pub kept_cell : List Bound → ℕ → Cell → MeantCell
kept_cell bound level (cell e c m w) = record { value = kept bound level e; width = w; right = false }
kept_cell bound level (right_cell e c m w r) = record { value = kept bound level e; width = w; right = true }

abbrev pub kept_cells : List Bound → ℕ → Cells → List MeantCell
kept_cells bound level (one c) = kept_cell bound level c ∷ []
kept_cells bound level (further cs k c) = kept_cells bound level cs ++ kept_cell bound level c ∷ []

abbrev pub kept_test : List Bound → ℕ → Test → Option Meant
kept_test bound level no_test = None
kept_test bound level (where_test l e) = Some (kept bound level e)

abbrev mutual
  pub kept_statement : List Bound → ℕ → Statement → Deed
  kept_statement bound level (title l m s c) = report.title s
  kept_statement bound level (columns l cs c) = report.columns (kept_cells bound level cs)
  kept_statement bound level (total l m w q e c) = report.add l w (kept bound level e)
  kept_statement bound level (each l m w i k t h o body c) =
      report.each w (table_or_any (table_named t)) (kept_test (bound_within w t bound) level h)
      (deeds_of (deeds_where (nat_le max_level level) (kept_body (bound_within w t bound) (suc level) body)))
  kept_statement bound level (choice l e o body c) =
      report.choose (kept bound level e) (deeds_of (deeds_where (nat_le max_level level) (kept_body bound (suc level) body))) no_deeds
  kept_statement bound level (choice_else l e o first c k p second q) =
      report.choose (kept bound level e) (deeds_of (deeds_where (nat_le max_level level) (kept_body bound (suc level) first)))
      (deeds_of (deeds_where (nat_le max_level level) (kept_body bound (suc level) second)))

  -- statements inside so many levels
  pub kept_body : List Bound → ℕ → Statements → List Deed
  kept_body bound level none = []
  kept_body bound level (more ss s) = kept_body bound level ss ++ kept_statement bound level s ∷ []
