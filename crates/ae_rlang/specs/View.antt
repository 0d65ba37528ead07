-- The report that a value of the types in src/report.rt is.
use Rattle.std.specs.Prelude.{ℕ, List, [], ◌∷◌, map, option_map}
use Rattle.ae_rlang.specs.Report.{Meant, operated, negated, number, text, flag, total, field, timed, MeantCell, Deed, title, columns, add, each, choose, Deeds, deeds_of}
use Rattle.ae_rlang.specs.declared.operator.Operator.{Operator}
use Rattle.ae_rlang.specs.declared.report.Atom.{Atom}
use Rattle.ae_rlang.specs.declared.report.Atom.TheVariants as atom_is
use Rattle.ae_rlang.specs.declared.report.Expr.{Expr, fold-Expr}
use Rattle.ae_rlang.specs.declared.report.Link.{Link, fold-Link}
use Rattle.ae_rlang.specs.declared.report.Link.TheOpen.{Expr-F, Link-F}
use Rattle.ae_rlang.specs.declared.report.Cell.{Cell}
use Rattle.ae_rlang.specs.declared.report.Statement.{Statement, fold-Statement}
use Rattle.ae_rlang.specs.declared.report.StatementList.{StatementList, fold-StatementList}
use Rattle.ae_rlang.specs.declared.report.Statement.TheOpen.{Statement-F, StatementList-F}

-- what stands behind a value: an operator with its line and its right side, or the line of a word before the value
pub data MeantLink : Type 0 where
  by_side : ℕ → Operator → Meant → MeantLink
  by_not : ℕ → MeantLink
  by_time : ℕ → MeantLink

-- what is said with the link
abbrev pub linked : Meant → MeantLink → Meant
linked e (by_side line operator right) = operated line operator e right
linked e (by_not line) = negated line e
linked e (by_time line) = timed line e

-- what is said with these links, from the left
abbrev pub all_linked : Meant → List MeantLink → Meant
all_linked e [] = e
all_linked e (l ∷ ls) = all_linked (linked e l) ls

-- a value without operators, in this line
abbrev pub atom_seen : ℕ → Atom → Meant
atom_seen line (atom_is.Number n) = number line n
atom_seen line (atom_is.Str t) = text line t
atom_seen line (atom_is.Flag b) = flag line b
atom_seen line (atom_is.Total name) = total line name
atom_seen line (atom_is.Field name f) = field line name f

-- one level of an expression, with what stands inside already seen
abbrev pub link_step : Link-F MeantLink Meant → MeantLink
link_step (Link-F.Side line operator right) = by_side line operator right
link_step (Link-F.Not line) = by_not line
link_step (Link-F.Time line) = by_time line

abbrev pub expr_step : Expr-F MeantLink Meant → Meant
expr_step e = all_linked (atom_seen e.line e.first) e.links.items

-- what an expression says
abbrev pub meaning : Expr → Meant
meaning = fold-Expr MeantLink Meant link_step expr_step

-- what a link says
abbrev pub link_seen : Link → MeantLink
link_seen = fold-Link MeantLink Meant link_step expr_step

-- what the links in a vector say, one by one
abbrev pub links_seen : List Link → List MeantLink
links_seen ls = map link_seen ls

abbrev pub cell_seen : Cell → MeantCell
cell_seen c = record { value = meaning c.value; width = c.width; right = c.right }

abbrev pub cells_seen : List Cell → List MeantCell
cells_seen cs = map cell_seen cs

abbrev pub statement_step : Statement-F Deed Deeds → Deed
statement_step (Statement-F.Title t) = title t
statement_step (Statement-F.Columns cells) = columns (cells_seen cells.items.items)
statement_step (Statement-F.Total line name e) = add line name (meaning e)
statement_step (Statement-F.For name table test body) = each name table (option_map meaning test) body
statement_step (Statement-F.If test first second) = choose (meaning test) first second

abbrev pub statements_step : StatementList-F Deed Deeds → Deeds
statements_step s = deeds_of s.items.items

-- what a statement says
abbrev pub deed_of : Statement → Deed
deed_of = fold-Statement Deed Deeds statement_step statements_step

-- what a list of statements says
abbrev pub deeds : StatementList → Deeds
deeds = fold-StatementList Deed Deeds statement_step statements_step

-- what the statements in a vector say, one by one
abbrev pub deeds_seen : List Statement → List Deed
deeds_seen ss = map deed_of ss

-- what the statements in a vector say
abbrev pub statements_seen : List Statement → Deeds
statements_seen ss = deeds_of (map deed_of ss)
