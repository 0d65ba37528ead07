-- What a report prints.
use Rattle.std.specs.Prelude.{ℕ, ℤ, ◌+ℤ◌, Bool, true, List, [], ◌∷◌, ◌++◌, Option, Some, None, Result, Ok, if◌then◌else◌}
use Rattle.std.specs.Str.{bytes_eq}
use Rattle.ae_list.specs.Columns.{shown}
use Rattle.ae_rlang.specs.Report.{Meant, Deed, Deeds, title, columns, add, each, choose, no_deeds, deed}
use Rattle.ae_types.specs.Observation.{Observation}
use Rattle.ae_report.specs.declared.total.Tally.{Tally}
use Rattle.ae_report.specs.Results.{and_then, and_map}
use Rattle.ae_report.specs.Rows.{Row, rows}
use Rattle.ae_report.specs.Values.{Known, Binding, total_of, in_range, number_of, is_true, value}
use Rattle.ae_report.specs.Lines.{line_of}

-- the lines that were printed, each with its end, and the totals
pub record Run : Type 0 where
  pub lines : List ℕ
  pub totals : List Tally

abbrev pub known_in : List Binding → Run → Known
known_in bound run = record { bound = bound; totals = run.totals }

-- with one line more
abbrev pub with_line : List ℕ → Run → Run
with_line line run = record run { lines = run.lines ++ line ++ 10 ∷ [] }

-- with this number as a total
abbrev pub set_total : List ℕ → ℤ → List Tally → List Tally
set_total name n [] = record { name = name; value = n } ∷ []
set_total name n (tally ∷ more) = if bytes_eq tally.name name then record { name = tally.name; value = n } ∷ more else tally ∷ set_total name n more

-- the totals, with the number added to one
abbrev pub totals_after : ℕ → List ℕ → Meant → Known → Result (List Tally) ℕ
totals_after line name e known =
    and_then (value e known) (λ v. and_map (λ n. set_total name n known.totals) (in_range line (total_of known.totals name +ℤ number_of v)))

abbrev pub with_totals : Run → List Tally → Run
with_totals run totals = record run { totals = totals }

-- the names that are bound, with one more
abbrev pub bind : List Binding → List ℕ → Row → List Binding
bind bound name row = bound ++ record { name = name; row = row } ∷ []

-- the value of a test; without one it is true
abbrev pub passes : Option Meant → Known → Result Bool ℕ
passes None known = Ok true
passes (Some test) known = and_map is_true (value test known)

-- one row after another
abbrev pub over_rows : (Row → Run → Result Run ℕ) → List Row → Run → Result Run ℕ
over_rows body [] run = Ok run
over_rows body (row ∷ more) run = and_then (body row run) (over_rows body more)

-- what this makes of a run, where the row passes
abbrev pub if_passes : Result Bool ℕ → (Run → Result Run ℕ) → Run → Result Run ℕ
if_passes passed body run = and_then passed (λ b. if b then body run else Ok run)

-- what a row of a `for` makes of a run: the body, where the row passes the test
abbrev pub after_row : List ℕ → Option Meant → (List Binding → Run → Result Run ℕ) → List Binding → Row → Run → Result Run ℕ
after_row name test body bound row run = if_passes (passes test (known_in (bind bound name row) run)) (body (bind bound name row)) run

abbrev mutual
  -- what a statement makes of a run
  pub after_deed : Deed → Observation → List Binding → Run → Result Run ℕ
  after_deed (title text) o bound run = Ok (with_line (shown text) run)
  after_deed (columns cells) o bound run = and_map (λ line. with_line line run) (line_of cells (known_in bound run))
  after_deed (add line name e) o bound run = and_map (with_totals run) (totals_after line name e (known_in bound run))
  after_deed (each name table test body) o bound run = over_rows (after_row name test (after_deeds body o) bound) (rows o table) run
  after_deed (choose test first second) o bound run =
      and_then (value test (known_in bound run)) (λ v. if is_true v then after_deeds first o bound run else after_deeds second o bound run)

  -- what statements make of it, one after the other
  pub after_deeds : Deeds → Observation → List Binding → Run → Result Run ℕ
  after_deeds no_deeds o bound run = Ok run
  after_deeds (deed d ds) o bound run = and_then (after_deed d o bound run) (after_deeds ds o bound)

-- before the first statement
abbrev pub start : Run
start = record { lines = []; totals = [] }

abbrev pub lines_of : Run → List ℕ
lines_of run = run.lines

-- the lines of a report, or the line of the number that leaves its range
abbrev pub out : Deeds → Observation → Result (List ℕ) ℕ
out report o = and_map lines_of (after_deeds report o [] start)
