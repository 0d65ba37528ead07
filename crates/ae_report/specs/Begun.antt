-- What the beginning of one statement does.
use Rattle.std.specs.Prelude.{ℕ, Bool, List, Option, Some, None, Result, Ok}
use Rattle.ae_list.specs.Columns.{shown}
use Rattle.ae_rlang.specs.Report.{Deed, title, columns, add, each, choose}
use Rattle.ae_report.specs.Results.{and_map}
use Rattle.ae_report.specs.Values.{Binding, is_true, value}
use Rattle.ae_report.specs.Lines.{line_of}
use Rattle.ae_report.specs.Out.{Run, known_in, with_line, with_totals, totals_after}

-- the run, and the value of the test where the statement is an `if`
pub record Begun : Type 0 where
  pub run : Run
  pub test : Option Bool

abbrev pub with_run : Run → Begun
with_run run = record { run = run; test = None }

abbrev pub with_test : Run → Bool → Begun
with_test run b = record { run = run; test = Some b }

abbrev pub begun : Deed → List Binding → Run → Result Begun ℕ
begun (title text) bound run = Ok (with_run (with_line (shown text) run))
begun (columns cells) bound run = and_map (λ line. with_run (with_line line run)) (line_of cells (known_in bound run))
begun (add line name e) bound run = and_map (λ totals. with_run (with_totals run totals)) (totals_after line name e (known_in bound run))
begun (each name table test body) bound run = Ok (with_run run)
begun (choose test first second) bound run = and_map (λ v. with_test run (is_true v)) (value test (known_in bound run))

abbrev pub begun_run : Begun → Run
begun_run b = b.run
