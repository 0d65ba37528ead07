-- What `read_report` answers where memory may run out.
use Rattle.std.specs.Prelude.{◌≡◌, ℕ, List, ◌∷◌, ◌++◌, Some, None, Result, Ok, Err}
use Rattle.ae_rlang.specs.Token.{Lexeme}
use Rattle.ae_rlang.specs.Report.{Deeds}
use Rattle.ae_rlang.specs.View.{deeds}
use Rattle.ae_rlang.specs.Machine.{State, start, step, run}
use Rattle.ae_rlang.specs.declared.report.Report.{Report}
use Rattle.ae_rlang.specs.declared.read.ReadReportError.{ReadReportError}
use Rattle.ae_rlang.specs.declared.read.ReadReportError.TheVariants.{Bad, Memory}

-- it is read so, unless memory runs out
abbrev pub IsRead : Deeds → Result Report ReadReportError → Type 0
IsRead report (Ok r) = deeds r.statements ≡ report
IsRead report (Err (Bad line)) = ⊥
IsRead report (Err Memory) = Unit {0}

-- it is refused with this line, unless memory runs out
abbrev pub IsRefusedWith : ℕ → Result Report ReadReportError → Type 0
IsRefusedWith line (Ok r) = ⊥
IsRefusedWith line (Err (Bad other)) = line ≡ other
IsRefusedWith line (Err Memory) = Unit {0}

-- the first of these tokens that isn't taken stands in this line
abbrev pub StopsAt : List (List ℕ) → List Lexeme → ReadReportError → Type 0
StopsAt totals ps (Bad line) =
    (front : List Lexeme) × (p : Lexeme) × (more : List Lexeme) × (s : State) × (ps ≡ front ++ p ∷ more) × (run totals (Some start) front ≡ Some s) × (step totals s p ≡ None) × (line ≡ p.line)
StopsAt totals ps Memory = Unit {0}
