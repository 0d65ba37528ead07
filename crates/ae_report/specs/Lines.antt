-- What a line shows.
use Rattle.std.specs.Prelude.{ℕ, Bool, true, false, List, [], ◌∷◌, ◌++◌, Result, Ok}
use Rattle.std.specs.Fmt.{signed_decimal}
use Rattle.ae_types.specs.Settings.{flag_word}
use Rattle.ae_list.specs.Columns.{left, right, shown}
use Rattle.ae_rlang.specs.Report.{MeantCell}
use Rattle.ae_report.specs.declared.value.Value.{Value}
use Rattle.ae_report.specs.declared.value.Value.TheVariants.{Number, Text, Flag}
use Rattle.ae_report.specs.Results.{and_then, and_map}
use Rattle.ae_report.specs.Values.{Known, value}

-- a value as it is shown
abbrev pub shown_value : Value → List ℕ
shown_value (Number n) = signed_decimal n
shown_value (Text s) = shown s
shown_value (Flag b) = flag_word b

-- in so many places, right or left; what is longer is whole
abbrev pub in_places : Bool → ℕ → List ℕ → List ℕ
in_places true places text = right places text
in_places false places text = left places text

abbrev pub cell_text : MeantCell → Value → List ℕ
cell_text cell v = in_places cell.right cell.width (shown_value v)

-- the cells of a line from one on, with this before each: nothing before the first, then a blank
abbrev pub cells_from : List ℕ → List MeantCell → Known → Result (List ℕ) ℕ
cells_from before [] known = Ok []
cells_from before (cell ∷ more) known =
    and_then (value cell.value known) (λ v. and_map (λ rest. before ++ cell_text cell v ++ rest) (cells_from (32 ∷ []) more known))

-- the cells of a line, joined by one blank
abbrev pub line_of : List MeantCell → Known → Result (List ℕ) ℕ
line_of cells known = cells_from [] cells known
