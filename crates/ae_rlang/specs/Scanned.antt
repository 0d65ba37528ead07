-- How far the scanner and the reader of totals have come.
use Rattle.std.specs.Prelude.{◌≡◌, ℕ, ◌≤◌, List, [], ◌∷◌, ◌++◌, length, take, Bool, true, false, Some}
use Rattle.ae_text.specs.Grammar.{line_ends}
use Rattle.ae_rlang.specs.Token.{Lexeme}
use Rattle.ae_rlang.specs.Scan.{Leads, AllGo, is_last}
use Rattle.ae_rlang.specs.Machine.{State, start, run}
use Rattle.ae_rlang.specs.declared.token.Lexeme.{Lexeme as Found}
use Rattle.ae_rlang.specs.Steps.{lexemes_seen}

-- none of these is the last token, or the last of them alone
abbrev pub GoesWhile : Bool → List Lexeme → Type 0
GoesWhile true ps = AllGo ps
GoesWhile false ps = (front : List Lexeme) × (last : Lexeme) × (ps ≡ front ++ last ∷ []) × AllGo front × (is_last last.token ≡ true)

-- these tokens of the bytes were found, `rest` is behind them, and so many lines end before `from`
pub record IsScanning (bytes : List ℕ) (ps : List Lexeme) (rest : List ℕ) (from : ℕ) (ends : ℕ) (more : Bool) : Type 0 where
  pub leads : Leads bytes bytes ps rest
  pub counted : ends ≡ line_ends (take from bytes)
  pub within : length rest ≤ length bytes
  pub goes : GoesWhile more ps

-- of all these tokens `rest` is left, and those before it led to this state
pub record IsTaking (totals : List (List ℕ)) (all rest : List Found) (s : State) : Type 0 where
  pub front : List Lexeme
  pub whole : lexemes_seen all ≡ front ++ lexemes_seen rest
  pub runs : run totals (Some start) front ≡ Some s
