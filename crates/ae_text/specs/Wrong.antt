-- The first token of a text that can't stand where it stands, and its line.
use Rattle.std.specs.Prelude.{◌≡◌, ℕ, ◌+◌, ◌-◌, ◌⊎◌, List, [], ◌∷◌, ◌++◌, Bool, false, ◌==◌, ◌||◌, if◌then◌else◌, IsTrue}
use Rattle.ae_text.specs.Tree.{Members}
use Rattle.ae_text.specs.Token.{Token, word, number, string, sign, end, bad, Placed, Begins}
use Rattle.ae_text.specs.Grammar.{IsSentence, line_of}
use Rattle.ae_text.specs.WellFormed.{MembersHaveDistinctNames, MembersFitDepth, max_depth}

-- Some text whose lists and structures nest at most `depth` deep begins with these tokens.
abbrev pub GoesOn : ℕ → List Placed → Type 0
GoesOn depth front = (more : List Placed) × (ms : Members) × (places : List ℕ) × IsSentence (front ++ more) ms places × MembersHaveDistinctNames ms × MembersFitDepth depth ms

-- The bytes begin with `front` and then p, which stands in this line: after `front` another token can stand, and p can't.
pub record IsWrongAt (bytes : List ℕ) (line : ℕ) (front : List Placed) (p : Placed) : Type 0 where
  pub tokens_are : Begins 0 bytes (front ++ p ∷ [])
  pub can_go_on : (other : Placed) × GoesOn max_depth (front ++ other ∷ [])
  pub cannot_stand : GoesOn max_depth (front ++ p ∷ []) → ⊥
  pub line_is : line ≡ line_of bytes p.at

-- The first wrong token is in this line, and would be wrong at any depth.
abbrev pub IsSyntax : List ℕ → ℕ → Type 0
IsSyntax bytes line = (front : List Placed) × (p : Placed) × IsWrongAt bytes line front p × ((depth : ℕ) → GoesOn depth (front ++ p ∷ []) → ⊥)

-- The first wrong token is in this line, and would be right if more levels were allowed.
abbrev pub IsTooDeep : List ℕ → ℕ → Type 0
IsTooDeep bytes line = (front : List Placed) × (p : Placed) × IsWrongAt bytes line front p × (depth : ℕ) × GoesOn depth (front ++ p ∷ [])

-- The bytes aren't a text, and the first wrong token is in this line.
abbrev pub IsError : List ℕ → ℕ → Type 0
IsError bytes line = IsSyntax bytes line ⊎ IsTooDeep bytes line

-- `[` or `{`
abbrev pub opens : Token → Bool
opens (word w) = false
opens (number n) = false
opens (string s) = false
opens (sign b) = (b == 91) || (b == 123)
opens end = false
opens bad = false

-- `]` or `}`
abbrev pub closes : Token → Bool
closes (word w) = false
closes (number n) = false
closes (string s) = false
closes (sign b) = (b == 93) || (b == 125)
closes end = false
closes bad = false

-- how many lists and structures are open after a token, where n are before it
abbrev pub level_behind_one : ℕ → Token → ℕ
level_behind_one n t = if opens t then n + 1 else if closes t then n - 1 else n

-- how many are open after these tokens
abbrev pub level_behind : ℕ → List Placed → ℕ
level_behind n [] = n
level_behind n (p ∷ ps) = level_behind (level_behind_one n p.token) ps

-- The first wrong token is in this line, and opens a list or structure where `max_depth` are open.
abbrev pub OpensOneTooMany : List ℕ → ℕ → Type 0
OpensOneTooMany bytes line = (front : List Placed) × (p : Placed) × IsWrongAt bytes line front p × IsTrue (opens p.token) × (level_behind 0 front ≡ max_depth)
