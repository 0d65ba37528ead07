-- The tokens of a report, from left to right. No public clause cites this: it is proved to be those of Token.antt.
use Rattle.std.specs.Prelude.{◌≡◌, ℕ, ◌-◌, List, [], ◌∷◌, ◌++◌, length, drop, Bool, true, false, Option, Some, None}
use Rattle.ae_text.specs.Grammar.{line_of}
use Rattle.ae_text.specs.Scan.{gapless, token_at}
use Rattle.ae_rlang.specs.declared.token.Mark.{Mark}
use Rattle.ae_rlang.specs.Token.{Token, mark, end, bad, Lexeme, spelling, sign_at, from_text}

-- the sign, or else what stands there in a text
abbrev pub by_sign : List ℕ → Option Mark → Token × List ℕ
by_sign bytes (Some m) = (mark m, drop (length (spelling m)) bytes)
by_sign bytes None = (from_text (token_at bytes).0, (token_at bytes).1)

-- the token at the front, where no blank or comment stands, and the bytes after it
unfoldable pub report_token : List ℕ → Token × List ℕ
report_token bytes = by_sign bytes (sign_at bytes)

-- the next token of the rest of the bytes
abbrev pub next_lexeme : List ℕ → List ℕ → Lexeme
next_lexeme bytes rest = record { line = line_of bytes (length bytes - length (gapless rest)); token = (report_token (gapless rest)).0 }

-- the bytes after it
abbrev pub behind_lexeme : List ℕ → List ℕ
behind_lexeme rest = (report_token (gapless rest)).1

-- these are the next tokens, and these the bytes after them
abbrev pub Leads : List ℕ → List ℕ → List Lexeme → List ℕ → Type 0
Leads bytes rest [] after = rest ≡ after
Leads bytes rest (p ∷ ps) after = (p ≡ next_lexeme bytes rest) × Leads bytes (behind_lexeme rest) ps after

-- the end of the bytes, or what is no token
abbrev pub is_last : Token → Bool
is_last end = true
is_last bad = true
is_last other = false

-- none of these is the end of the bytes, or no token
abbrev pub AllGo : List Lexeme → Type 0
AllGo [] = Unit {0}
AllGo (p ∷ ps) = (is_last p.token ≡ false) × AllGo ps

-- all tokens, up to the end of the bytes or to what is no token
pub record AreScanned (bytes : List ℕ) (ps : List Lexeme) : Type 0 where
  pub front : List Lexeme
  pub last : Lexeme
  pub after : List ℕ
  pub are : ps ≡ front ++ last ∷ []
  pub leads : Leads bytes bytes ps after
  pub go : AllGo front
  pub ends : is_last last.token ≡ true
