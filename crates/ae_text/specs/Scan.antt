-- The first token of bytes, from left to right. No public clause cites this: it is proved to be that of Token.antt.
use Rattle.std.specs.Prelude.{◌≡◌, ℕ, zero, suc, ◌+◌, ◌-◌, ◌*◌, ◌^◌, List, [], ◌∷◌, ◌++◌, length, take, drop, Bool, true, false, ◌==◌, ◌&&◌, if◌then◌else◌, nat_lt, nat_le, Option, Some, None, option_map}
use Rattle.ae_base.specs.Names.{is_digit}
use Rattle.ae_text.specs.WellFormed.{begins_word, goes_on_word}
use Rattle.ae_text.specs.Token.{Token, Placed, word, number, string, sign, end, bad, is_blank, is_sign, begins_with}

-- after the first `*/`
abbrev pub after_end : List ℕ → Option (List ℕ)
after_end [] = None
after_end (b ∷ bs) = if (b == 42) && begins_with 47 bs then Some (drop 1 bs) else after_end bs

-- after a comment, of which the `/` is gone
abbrev pub after_slash : List ℕ → Option (List ℕ)
after_slash [] = None
after_slash (b ∷ bs) = if b == 42 then after_end bs else None

-- after a blank or a comment
unfoldable pub after_one : List ℕ → Option (List ℕ)
after_one [] = None
after_one (b ∷ bs) = if is_blank b then Some bs else if b == 47 then after_slash bs else None

-- what `next` makes of the rest, or the bytes where there is none
abbrev pub or_else : List ℕ → Option (List ℕ) → (List ℕ → List ℕ) → List ℕ
or_else bytes None next = bytes
or_else bytes (Some rest) next = next rest

-- after all blanks and comments; the number bounds the turns
unfoldable pub skipped : ℕ → List ℕ → List ℕ
skipped zero bytes = bytes
skipped (suc n) bytes = or_else bytes (after_one bytes) (skipped n)

-- how many letters, digits and `_` stand at the front
abbrev pub run_length : List ℕ → ℕ
run_length [] = 0
run_length (b ∷ bs) = if goes_on_word b then suc (run_length bs) else 0

-- the number, where it stays below the limit
abbrev pub fitting : ℕ → ℕ → Option ℕ
fitting n limit = if nat_lt n limit then Some n else None

-- the number that n and these digits make, where it stays below 2^64
abbrev pub number_from : ℕ → List ℕ → Option ℕ
number_from n [] = Some n
number_from n (b ∷ bs) = if is_digit b && nat_lt (10 * n + (b - 48)) (2 ^ 64) then number_from (10 * n + (b - 48)) bs else None

-- `0` to `7`
abbrev pub is_octal : ℕ → Bool
is_octal b = nat_le 48 b && nat_lt b 56

-- the value of three octal digits
abbrev pub octal_value : ℕ → ℕ → ℕ → ℕ
octal_value x y z = 64 * (x - 48) + 8 * (y - 48) + (z - 48)

-- the byte of three octal digits, where there is one
abbrev pub octal_byte : ℕ → ℕ → ℕ → Option ℕ
octal_byte x y z = if is_octal x && is_octal y && is_octal z && nat_lt (octal_value x y z) 256 then Some (octal_value x y z) else None

-- the byte, and the bytes after it
abbrev pub with_rest : List ℕ → Option ℕ → Option (ℕ × List ℕ)
with_rest bs o = option_map (λ n. (n, bs)) o

-- the byte of the three octal digits at the front, and the bytes after them
unfoldable pub octal_at : List ℕ → Option (ℕ × List ℕ)
octal_at [] = None
octal_at (x ∷ []) = None
octal_at (x ∷ y ∷ []) = None
octal_at (x ∷ y ∷ z ∷ bs) = with_rest bs (octal_byte x y z)

-- the byte of the escape at the front, of which the `\` is gone, and the bytes after it
unfoldable pub escape_at : List ℕ → Option (ℕ × List ℕ)
escape_at [] = None
escape_at (b ∷ bs) =
    if b == 110 then Some (10, bs)
    else if b == 116 then Some (9, bs)
    else if b == 34 then Some (34, bs)
    else if b == 92 then Some (92, bs)
    else octal_at (b ∷ bs)

-- the byte that the first piece stands for, and the bytes after that piece
unfoldable pub piece_at : List ℕ → Option (ℕ × List ℕ)
piece_at [] = None
piece_at (b ∷ bs) = if b == 34 then None else if b == 92 then escape_at bs else Some (b, bs)

-- the closing quote
abbrev pub closed_string : List ℕ → List ℕ → Option (List ℕ × List ℕ)
closed_string front [] = None
closed_string front (b ∷ bs) = if b == 34 then Some (front, bs) else None

-- one piece more, or the end of the string
abbrev pub string_step : (List ℕ → List ℕ → Option (List ℕ × List ℕ)) → List ℕ → List ℕ → Option (ℕ × List ℕ) → Option (List ℕ × List ℕ)
string_step next front bytes (Some p) = next (front ++ p.0 ∷ []) p.1
string_step next front bytes None = closed_string front bytes

-- what the pieces stand for, up to the closing quote, after `front`; the number bounds the turns
unfoldable pub string_in : ℕ → List ℕ → List ℕ → Option (List ℕ × List ℕ)
string_in zero front bytes = None
string_in (suc n) front bytes = string_step (string_in n) front bytes (piece_at bytes)

-- what the pieces stand for, and the bytes after the closing quote
abbrev pub string_at : List ℕ → Option (List ℕ × List ℕ)
string_at bytes = string_in (suc (length bytes)) [] bytes

-- the number, or no token
abbrev pub number_token : List ℕ → List ℕ → Option ℕ → Token × List ℕ
number_token bytes rest (Some n) = (number n, rest)
number_token bytes rest None = (bad, bytes)

-- the string, or no token
abbrev pub string_token : List ℕ → Option (List ℕ × List ℕ) → Token × List ℕ
string_token bytes (Some p) = (string p.0, p.1)
string_token bytes None = (bad, bytes)

-- the token at the front, and the bytes after it
unfoldable pub token_at : List ℕ → Token × List ℕ
token_at [] = (end, [])
token_at (b ∷ bs) =
    if begins_word b then (word (take (run_length (b ∷ bs)) (b ∷ bs)), drop (run_length (b ∷ bs)) (b ∷ bs))
    else if is_digit b then number_token (b ∷ bs) (drop (run_length (b ∷ bs)) (b ∷ bs)) (number_from 0 (take (run_length (b ∷ bs)) (b ∷ bs)))
    else if b == 34 then string_token (b ∷ bs) (string_at bs)
    else if is_sign b then (sign b, bs)
    else (bad, b ∷ bs)

-- after all blanks and comments
abbrev pub gapless : List ℕ → List ℕ
gapless bytes = skipped (length bytes) bytes

-- the next token, with `total` bytes in all, and the bytes after it
abbrev pub next : ℕ → List ℕ → Placed
next total bytes = record { at = total - length (gapless bytes); token = (token_at (gapless bytes)).0 }

-- the bytes after the next token
abbrev pub behind : List ℕ → List ℕ
behind bytes = (token_at (gapless bytes)).1

-- these are the next tokens, and these the bytes after them
abbrev pub Leads : ℕ → List ℕ → List Placed → List ℕ → Type 0
Leads total bytes [] rest = bytes ≡ rest
Leads total bytes (p ∷ ps) rest = (p ≡ next total bytes) × Leads total (behind bytes) ps rest

-- some bytes were taken
abbrev pub is_moving : Token → Bool
is_moving (word w) = true
is_moving (number n) = true
is_moving (string s) = true
is_moving (sign b) = true
is_moving end = false
is_moving bad = false
