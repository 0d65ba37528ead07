-- What a token is, and which tokens stand at the front of bytes.
use Rattle.std.specs.Prelude.{◌≡◌, ◌≢◌, ℕ, ◌+◌, ◌-◌, ◌*◌, ◌≤◌, ◌<◌, ◌^◌, List, [], ◌∷◌, ◌++◌, length, Bool, true, false, ◌==◌, ◌&&◌, ◌||◌, if◌then◌else◌, fold}
use Rattle.ae_base.specs.Names.{is_digit}
use Rattle.ae_text.specs.WellFormed.{goes_on_word, is_word}

-- a word or a string by its bytes, a number, a sign by its byte
pub data Token : Type 0 where
  word : List ℕ → Token
  number : ℕ → Token
  string : List ℕ → Token
  sign : ℕ → Token
  -- the end of the bytes
  end : Token
  -- what is no token
  bad : Token

-- a space, a tab, a carriage return or a line end
abbrev pub is_blank : ℕ → Bool
is_blank b = (b == 32) || (b == 9) || (b == 13) || (b == 10)

-- one of `=` `;` `,` `[` `]` `{` `}`
abbrev pub is_sign : ℕ → Bool
is_sign b = (b == 61) || (b == 59) || (b == 44) || (b == 91) || (b == 93) || (b == 123) || (b == 125)

-- the first byte is c
abbrev pub begins_with : ℕ → List ℕ → Bool
begins_with c [] = false
begins_with c (b ∷ bs) = b == c

-- `*/` stands somewhere
abbrev pub has_end : List ℕ → Bool
has_end [] = false
has_end (b ∷ bs) = ((b == 42) && begins_with 47 bs) || has_end bs

-- blanks and comments
pub data IsGap : List ℕ → Type 0 where
  none : IsGap []
  blank : {b : ℕ} {bs : List ℕ} → is_blank b ≡ true → IsGap bs → IsGap (b ∷ bs)
  comment : {bytes : List ℕ} (inner bs : List ℕ) → has_end inner ≡ false → bytes ≡ 47 ∷ 42 ∷ (inner ++ 42 ∷ 47 ∷ bs) → IsGap bs → IsGap bytes

-- the next byte can't go on with a word or a number
abbrev pub stops : List ℕ → Bool
stops [] = true
stops (b ∷ bs) = if goes_on_word b then false else true

-- each byte is a digit
abbrev pub all_digits : List ℕ → Bool
all_digits [] = true
all_digits (b ∷ bs) = is_digit b && all_digits bs

-- one or more digits
abbrev pub AreDigits : List ℕ → Type 0
AreDigits s = (s ≢ []) × (all_digits s ≡ true)

-- the number that the digits write, leading zeros and all
abbrev pub value_of : List ℕ → ℕ
value_of = fold (λ n b. 10 * n + (b - 48)) 0

-- a byte that stands for itself in a string
abbrev pub IsPlain : ℕ → Type 0
IsPlain b = (b ≢ 34) × (b ≢ 92)

-- `0` to `7`
abbrev pub IsOctal : ℕ → Type 0
IsOctal b = (48 ≤ b) × (b < 56)

-- a piece of a string, and the byte that it stands for
pub data IsPiece : List ℕ → ℕ → Type 0 where
  plain : {b : ℕ} → IsPlain b → IsPiece (b ∷ []) b
  line_end : IsPiece (92 ∷ 110 ∷ []) 10
  tab : IsPiece (92 ∷ 116 ∷ []) 9
  quote : IsPiece (92 ∷ 34 ∷ []) 34
  backslash : IsPiece (92 ∷ 92 ∷ []) 92
  octal : {x y z b : ℕ} → IsOctal x → IsOctal y → IsOctal z → b ≡ 64 * (x - 48) + 8 * (y - 48) + (z - 48) → b < 256 → IsPiece (92 ∷ x ∷ y ∷ z ∷ []) b

-- s is pieces one after another, which stand for these bytes
abbrev pub ArePieces : List ℕ → List ℕ → Type 0
ArePieces s [] = s ≡ []
ArePieces s (b ∷ bs) = (front : List ℕ) × (rest : List ℕ) × (s ≡ front ++ rest) × IsPiece front b × ArePieces rest bs

-- s spells the token, where `after` follows
abbrev pub Spells : List ℕ → List ℕ → Token → Type 0
Spells s after (word w) = (s ≡ w) × (is_word w ≡ true) × (stops after ≡ true)
Spells s after (number n) = AreDigits s × (value_of s ≡ n) × (n < 2 ^ 64) × (stops after ≡ true)
Spells s after (string w) = (inner : List ℕ) × (s ≡ 34 ∷ (inner ++ 34 ∷ [])) × ArePieces inner w
Spells s after (sign b) = (s ≡ b ∷ []) × (is_sign b ≡ true)
Spells s after end = ⊥
Spells s after bad = ⊥

-- no token, blank or comment stands at the front of these bytes, nor their end
pub record IsNoToken (bytes : List ℕ) : Type 0 where
  pub more : bytes ≢ []
  pub no_gap : (gap after : List ℕ) → bytes ≡ gap ++ after → IsGap gap → gap ≡ []
  pub no_token : (s after : List ℕ) (t : Token) → bytes ≡ s ++ after → Spells s after t → ⊥

-- what stands at the front of the bytes: s, and then `after`
abbrev pub Stands : List ℕ → List ℕ → Token → Type 0
Stands s after (word w) = Spells s after (word w)
Stands s after (number n) = Spells s after (number n)
Stands s after (string w) = Spells s after (string w)
Stands s after (sign b) = Spells s after (sign b)
Stands s after end = (s ≡ []) × (after ≡ [])
Stands s after bad = (s ≡ []) × IsNoToken after

-- a token, and how many bytes stand before it
pub record Placed : Type 0 where
  pub at : ℕ
  pub token : Token

-- These tokens stand at the front of the bytes, before which `from` others stand.
abbrev pub Begins : ℕ → List ℕ → List Placed → Type 0
Begins from bytes [] = Unit {0}
Begins from bytes (p ∷ ps) =
    (gap : List ℕ) × (s : List ℕ) × (after : List ℕ) × (bytes ≡ gap ++ (s ++ after)) × IsGap gap × (p.at ≡ from + length gap) × Stands s after p.token
    × Begins (p.at + length s) after ps
