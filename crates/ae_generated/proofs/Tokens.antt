-- The tokens of lines that are made of words with one blank between them.
use Rattle.std.specs.Prelude.{◌≡◌, ◌≤◌, ◌==◌, ℕ, Bool, true, false, List, [], ◌∷◌, ◌++◌, Some, length, nat_le, if◌then◌else◌}
use Rattle.std.specs.Fmt.{decimal}
use Rattle.std.specs.List.{list_all}
use Rattle.std.proofs.Common.{refl, subst, arith}
use Rattle.std.proofs.lemmas.Bool.{and_parts, eqb-true, le-leb, leb-true}
use Rattle.ae_base.specs.Names.{is_digit}
use Rattle.ae_lines.specs.Line.{is_ascii_word}
use Rattle.ae_lines.specs.Tokens.{is_blank, is_token_byte, is_plain, tokens, bare}
use Rattle.ae_generated.proofs.Digits.{Digits}

-- bytes of a token, of which the first is no `"`
abbrev pub is_word : List ℕ → Bool
is_word [] = false
is_word (b ∷ bs) = if b == 34 then false else list_all is_token_byte (b ∷ bs)

-- words, each with a blank before it
abbrev pub after_blanks : List (List ℕ) → List ℕ
after_blanks [] = []
after_blanks (w ∷ ws) = 32 ∷ (w ++ after_blanks ws)

not_blank : (b : ℕ) → is_token_byte b ≡ true → is_blank b ≡ false
not_blank b is = at (b == 32) (b == 9) refl refl
  where
    at : (x y : Bool) → (b == 32) ≡ x → (b == 9) ≡ y → is_blank b ≡ false
    at true y space tab = absurd (let none : is_token_byte 32 ≡ true = subst (λ (c : ℕ). is_token_byte c ≡ true) (eqb-true b 32 space) is in cc)
    at false true space tab = absurd (let none : is_token_byte 9 ≡ true = subst (λ (c : ℕ). is_token_byte c ≡ true) (eqb-true b 9 tab) is in cc)
    at false false space tab = rw (space, tab) refl

-- what comes behind the bytes of a token goes on from there
pub bare_on : (w s : List ℕ) (ts : List (List ℕ)) → list_all is_token_byte w ≡ true → bare s ≡ Some ([], ts) → bare (w ++ s) ≡ Some (w, ts)
bare_on [] s ts all is = is
bare_on (b ∷ bs) s ts all is =
    let parts = and_parts (is_token_byte b) (list_all is_token_byte bs) all in
    rw (not_blank b parts.0, parts.0, bare_on bs s ts parts.1 is) refl

no_quote : (x y : Bool) → (if x then false else y) ≡ true → (x ≡ false) × (y ≡ true)
no_quote true y is = absurd cc
no_quote false y is = (refl, is)

pub word_on : (w s : List ℕ) (ts : List (List ℕ)) → is_word w ≡ true → bare s ≡ Some ([], ts) → tokens (w ++ s) ≡ Some (w ∷ ts)
word_on [] s ts is behind = absurd cc
word_on (b ∷ bs) s ts is behind =
    let first = no_quote (b == 34) (list_all is_token_byte (b ∷ bs)) is in
    let parts = and_parts (is_token_byte b) (list_all is_token_byte bs) first.1 in
    rw (not_blank b parts.0, first.0, parts.0, bare_on bs s ts parts.1 behind) refl

pub blanks_on : (ws : List (List ℕ)) → list_all is_word ws ≡ true → bare (after_blanks ws) ≡ Some ([], ws)
blanks_on [] all = refl
blanks_on (w ∷ ws) all =
    let parts = and_parts (is_word w) (list_all is_word ws) all in
    rw (word_on w (after_blanks ws) ws parts.0 (blanks_on ws parts.1)) refl

-- words with blanks between them are these tokens
pub words_are : (w : List ℕ) (ws : List (List ℕ)) → is_word w ≡ true → list_all is_word ws ≡ true → tokens (w ++ after_blanks ws) ≡ Some (w ∷ ws)
words_are w ws is all = word_on w (after_blanks ws) ws is (blanks_on ws all)

-- ---- bytes of words

pub all_weaker : (p q : ℕ → Bool) → ((b : ℕ) → p b ≡ true → q b ≡ true) → (xs : List ℕ) → list_all p xs ≡ true → list_all q xs ≡ true
all_weaker p q weaker [] all = refl
all_weaker p q weaker (x ∷ xs) all =
    let parts = and_parts (p x) (list_all p xs) all in
    rw (weaker x parts.0, all_weaker p q weaker xs parts.1) refl

pub digit_token : (b : ℕ) → is_digit b ≡ true → is_token_byte b ≡ true
digit_token b is =
    let parts = and_parts (nat_le 48 b) (nat_le b 57) is in
    let low : 48 ≤ b = leb-true 48 b parts.0 in
    let high : b ≤ 57 = leb-true b 57 parts.1 in
    let lower : nat_le 33 b ≡ true = le-leb 33 b (omega arith) in
    let upper : nat_le b 126 ≡ true = le-leb b 126 (omega arith) in
    rw (lower, upper) refl

token_plain : (b : ℕ) → is_token_byte b ≡ true → is_plain b ≡ true
token_plain b is =
    let parts = and_parts (nat_le 33 b) (nat_le b 126) is in
    let low : 33 ≤ b = leb-true 33 b parts.0 in
    let lower : nat_le 32 b ≡ true = le-leb 32 b (omega arith) in
    rw (lower, parts.1) refl

token_ascii : (b : ℕ) → is_token_byte b ≡ true → nat_le b 127 ≡ true
token_ascii b is =
    let parts = and_parts (nat_le 33 b) (nat_le b 126) is in
    let high : b ≤ 126 = leb-true b 126 parts.1 in
    le-leb b 127 (omega arith)

word_bytes : (w : List ℕ) → is_word w ≡ true → list_all is_token_byte w ≡ true
word_bytes [] is = refl
word_bytes (b ∷ bs) is = (no_quote (b == 34) (list_all is_token_byte (b ∷ bs)) is).1

pub word_plain : (w : List ℕ) → is_word w ≡ true → list_all is_plain w ≡ true
word_plain w is = all_weaker is_token_byte is_plain token_plain w (word_bytes w is)

pub word_ascii : (w : List ℕ) → is_word w ≡ true → is_ascii_word w ≡ true
word_ascii w is = all_weaker is_token_byte (λ (b : ℕ). nat_le b 127) token_ascii w (word_bytes w is)

first_digit : (d : List ℕ) → 1 ≤ length d → list_all is_digit d ≡ true → is_word d ≡ true
first_digit [] some all = absurd (omega arith)
first_digit (b ∷ bs) some all = at (b == 34) refl
  where
    at : (x : Bool) → (b == 34) ≡ x → (if x then false else list_all is_token_byte (b ∷ bs)) ≡ true
    at true same = absurd (let digit : is_digit 34 ≡ true = subst (λ (c : ℕ). is_digit c ≡ true) (eqb-true b 34 same) (and_parts (is_digit b) (list_all is_digit bs) all).0 in cc)
    at false other = all_weaker is_digit is_token_byte digit_token (b ∷ bs) all

-- a number is a word
pub digits_word : (n : ℕ) → Digits n → is_word (decimal n) ≡ true
digits_word n d = first_digit (decimal n) d.some d.digits
