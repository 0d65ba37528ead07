-- Lines that put a text which is drawn.
use Rattle.std.specs.Prelude.{◌≡◌, ◌≤◌, ◌<◌, ◌+◌, ◌==◌, ◌&&◌, ℕ, zero, suc, Bool, true, false, List, [], ◌∷◌, ◌++◌, length, nat_le, codes, Some}
use Rattle.std.specs.Fmt.{decimal}
use Rattle.std.specs.List.{list_all}
use Rattle.std.proofs.Common.{refl, sym, ap, subst, ◌∙◌, arith, append_assoc, length-append}
use Rattle.std.proofs.lemmas.Bool.{and_parts, eqb-true, le-leb, leb-true}
use Rattle.std.proofs.lemmas.List.Folds.{list_all-append}
use Rattle.ae_base.specs.Names.{is_lower, is_path}
use Rattle.ae_generator.specs.Draws.{next, drawn, letters, text_after}
use Rattle.ae_generator.specs.Lines.{path, put_line}
use Rattle.ae_lines.specs.Line.{Means, Said, says, said, said_where, dir_named}
use Rattle.ae_lines.specs.Tokens.{is_plain, is_token_byte, tokens, bare, inside, ends, all_of}
use Rattle.ae_lines.specs.declared.line.Line.TheVariants.{Put}
use Rattle.ae_outside.specs.declared.dir.Dir.TheVariants.{Develop}
use Rattle.ae_words.specs.declared.command.Command.{Command}
use Rattle.ae_generated.proofs.Digits.{digits_of, change_of}
use Rattle.ae_generated.proofs.Made.{IsMade}
use Rattle.ae_generated.proofs.Paths.{path_length, path_word, path_path}
use Rattle.ae_generated.proofs.Tokens.{is_word, word_on, word_plain, all_weaker, digit_token}

pub drawn_below : (m x : ℕ) → 0 < m → drawn m x < m
unfolding drawn
drawn_below m x some = omega arith

letter_drawn : (x : ℕ) → is_lower (97 + drawn 26 x) ≡ true
letter_drawn x =
    let below : drawn 26 x < 26 = drawn_below 26 x (omega arith) in
    let lower : nat_le 97 (97 + drawn 26 x) ≡ true = le-leb _ _ (omega arith) in
    let upper : nat_le (97 + drawn 26 x) 122 ≡ true = le-leb _ _ (omega arith) in
    rw (lower, upper) refl

letters_all : (n x : ℕ) → list_all is_lower (letters n x) ≡ true
unfolding letters
letters_all zero x = refl
letters_all (suc n) x = ap (λ (b : Bool). b && list_all is_lower (letters n (next x))) (letter_drawn (next x)) ∙ letters_all n (next x)

letters_length : (n x : ℕ) → length (letters n x) ≡ n
unfolding letters
letters_length zero x = refl
letters_length (suc n) x = ap suc (letters_length n (next x))

pub text_letters : (x : ℕ) → list_all is_lower (text_after x) ≡ true
unfolding text_after
text_letters x = letters_all (drawn 64 (next x)) (next x)

pub text_length : (x : ℕ) → length (text_after x) < 64
unfolding text_after
text_length x = subst (λ (n : ℕ). n < 64) (sym (letters_length (drawn 64 (next x)) (next x))) (drawn_below 64 (next x) (omega arith))

-- ---- a string of letters

letter_isnt : (b k : ℕ) → is_lower k ≡ false → is_lower b ≡ true → (b == k) ≡ false
letter_isnt b k none is = at (b == k) refl
  where
    at : (x : Bool) → (b == k) ≡ x → (b == k) ≡ false
    at true same = absurd (let letter : is_lower k ≡ true = subst (λ (c : ℕ). is_lower c ≡ true) (eqb-true b k same) is in cc)
    at false other = other

letter_plain : (b : ℕ) → is_lower b ≡ true → is_plain b ≡ true
letter_plain b is =
    let parts = and_parts (nat_le 97 b) (nat_le b 122) is in
    let low : 97 ≤ b = leb-true 97 b parts.0 in
    let high : b ≤ 122 = leb-true b 122 parts.1 in
    let lower : nat_le 32 b ≡ true = le-leb 32 b (omega arith) in
    let upper : nat_le b 126 ≡ true = le-leb b 126 (omega arith) in
    rw (lower, upper) refl

inside_on : (text : List ℕ) → list_all is_lower text ≡ true → inside (text ++ 34 ∷ []) ≡ Some (text, [])
inside_on [] all = refl
inside_on (b ∷ bs) all =
    let parts = and_parts (is_lower b) (list_all is_lower bs) all in
    rw (letter_isnt b 34 refl parts.0, letter_isnt b 92 refl parts.0, letter_plain b parts.0, inside_on bs parts.1) refl

blank_then : (s : List ℕ) (ts : List (List ℕ)) → tokens s ≡ Some ts → bare (32 ∷ s) ≡ Some ([], ts)
blank_then s ts is = ap ends is

-- ---- the line

-- the directory of a change
abbrev developed : ℕ → List ℕ
developed n = codes "develop." ++ decimal n

-- the line without its end
abbrev put_content : ℕ → List ℕ → List ℕ → List ℕ
put_content n at text = codes "put" ++ 32 ∷ (developed n ++ 32 ∷ (at ++ 32 ∷ 34 ∷ (text ++ 34 ∷ [])))

put_shape : (n : ℕ) (at text : List ℕ) → put_line n at text ≡ put_content n at text ++ 10 ∷ []
unfolding put_line
put_shape n at text =
    sym (ap (λ (t : List ℕ). codes "put develop." ++ t)
    (append_assoc (decimal n) (32 ∷ (at ++ 32 ∷ 34 ∷ (text ++ 34 ∷ []))) (10 ∷ [])
    ∙ ap (λ (t : List ℕ). decimal n ++ (32 ∷ t)) (append_assoc at (32 ∷ 34 ∷ (text ++ 34 ∷ [])) (10 ∷ []))
    ∙ ap (λ (t : List ℕ). decimal n ++ (32 ∷ (at ++ (32 ∷ 34 ∷ t)))) (append_assoc text (34 ∷ []) (10 ∷ []))))

module _ (n : ℕ) (low : 10 ≤ n) (high : n < 210) where
  tokens_digits : list_all is_token_byte (decimal n) ≡ true
  tokens_digits = all_weaker _ is_token_byte digit_token (decimal n) (digits_of n high).digits

  developed_word : is_word (developed n) ≡ true
  developed_word = tokens_digits

  developed_dir : dir_named (developed n) ≡ Some (Develop n)
  developed_dir = rw (change_of n low high) refl

  put_tokens : (at text : List ℕ) → is_word at ≡ true → list_all is_lower text ≡ true → tokens (put_content n at text) ≡ Some (codes "put" ∷ developed n ∷ at ∷ text ∷ [])
  put_tokens at text word all =
      let string : tokens (34 ∷ (text ++ 34 ∷ [])) ≡ Some (text ∷ []) = ap all_of (inside_on text all) in
      let third : tokens (at ++ 32 ∷ 34 ∷ (text ++ 34 ∷ [])) ≡ Some (at ∷ text ∷ []) = word_on at (32 ∷ 34 ∷ (text ++ 34 ∷ [])) (text ∷ []) word (blank_then (34 ∷ (text ++ 34 ∷ [])) (text ∷ []) string) in
      let second : tokens (developed n ++ 32 ∷ (at ++ 32 ∷ 34 ∷ (text ++ 34 ∷ []))) ≡ Some (developed n ∷ at ∷ text ∷ []) = word_on (developed n) (32 ∷ (at ++ 32 ∷ 34 ∷ (text ++ 34 ∷ []))) (at ∷ text ∷ []) developed_word (blank_then (at ++ 32 ∷ 34 ∷ (text ++ 34 ∷ [])) (at ∷ text ∷ []) third) in
      word_on (codes "put") (32 ∷ (developed n ++ 32 ∷ (at ++ 32 ∷ 34 ∷ (text ++ 34 ∷ [])))) (developed n ∷ at ∷ text ∷ []) refl (blank_then (developed n ++ 32 ∷ (at ++ 32 ∷ 34 ∷ (text ++ 34 ∷ []))) (developed n ∷ at ∷ text ∷ []) second)

  put_said : (at text : List ℕ) → is_word at ≡ true → is_path at ≡ true → list_all is_lower text ≡ true → said (put_content n at text) ≡ says (Put (Develop n) at text)
  put_said at text word is all = ap said_where (put_tokens at text word all) ∙ (rw (is, developed_dir) refl)

  put_plain : (at text : List ℕ) → is_word at ≡ true → list_all is_lower text ≡ true → list_all is_plain (put_content n at text) ≡ true
  put_plain at text word all =
      let string : list_all is_plain (text ++ 34 ∷ []) ≡ true = list_all-append is_plain text (34 ∷ []) ∙ (rw (all_weaker is_lower is_plain letter_plain text all) refl) in
      let third : list_all is_plain (at ++ 32 ∷ 34 ∷ (text ++ 34 ∷ [])) ≡ true = list_all-append is_plain at (32 ∷ 34 ∷ (text ++ 34 ∷ [])) ∙ (rw (word_plain at word, string) refl) in
      list_all-append is_plain (developed n) (32 ∷ (at ++ 32 ∷ 34 ∷ (text ++ 34 ∷ []))) ∙ (rw (word_plain (developed n) developed_word, third) refl)

  pub put_made : (k j x : ℕ) → k < 210 → j < 210 → IsMade (put_line n (path k j) (text_after x))
  put_made k j x k_few j_few =
      let text : List ℕ = text_after x in
      let digits : length (decimal n) ≤ 3 = (digits_of n high).few in
      let at_size : length (path k j) ≤ 9 = path_length k j k_few j_few in
      let text_size : length text < 64 = text_length x in
      let word : is_word (path k j) ≡ true = path_word k j k_few j_few in
      let all : list_all is_lower text ≡ true = text_letters x in
      record {
        content = put_content n (path k j) text;
        ended = put_shape n (path k j) text;
        plain = put_plain (path k j) text word all;
        short = omega (arith, length-append (decimal n) (32 ∷ (path k j ++ 32 ∷ 34 ∷ (text ++ 34 ∷ []))), length-append (path k j) (32 ∷ 34 ∷ (text ++ 34 ∷ [])), length-append text (34 ∷ []));
        line_says = Put (Develop n) (path k j) text;
        means = subst (λ (s : Said). Means s (Put (Develop n) (path k j) text)) (sym (put_said (path k j) text word (path_path k j k_few j_few) all)) refl;
        no_test = λ (command : Command) same test. absurd cc;
      }
