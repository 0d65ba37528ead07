-- The paths of the generator's files.
use Rattle.std.specs.Prelude.{◌≡◌, ◌≤◌, ◌<◌, ◌+◌, ◌*◌, ◌==◌, ◌&&◌, ◌||◌, ℕ, zero, suc, Bool, true, false, List, [], ◌∷◌, ◌++◌, length, nat_le}
use Rattle.std.specs.Fmt.{decimal}
use Rattle.std.specs.List.{list_all}
use Rattle.std.proofs.Common.{refl, ap, subst, ◌∙◌, arith, length-append}
use Rattle.std.proofs.lemmas.Bool.{and_parts, le-leb, eqb-true, ne_eqb}
use Rattle.std.proofs.lemmas.List.Folds.{list_all-append}
use Rattle.ae_base.specs.Bytes.{dash, dot, plus, slash, underscore}
use Rattle.ae_base.specs.Names.{is_digit, is_letter, is_slash, is_path, is_path_byte, parts, before_first_part}
use Rattle.ae_generator.specs.Lines.{path, paths}
use Rattle.ae_lines.specs.Tokens.{is_token_byte}
use Rattle.ae_generated.proofs.Digits.{digits_of}
use Rattle.ae_generated.proofs.Tokens.{is_word, after_blanks, digit_token, all_weaker}

digit_path : (b : ℕ) → is_digit b ≡ true → is_path_byte b ≡ true
digit_path b is = rw is (one_of (is_letter b) (b == dot) (b == underscore) (b == dash) (b == plus))
  where
    one_of : (before first second third fourth : Bool) → (before || true || first || second || third || fourth) ≡ true
    one_of true first second third fourth = refl
    one_of false first second third fourth = refl

not_slash : (b : ℕ) → is_digit b ≡ true → is_slash b ≡ false
not_slash b is = at (b == slash) refl
  where
    at : (x : Bool) → (b == slash) ≡ x → (b == slash) ≡ false
    at true same = absurd (let digit : is_digit slash ≡ true = subst (λ (c : ℕ). is_digit c ≡ true) (eqb-true b slash same) is in cc)
    at false other = other

-- digits end at a slash, or with the text
parts_then : (ds rest : List ℕ) → list_all is_digit ds ≡ true → parts (ds ++ 47 ∷ rest) ≡ ds ∷ parts rest
parts_then [] rest all = refl
parts_then (d ∷ ds) rest all =
    let each = and_parts (is_digit d) (list_all is_digit ds) all in
    rw (not_slash d each.0, parts_then ds rest each.1) refl

parts_last : (ds : List ℕ) → list_all is_digit ds ≡ true → parts ds ≡ ds ∷ []
parts_last [] all = refl
parts_last (d ∷ ds) all =
    let each = and_parts (is_digit d) (list_all is_digit ds) all in
    rw (not_slash d each.0, parts_last ds each.1) refl

path_parts : (k j : List ℕ) → list_all is_digit k ≡ true → list_all is_digit j ≡ true → parts (100 ∷ (k ++ 47 ∷ 102 ∷ j)) ≡ (100 ∷ k) ∷ (102 ∷ j) ∷ []
path_parts k j first second =
    ap (before_first_part 100) (parts_then k (102 ∷ j) first)
    ∙ ap (λ (ps : List (List ℕ)). (100 ∷ k) ∷ before_first_part 102 ps) (parts_last j second)

path_good : (k j : List ℕ) → list_all is_digit k ≡ true → list_all is_digit j ≡ true → length k ≤ 3 → length j ≤ 3 → is_path (100 ∷ (k ++ 47 ∷ 102 ∷ j)) ≡ true
path_good k j first second k_few j_few =
    let size : nat_le (length (100 ∷ (k ++ 47 ∷ 102 ∷ j))) 255 ≡ true = le-leb _ _ (omega (arith, length-append k (47 ∷ 102 ∷ j))) in
    let k_all : list_all is_path_byte k ≡ true = all_weaker is_digit is_path_byte digit_path k first in
    let j_all : list_all is_path_byte j ≡ true = all_weaker is_digit is_path_byte digit_path j second in
    let k_some : (suc (length k) == 0) ≡ false = ne_eqb (suc (length k)) 0 (λ none. omega arith) in
    let j_some : (suc (length j) == 0) ≡ false = ne_eqb (suc (length j)) 0 (λ none. omega arith) in
    rw (size, path_parts k j first second, k_all, j_all, k_some, j_some) refl

pub path_path : (k j : ℕ) → k < 210 → j < 210 → is_path (path k j) ≡ true
unfolding path
path_path k j k_few j_few =
    let first = digits_of k k_few in
    let second = digits_of j j_few in
    path_good (decimal k) (decimal j) first.digits second.digits first.few second.few

pub path_word : (k j : ℕ) → k < 210 → j < 210 → is_word (path k j) ≡ true
unfolding path
path_word k j k_few j_few =
    let first : list_all is_token_byte (decimal k) ≡ true = all_weaker is_digit is_token_byte digit_token (decimal k) (digits_of k k_few).digits in
    let second : list_all is_token_byte (decimal j) ≡ true = all_weaker is_digit is_token_byte digit_token (decimal j) (digits_of j j_few).digits in
    list_all-append is_token_byte (decimal k) (47 ∷ 102 ∷ decimal j) ∙ rw (first, second) refl

pub path_length : (k j : ℕ) → k < 210 → j < 210 → length (path k j) ≤ 9
unfolding path
path_length k j k_few j_few =
    let first : length (decimal k) ≤ 3 = (digits_of k k_few).few in
    let second : length (decimal j) ≤ 3 = (digits_of j j_few).few in
    omega (arith, length-append (decimal k) (47 ∷ 102 ∷ decimal j))

-- so many of them, from file j on
abbrev pub path_list : ℕ → ℕ → ℕ → List (List ℕ)
path_list zero k j = []
path_list (suc n) k j = path k j ∷ path_list n k (j + 1)

pub paths_are : (n k j : ℕ) → paths n k j ≡ after_blanks (path_list n k j)
unfolding paths
paths_are zero k j = refl
paths_are (suc n) k j = ap (λ (t : List ℕ). 32 ∷ (path k j ++ t)) (paths_are n k (j + 1))

pub list_length : (n k j : ℕ) → length (path_list n k j) ≡ n
list_length zero k j = refl
list_length (suc n) k j = ap suc (list_length n k (j + 1))

pub list_words : (n k j : ℕ) → k < 210 → j + n < 210 → list_all is_word (path_list n k j) ≡ true
list_words zero k j k_few few = refl
list_words (suc n) k j k_few few =
    let first : is_word (path k j) ≡ true = path_word k j k_few (omega arith) in
    let rest : list_all is_word (path_list n k (j + 1)) ≡ true = list_words n k (j + 1) k_few (omega arith) in
    rw (first, rest) refl

pub list_paths : (n k j : ℕ) → k < 210 → j + n < 210 → list_all is_path (path_list n k j) ≡ true
list_paths zero k j k_few few = refl
list_paths (suc n) k j k_few few =
    let first : is_path (path k j) ≡ true = path_path k j k_few (omega arith) in
    let rest : list_all is_path (path_list n k (j + 1)) ≡ true = list_paths n k (j + 1) k_few (omega arith) in
    ap (λ (b : Bool). b && list_all is_path (path_list n k (j + 1))) first ∙ rest

pub list_size : (n k j : ℕ) → k < 210 → j + n < 210 → length (after_blanks (path_list n k j)) ≤ 10 * n
list_size zero k j k_few few = omega arith
list_size (suc n) k j k_few few =
    let first : length (path k j) ≤ 9 = path_length k j k_few (omega arith) in
    let rest : length (after_blanks (path_list n k (j + 1))) ≤ 10 * n = list_size n k (j + 1) k_few (omega arith) in
    omega (arith, length-append (path k j) (after_blanks (path_list n k (j + 1))))
