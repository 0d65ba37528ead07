-- Words, numbers and strings.
use Rattle.std.proofs.Common.{◌≡◌, ℕ, zero, suc, ◌+◌, ◌-◌, ◌*◌, ◌^◌, ◌<◌, ◌≤◌, Bool, true, false, cond, eqb, ltb, ◌||◌, ◌&&◌, length, take, drop, arith, List, [], ◌∷◌, ◌++◌, Option, Some, None, refl, sym, ap, subst, ◌∙◌, append_assoc}
use Rattle.std.specs.Prelude.{fold}
use Rattle.std.proofs.lemmas.Bool.{eqb-true, eqb-false, ltb-true, lt-ltb, ne_eqb, and_parts, and_from}
use Rattle.std.proofs.lemmas.Bool.Decides.{nat_tests}
use Rattle.std.proofs.lemmas.List.{length-append, append-nil}
use Rattle.std.specs.List.{list_all}
use Rattle.ae_base.specs.Names.{is_digit}
use Rattle.ae_text.specs.WellFormed.{begins_word, goes_on_word}
use Rattle.ae_text.specs.Token.{stops, all_digits, IsOctal, IsPiece, plain, line_end, tab, quote, backslash, octal, ArePieces}
use Rattle.ae_text.specs.Scan.{run_length, number_from, is_octal, octal_value, octal_byte, with_rest, octal_at, escape_at, piece_at, closed_string, string_step, string_in}
use Rattle.ae_text.proofs.Gaps.{some, some_is}
use Rattle.ae_text.proofs.Turns.{string_turn, string_end}

-- ---- runs

pub run_word : (xs : List ℕ) → (list_all goes_on_word (take (run_length xs) xs) ≡ true) × (stops (drop (run_length xs) xs) ≡ true)
run_word [] = (refl, refl)
run_word (b ∷ bs) = by_test (goes_on_word b) refl (run_word bs) where
  by_test : (t : Bool) → goes_on_word b ≡ t → (list_all goes_on_word (take (run_length bs) bs) ≡ true) × (stops (drop (run_length bs) bs) ≡ true)
      → (list_all goes_on_word (take (cond t (suc (run_length bs)) 0) (b ∷ bs)) ≡ true) × (stops (drop (cond t (suc (run_length bs)) 0) (b ∷ bs)) ≡ true)
  by_test true h rest = (rw (h, rest.0) refl, rest.1)
  by_test false h rest = (refl, rw h refl)

run_none : (ys : List ℕ) → stops ys ≡ true → run_length ys ≡ 0
run_none [] e = refl
run_none (y ∷ ys) e = by_test (goes_on_word y) e where
  by_test : (t : Bool) → cond t false true ≡ true → cond t (suc (run_length ys)) 0 ≡ 0
  by_test true e = absurd cc
  by_test false e = refl

pub run_exact : (xs ys : List ℕ) → list_all goes_on_word xs ≡ true → stops ys ≡ true → run_length (xs ++ ys) ≡ length xs
run_exact [] ys h e = run_none ys e
run_exact (b ∷ bs) ys h e = let p = and_parts (goes_on_word b) (list_all goes_on_word bs) h in rw (p.0, run_exact bs ys p.1 e) refl

-- ---- numbers

abbrev pub value_from : ℕ → List ℕ → ℕ
value_from = fold (λ n b. 10 * n + (b - 48))

value_grows : (a : ℕ) (xs : List ℕ) → a ≤ value_from a xs
value_grows a [] = omega arith
value_grows a (b ∷ bs) = omega (arith, value_grows (10 * a + (b - 48)) bs)

pub digit_goes_on : (b : ℕ) → is_digit b ≡ true → goes_on_word b ≡ true
digit_goes_on b e = by_letter (begins_word b) where
  by_letter : (t : Bool) → (t || is_digit b) ≡ true
  by_letter true = refl
  by_letter false = e

pub digits_go_on : (xs : List ℕ) → all_digits xs ≡ true → list_all goes_on_word xs ≡ true
digits_go_on [] e = refl
digits_go_on (b ∷ bs) e = let p = and_parts (is_digit b) (all_digits bs) e in and_from (goes_on_word b) (list_all goes_on_word bs) (digit_goes_on b p.0) (digits_go_on bs p.1)

pub number_found : (a : ℕ) (xs : List ℕ) (k : ℕ) → number_from a xs ≡ Some k → a < 2 ^ 64 → (all_digits xs ≡ true) × (value_from a xs ≡ k) × (k < 2 ^ 64)
number_found a [] k e lt = let is : a ≡ k = some_is a k e in (refl, is, omega (arith, is))
number_found a (b ∷ bs) k e lt = by_test (is_digit b) (ltb (10 * a + (b - 48)) (2 ^ 64)) refl refl e (λ h small. number_found (10 * a + (b - 48)) bs k h small) where
  by_test : (s t : Bool) → is_digit b ≡ s → ltb (10 * a + (b - 48)) (2 ^ 64) ≡ t → cond (s && t) (number_from (10 * a + (b - 48)) bs) None ≡ Some k
      → (number_from (10 * a + (b - 48)) bs ≡ Some k → 10 * a + (b - 48) < 2 ^ 64 → (all_digits bs ≡ true) × (value_from (10 * a + (b - 48)) bs ≡ k) × (k < 2 ^ 64))
      → (all_digits (b ∷ bs) ≡ true) × (value_from a (b ∷ bs) ≡ k) × (k < 2 ^ 64)
  by_test true true hs ht e again = let r = again e (ltb-true _ _ ht) in (and_from (is_digit b) (all_digits bs) hs r.0, r.1, r.2)
  by_test true false hs ht e again = absurd cc
  by_test false t hs ht e again = absurd cc

pub number_reads : (a : ℕ) (xs : List ℕ) → all_digits xs ≡ true → value_from a xs < 2 ^ 64 → number_from a xs ≡ Some (value_from a xs)
number_reads a [] e lt = refl
number_reads a (b ∷ bs) e lt =
    let p = and_parts (is_digit b) (all_digits bs) e in
    let small : 10 * a + (b - 48) < 2 ^ 64 = omega (arith, value_grows (10 * a + (b - 48)) bs) in
    rw (p.0, lt-ltb _ _ small) (number_reads (10 * a + (b - 48)) bs p.1 lt)

-- ---- strings

octal_test : (x : ℕ) → IsOctal x → is_octal x ≡ true
octal_test x h = grind (arith, nat_tests)

octal_reads : (x y z b : ℕ) → IsOctal x → IsOctal y → IsOctal z → b ≡ octal_value x y z → b < 256 → octal_byte x y z ≡ Some b
octal_reads x y z b hx hy hz is lt =
    let small : octal_value x y z < 256 = omega (arith, is) in
    rw (octal_test x hx, octal_test y hy, octal_test z hz, lt-ltb (octal_value x y z) 256 small, is) refl

pub piece_read : {p : List ℕ} {b : ℕ} → IsPiece p b → (rest : List ℕ) → piece_at (p ++ rest) ≡ Some (b, rest)
unfolding piece_at escape_at octal_at
piece_read (plain {b} h) rest = rw (ne_eqb b 34 h.0, ne_eqb b 92 h.1) refl
piece_read line_end rest = refl
piece_read tab rest = refl
piece_read quote rest = refl
piece_read backslash rest = refl
piece_read (octal {x} {y} {z} {b} hx hy hz is lt) rest =
    let n110 : eqb x 110 ≡ false = ne_eqb x 110 (λ e. absurd (omega (arith, e, hx.1))) in
    let n116 : eqb x 116 ≡ false = ne_eqb x 116 (λ e. absurd (omega (arith, e, hx.1))) in
    let n34 : eqb x 34 ≡ false = ne_eqb x 34 (λ e. absurd (omega (arith, e, hx.0))) in
    let n92 : eqb x 92 ≡ false = ne_eqb x 92 (λ e. absurd (omega (arith, e, hx.1))) in
    let all : octal_byte x y z ≡ Some b = octal_reads x y z b hx hy hz is lt in
    rw (n110, n116, n34, n92) (ap (with_rest rest) all)

abbrev pub PieceFound : List ℕ → ℕ → List ℕ → Type 0
PieceFound bytes b rest = (p : List ℕ) × (bytes ≡ p ++ rest) × IsPiece p b

pair_is : (a b : ℕ) (xs ys : List ℕ) → some {A = ℕ × List ℕ} (a, xs) ≡ some {A = ℕ × List ℕ} (b, ys) → (a ≡ b) × (xs ≡ ys)
pair_is a b xs ys e =
    let is : ◌≡◌ {A = ℕ × List ℕ} (a, xs) (b, ys) = some_is {A = ℕ × List ℕ} (a, xs) (b, ys) e in
    (ap (λ (p : ℕ × List ℕ). p.0) is, ap (λ (p : ℕ × List ℕ). p.1) is)

-- an escape of one letter
one_letter : (c b d : ℕ) (bs rest : List ℕ) → eqb c d ≡ true → IsPiece (92 ∷ d ∷ []) b → bs ≡ rest → PieceFound (92 ∷ c ∷ bs) b rest
one_letter c b d bs rest hc piece is = (92 ∷ d ∷ [], rw (eqb-true c d hc, is) refl, piece)

octal_of_test : (x : ℕ) → is_octal x ≡ true → IsOctal x
octal_of_test x e = (grind (arith, nat_tests), grind (arith, nat_tests))

octal_found : (x y z b : ℕ) → octal_byte x y z ≡ Some b → IsOctal x × IsOctal y × IsOctal z × (b ≡ octal_value x y z) × (b < 256)
octal_found x y z b e = by_test (is_octal x) (is_octal y) (is_octal z) (ltb (octal_value x y z) 256) refl refl refl refl e where
  by_test : (p q r s : Bool) → is_octal x ≡ p → is_octal y ≡ q → is_octal z ≡ r → ltb (octal_value x y z) 256 ≡ s → cond (p && q && r && s) (Some (octal_value x y z)) None ≡ Some b
      → IsOctal x × IsOctal y × IsOctal z × (b ≡ octal_value x y z) × (b < 256)
  by_test true true true true hp hq hr hs e =
      let is : octal_value x y z ≡ b = some_is (octal_value x y z) b e in
      let small : octal_value x y z < 256 = ltb-true _ _ hs in
      (octal_of_test x hp, octal_of_test y hq, octal_of_test z hr, sym is, omega (arith, small, is))
  by_test false q r s hp hq hr hs e = absurd cc
  by_test true false r s hp hq hr hs e = absurd cc
  by_test true true false s hp hq hr hs e = absurd cc
  by_test true true true false hp hq hr hs e = absurd cc

octal_piece_found : (bs : List ℕ) (b : ℕ) (rest : List ℕ) → octal_at bs ≡ Some (b, rest) → PieceFound (92 ∷ bs) b rest
unfolding octal_at
octal_piece_found [] b rest e = absurd cc
octal_piece_found (x ∷ []) b rest e = absurd cc
octal_piece_found (x ∷ y ∷ []) b rest e = absurd cc
octal_piece_found (x ∷ y ∷ z ∷ bs) b rest e = by_byte (octal_byte x y z) refl e where
  by_byte : (o : Option ℕ) → octal_byte x y z ≡ o → with_rest bs o ≡ Some (b, rest) → PieceFound (92 ∷ x ∷ y ∷ z ∷ bs) b rest
  by_byte (Some n) h e =
      let is = pair_is n b bs rest e in
      let o = octal_found x y z n h in
      (92 ∷ x ∷ y ∷ z ∷ [], ap (λ (xs : List ℕ). 92 ∷ x ∷ y ∷ z ∷ xs) is.1, subst (λ (k : ℕ). IsPiece (92 ∷ x ∷ y ∷ z ∷ []) k) is.0 (octal o.0 o.1 o.2 o.3 o.4))
  by_byte None h e = absurd cc

escape_found : (bs : List ℕ) (b : ℕ) (rest : List ℕ) → escape_at bs ≡ Some (b, rest) → PieceFound (92 ∷ bs) b rest
unfolding escape_at
escape_found [] b rest e = absurd cc
escape_found (c ∷ bs) b rest e = by_test (eqb c 110) (eqb c 116) (eqb c 34) (eqb c 92) refl refl refl refl e where
  by_test : (p q r s : Bool) → eqb c 110 ≡ p → eqb c 116 ≡ q → eqb c 34 ≡ r → eqb c 92 ≡ s
      → cond {A = Option (ℕ × List ℕ)} p (Some (10, bs)) (cond q (Some (9, bs)) (cond r (Some (34, bs)) (cond s (Some (92, bs)) (octal_at (c ∷ bs))))) ≡ Some (b, rest) → PieceFound (92 ∷ c ∷ bs) b rest
  by_test true q r s hp hq hr hs e = let is = pair_is 10 b bs rest e in one_letter c b 110 bs rest hp (subst (λ (k : ℕ). IsPiece (92 ∷ 110 ∷ []) k) is.0 line_end) is.1
  by_test false true r s hp hq hr hs e = let is = pair_is 9 b bs rest e in one_letter c b 116 bs rest hq (subst (λ (k : ℕ). IsPiece (92 ∷ 116 ∷ []) k) is.0 tab) is.1
  by_test false false true s hp hq hr hs e = let is = pair_is 34 b bs rest e in one_letter c b 34 bs rest hr (subst (λ (k : ℕ). IsPiece (92 ∷ 34 ∷ []) k) is.0 quote) is.1
  by_test false false false true hp hq hr hs e = let is = pair_is 92 b bs rest e in one_letter c b 92 bs rest hs (subst (λ (k : ℕ). IsPiece (92 ∷ 92 ∷ []) k) is.0 backslash) is.1
  by_test false false false false hp hq hr hs e = octal_piece_found (c ∷ bs) b rest e

pub piece_found : (bytes : List ℕ) (b : ℕ) (rest : List ℕ) → piece_at bytes ≡ Some (b, rest) → PieceFound bytes b rest
unfolding piece_at
piece_found [] b rest e = absurd cc
piece_found (c ∷ bs) b rest e = by_test (eqb c 34) (eqb c 92) refl refl e where
  by_test : (p q : Bool) → eqb c 34 ≡ p → eqb c 92 ≡ q → cond {A = Option (ℕ × List ℕ)} p None (cond q (escape_at bs) (Some (c, bs))) ≡ Some (b, rest) → PieceFound (c ∷ bs) b rest
  by_test true q hp hq e = absurd cc
  by_test false true hp hq e = subst (λ (k : ℕ). PieceFound (k ∷ bs) b rest) (sym (eqb-true c 92 hq)) (escape_found bs b rest e)
  by_test false false hp hq e =
      let is = pair_is c b bs rest e in
      (c ∷ [], ap (λ (xs : List ℕ). c ∷ xs) is.1, subst (λ (k : ℕ). IsPiece (c ∷ []) k) is.0 (plain (eqb-false c 34 hp, eqb-false c 92 hq)))

text_is : (a b xs ys : List ℕ) → some {A = List ℕ × List ℕ} (a, xs) ≡ some {A = List ℕ × List ℕ} (b, ys) → (a ≡ b) × (xs ≡ ys)
text_is a b xs ys e =
    let is : ◌≡◌ {A = List ℕ × List ℕ} (a, xs) (b, ys) = some_is {A = List ℕ × List ℕ} (a, xs) (b, ys) e in
    (ap (λ (p : List ℕ × List ℕ). p.0) is, ap (λ (p : List ℕ × List ℕ). p.1) is)

pub string_found : (n : ℕ) (front bytes w r : List ℕ) → string_in n front bytes ≡ Some (w, r) → (inner : List ℕ) × (v : List ℕ) × (w ≡ front ++ v) × (bytes ≡ inner ++ 34 ∷ r) × ArePieces inner v
unfolding string_in
string_found zero front bytes w r e = absurd cc
string_found (suc n) front bytes w r e = by_piece (piece_at bytes) refl e (λ p h. string_found n (front ++ p.0 ∷ []) p.1 w r h) where
  by_closed : (bytes : List ℕ) → closed_string front bytes ≡ Some (w, r) → (inner : List ℕ) × (v : List ℕ) × (w ≡ front ++ v) × (bytes ≡ inner ++ 34 ∷ r) × ArePieces inner v
  by_closed [] e = absurd cc
  by_closed (b ∷ bs) e = by_quote (eqb b 34) refl e where
    by_quote : (t : Bool) → eqb b 34 ≡ t → cond {A = Option (List ℕ × List ℕ)} t (Some (front, bs)) None ≡ Some (w, r) → (inner : List ℕ) × (v : List ℕ) × (w ≡ front ++ v) × (b ∷ bs ≡ inner ++ 34 ∷ r) × ArePieces inner v
    by_quote true h e = let is = text_is front w bs r e in ([], [], sym is.0 ∙ sym (append-nil front), rw (eqb-true b 34 h, is.1) refl, refl)
    by_quote false h e = absurd cc

  by_piece : (o : Option (ℕ × List ℕ)) → piece_at bytes ≡ o → string_step (string_in n) front bytes o ≡ Some (w, r)
      → ((p : ℕ × List ℕ) → string_in n (front ++ p.0 ∷ []) p.1 ≡ Some (w, r) → (inner : List ℕ) × (v : List ℕ) × (w ≡ (front ++ p.0 ∷ []) ++ v) × (p.1 ≡ inner ++ 34 ∷ r) × ArePieces inner v)
      → (inner : List ℕ) × (v : List ℕ) × (w ≡ front ++ v) × (bytes ≡ inner ++ 34 ∷ r) × ArePieces inner v
  by_piece None h e again = by_closed bytes e
  by_piece (Some p) h e again =
      let i = again p e in
      let f = piece_found bytes p.0 p.1 h in
      (f.0 ++ i.0, p.0 ∷ i.1, i.2 ∙ append_assoc front (p.0 ∷ []) i.1, f.1 ∙ ap (λ (xs : List ℕ). f.0 ++ xs) i.3 ∙ sym (append_assoc f.0 i.0 (34 ∷ r)), (f.0, i.0, refl, f.2, i.4))

piece_long : {p : List ℕ} {b : ℕ} → IsPiece p b → 0 < length p
piece_long (plain h) = omega arith
piece_long line_end = omega arith
piece_long tab = omega arith
piece_long quote = omega arith
piece_long backslash = omega arith
piece_long (octal hx hy hz is lt) = omega arith

no_piece : (r : List ℕ) → piece_at (34 ∷ r) ≡ None
unfolding piece_at
no_piece r = refl

pub string_reads : (v inner r front : List ℕ) (n : ℕ) → ArePieces inner v → length (inner ++ 34 ∷ r) < n → string_in n front (inner ++ 34 ∷ r) ≡ Some (front ++ v, r)
string_reads [] inner r front n h lt =
    rw h (string_end n front (34 ∷ r) (omega arith) (no_piece r) ∙ ap (λ (xs : List ℕ). Some (xs, r)) (sym (append-nil front)))
string_reads (b ∷ v) inner r front n (p, rest, e, piece, h) lt =
    let whole : inner ++ 34 ∷ r ≡ p ++ (rest ++ 34 ∷ r) = ap (λ (xs : List ℕ). xs ++ 34 ∷ r) e ∙ append_assoc p rest (34 ∷ r) in
    let len : length (rest ++ 34 ∷ r) < n - 1 = omega (arith, ap length whole, length-append p (rest ++ 34 ∷ r), piece_long piece) in
    ap (string_in n front) whole ∙ string_turn n front (p ++ (rest ++ 34 ∷ r)) b (rest ++ 34 ∷ r) (omega arith) (piece_read piece (rest ++ 34 ∷ r))
    ∙ string_reads v rest r (front ++ b ∷ []) (n - 1) h len ∙ ap (λ (xs : List ℕ). Some (xs, r)) (append_assoc front (b ∷ []) v)
