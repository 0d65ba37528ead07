-- Where a text is too deep, its first wrong token opens one level too many.
use Rattle.std.proofs.Common.{◌≡◌, ℕ, suc, ◌+◌, ◌-◌, ◌≤◌, inl, inr, Bool, true, false, cond, eqb, ltb, length, arith, List, [], ◌∷◌, ◌++◌, Result, Ok, Err, refl, sym, ap, ◌∙◌}
use Rattle.std.proofs.lemmas.Bool.{ltb-false}
use Rattle.ae_text.specs.Tree.{Node}
use Rattle.ae_text.specs.Token.{Token, word, number, string, sign, end, bad, Placed}
use Rattle.ae_text.specs.WellFormed.{max_depth}
use Rattle.ae_text.specs.Wrong.{GoesOn, IsTooDeep, opens, level_behind_one, level_behind, OpensOneTooMany}
use Rattle.ae_text.specs.Pushdown.{Frame, in_list, in_fields, Place, at_name, at_equals, at_value, at_semicolon, at_item, at_comma, done, State, Fault, syntax, too_deep, moved, list_of, value_step, open_step, close_step, place_step, is_sign_of, step, start, run}
use Rattle.ae_text.proofs.Complete.{sentence_goes, Fresh-nil}
use Rattle.ae_text.proofs.Sound.{run-err, ends_one, IsPlainValue, value_opens, needs_sign, is_moved, names, lists, commas}
use Rattle.ae_text.proofs.Viable.{run-append, run_reaches, taken_goes_on, run_one, syntax_ends, close_not_deep, cond_not_deep, name_not_deep}
use Rattle.ae_text.proofs.Shaped.{shaped}
use Rattle.ae_text.proofs.Errors.{goes_before}

-- ---- a state's open lists and structures are those of the tokens

counted : (n : ℕ) (t s : State) (a b : Token) → t ≡ s → a ≡ b → length s.outer ≡ level_behind_one n b → length t.outer ≡ level_behind_one n a
counted n t s a b same is e = ap (λ (x : State). length x.outer) same ∙ e ∙ ap (level_behind_one n) (sym is)

plain_level : (n : ℕ) (t : Token) (v : Node) → IsPlainValue t v → n ≡ level_behind_one n t
plain_level n (word w) v h = refl
plain_level n (number k) v h = refl
plain_level n (string s) v h = refl
plain_level n (sign b) v h = absurd h
plain_level n end v h = absurd h
plain_level n bad v h = absurd h

one_more : (n : ℕ) → suc n ≡ n + 1
one_more n = omega arith

value_counts : (limit : ℕ) (outer : List Frame) (starts : List ℕ) (f : Frame) (t : Token) (s : State) → value_step limit outer starts f t ≡ Ok s → length s.outer ≡ level_behind_one (length outer) t
value_counts limit outer starts f t s e =
    elim (value_opens limit outer starts f t s e) [
      | inl o ↦ ap (λ (x : State). length x.outer) o.2 ∙ plain_level (length outer) t o.0 o.1
      | inr (inl o) ↦ counted (length outer) s (record { outer = f ∷ outer; place = at_item []; starts = starts }) t (sign 91) o.2 o.0 (one_more (length outer))
      | inr (inr o) ↦ counted (length outer) s (record { outer = f ∷ outer; place = at_name []; starts = starts }) t (sign 123) o.2 o.0 (one_more (length outer))
    ]

one_less : (outer rest : List Frame) (f : Frame) → outer ≡ f ∷ rest → length rest ≡ length outer - 1
one_less outer rest f e = omega (arith, ap length e)

step_counts : (limit : ℕ) (s : State) (p : Placed) (t : State) → step limit s p ≡ Ok t → length t.outer ≡ level_behind_one (length s.outer) p.token
unfolding step
step_counts limit s p t e = by_place s.outer s.starts s.place e where
  by_place : (outer : List Frame) (starts : List ℕ) (place : Place) → place_step limit outer starts place p.at p.token ≡ Ok t → length t.outer ≡ level_behind_one (length outer) p.token
  by_place outer starts (at_name fs) e =
      elim (names outer starts fs p.at p.token t e) [
        | inl n ↦ counted (length outer) t _ p.token (word n.0) n.3 n.1 refl
        | inr (inl n) ↦ counted (length outer) t _ p.token (sign 125) n.4 n.0 (one_less outer n.2 n.1 n.3)
        | inr (inr n) ↦ counted (length outer) t _ p.token end n.2 n.0 (ap length (sym n.1))
      ]
  by_place outer starts (at_equals fs k) e =
      let n = needs_sign 61 p.token (moved outer starts (at_value fs k)) t e in
      counted (length outer) t _ p.token (sign 61) (is_moved outer starts (at_value fs k) t n.1) n.0 refl
  by_place outer starts (at_value fs k) e = value_counts limit outer starts (in_fields fs k) p.token t e
  by_place outer starts (at_semicolon fs k v) e =
      let n = needs_sign 59 p.token (moved outer starts (at_name (fs ++ (k, v) ∷ []))) t e in
      counted (length outer) t _ p.token (sign 59) (is_moved outer starts (at_name (fs ++ (k, v) ∷ [])) t n.1) n.0 refl
  by_place outer starts (at_item vs) e =
      elim (lists limit outer starts vs p.token t e) [
        | inl n ↦ counted (length outer) t _ p.token (sign 93) n.4 n.0 (one_less outer n.2 n.1 n.3)
        | inr n ↦ value_counts limit outer starts (in_list vs) p.token t n.1
      ]
  by_place outer starts (at_comma vs) e =
      elim (commas outer starts vs p.token t e) [
        | inl n ↦ counted (length outer) t _ p.token (sign 44) n.1 n.0 refl
        | inr n ↦ counted (length outer) t _ p.token (sign 93) n.4 n.0 (one_less outer n.2 n.1 n.3)
      ]
  by_place outer starts (done fs) e = absurd cc

run_counts : (limit : ℕ) (s : State) (ps : List Placed) (t : State) → run limit (Ok s) ps ≡ Ok t → length t.outer ≡ level_behind (length s.outer) ps
unfolding run
run_counts limit s [] t e = let same : t ≡ s = cc in ap (λ (x : State). length x.outer) same
run_counts limit s (p ∷ ps) t e =
    let o = ends_one limit s.outer s.starts s.place p ps t e in
    run_counts limit o.0 ps t o.2 ∙ ap (λ (n : ℕ). level_behind n ps) (step_counts limit s p o.0 o.1)

-- ---- the step that is too deep

abbrev IsOneTooMany : ℕ → List Frame → Token → Type 0
IsOneTooMany limit outer t = (opens t ≡ true) × (limit ≤ length outer)

open_full : (limit : ℕ) (outer : List Frame) (starts : List ℕ) (f : Frame) (place : Place) → open_step limit outer starts f place ≡ Err too_deep → limit ≤ length outer
open_full limit outer starts f place e = guarded (ltb (length outer) limit) refl e where
  guarded : (b : Bool) → ltb (length outer) limit ≡ b → cond b (moved (f ∷ outer) starts place) (Err too_deep) ≡ Err too_deep → limit ≤ length outer
  guarded true h e = absurd cc
  guarded false h e = ltb-false _ _ h

value_full : (limit : ℕ) (outer : List Frame) (starts : List ℕ) (f : Frame) (t : Token) → value_step limit outer starts f t ≡ Err too_deep → IsOneTooMany limit outer t
value_full limit outer starts f (word w) e = absurd cc
value_full limit outer starts f (number n) e = absurd cc
value_full limit outer starts f (string w) e = absurd cc
value_full limit outer starts f (sign b) e = by_sign (eqb b 91) (eqb b 123) refl refl e where
  by_sign : (x y : Bool) → eqb b 91 ≡ x → eqb b 123 ≡ y → cond x (open_step limit outer starts f (at_item [])) (cond y (open_step limit outer starts f (at_name [])) (Err syntax)) ≡ Err too_deep → IsOneTooMany limit outer (sign b)
  by_sign true y hx hy e = (rw hx refl, open_full limit outer starts f (at_item []) e)
  by_sign false true hx hy e = (rw (hx, hy) refl, open_full limit outer starts f (at_name []) e)
  by_sign false false hx hy e = absurd cc
value_full limit outer starts f end e = absurd cc
value_full limit outer starts f bad e = absurd cc

step_full : (limit : ℕ) (s : State) (p : Placed) → step limit s p ≡ Err too_deep → IsOneTooMany limit s.outer p.token
unfolding step
step_full limit s p e = by_place s.outer s.starts s.place e where
  by_item : (b : Bool) (outer : List Frame) (starts : List ℕ) (vs : List Node) → cond b (close_step outer starts (list_of vs)) (value_step limit outer starts (in_list vs) p.token) ≡ Err too_deep → IsOneTooMany limit outer p.token
  by_item true outer starts vs e = absurd (close_not_deep outer starts (list_of vs) e)
  by_item false outer starts vs e = value_full limit outer starts (in_list vs) p.token e

  by_place : (outer : List Frame) (starts : List ℕ) (place : Place) → place_step limit outer starts place p.at p.token ≡ Err too_deep → IsOneTooMany limit outer p.token
  by_place outer starts (at_name fs) e = absurd (name_not_deep outer starts fs p.at p.token e)
  by_place outer starts (at_equals fs k) e = absurd (cond_not_deep (is_sign_of 61 p.token) _ _ (λ h. cc) (λ h. cc) e)
  by_place outer starts (at_value fs k) e = value_full limit outer starts (in_fields fs k) p.token e
  by_place outer starts (at_semicolon fs k v) e = absurd (cond_not_deep (is_sign_of 59 p.token) _ _ (λ h. cc) (λ h. cc) e)
  by_place outer starts (at_item vs) e = by_item (is_sign_of 93 p.token) outer starts vs e
  by_place outer starts (at_comma vs) e = absurd (cond_not_deep (is_sign_of 44 p.token) _ _ (λ h. cc) (λ h. cond_not_deep (is_sign_of 93 p.token) _ _ (close_not_deep outer starts (list_of vs)) (λ g. cc) h) e)
  by_place outer starts (done fs) e = absurd cc

-- what goes on was taken
front_taken : (limit : ℕ) (front : List Placed) → GoesOn limit front → (s : State) × (run limit (Ok start) front ≡ Ok s)
front_taken limit front (more, ms, places, sentence, names_differ, nests) =
    by_result (run limit (Ok start) front) refl (sym (run-append limit (Ok start) front more) ∙ sentence_goes ms limit [] [] (front ++ more) places sentence (shaped ms limit names_differ nests) (Fresh-nil ms)) where
      by_result : (r : Result State Fault) → run limit (Ok start) front ≡ r → {last : State} → run limit (run limit (Ok start) front) more ≡ Ok last → (s : State) × (run limit (Ok start) front ≡ Ok s)
      by_result (Ok s) e read = (s, e)
      by_result (Err f) e {last} read = absurd (let never : Err f ≡ Ok last = sym (run-err limit f more) ∙ ap (λ (r : Result State Fault). run limit r more) (sym e) ∙ read in cc)

pub one_too_many : (bytes : List ℕ) (line : ℕ) → IsTooDeep bytes line → OpensOneTooMany bytes line
one_too_many bytes line (front, p, w, depth, goes) =
    let f = front_taken max_depth front (goes_before max_depth front (w.can_go_on.0 ∷ []) w.can_go_on.1) in
    by_step f.0 f.1 (step max_depth f.0 p) refl where
      by_step : (s : State) → run max_depth (Ok start) front ≡ Ok s → (r : Result State Fault) → step max_depth s p ≡ r → OpensOneTooMany bytes line
      by_step s e (Ok t) one = absurd (w.cannot_stand (taken_goes_on max_depth (front ++ p ∷ []) t (run_one max_depth front s p (Ok t) e one)))
      by_step s e (Err syntax) one = absurd (syntax_ends max_depth depth front s p e one goes)
      by_step s e (Err too_deep) one =
          let full = step_full max_depth s p one in
          let reached = run_reaches max_depth start front s (tt, omega arith) e in
          let level = run_counts max_depth start front s e in
          (front, p, w, full.0, omega (arith, full.1, reached.1, level))
