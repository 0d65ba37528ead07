-- A token is taken exactly where some text goes on from there.
use Rattle.std.proofs.Common.{◌≡◌, ℕ, suc, ◌+◌, ◌-◌, ◌<◌, ◌≤◌, inl, inr, Bool, true, false, cond, eqb, ltb, length, arith, List, [], ◌∷◌, ◌++◌, Result, Ok, Err, refl, sym, ap, subst, ◌∙◌, append_assoc}
use Rattle.std.proofs.lemmas.Bool.{ltb-true, lt-ltb}
use Rattle.ae_text.specs.Tree.{Node, list, fields, Items, no_items, item, Members, no_members, member}
use Rattle.ae_text.specs.Tree as tree
use Rattle.ae_text.specs.Token.{Token, word, number, string, sign, end, bad, Placed}
use Rattle.ae_text.proofs.Shaped.{IsShaped, AreShaped, FieldsAreShaped, shaped, names_of, depth_of}
use Rattle.ae_text.specs.Grammar.{IsSentence}
use Rattle.ae_text.specs.Wrong.{GoesOn}
use Rattle.ae_text.specs.Pushdown.{Frame, in_list, in_fields, Place, at_name, at_equals, at_value, at_semicolon, at_item, at_comma, done, State, Fault, syntax, too_deep, moved, deliver, fields_of, list_of, has_name, value_step, open_step, close_step, name_step, comma_step, place_step, is_sign_of, step, start, and_step, run}
use Rattle.ae_text.proofs.Complete.{Fresh-nil, sentence_goes}
use Rattle.ae_text.proofs.Sound.{run-err, IsDone, ends_one, value_opens, needs_sign, is_moved, names, lists, commas, sentence_found}

pub run-append : (limit : ℕ) (r : Result State Fault) (xs ys : List Placed) → run limit r (xs ++ ys) ≡ run limit (run limit r xs) ys
unfolding run
run-append limit r [] ys = refl
run-append limit r (x ∷ xs) ys = run-append limit (and_step limit r x) xs ys

-- a list stands inside something
abbrev pub AreNested : List Frame → Type 0
AreNested [] = Unit {0}
AreNested (in_list vs ∷ []) = ⊥
AreNested (in_list vs ∷ f ∷ outer) = AreNested (f ∷ outer)
AreNested (in_fields fs k ∷ outer) = AreNested outer

abbrev pub IsNested : List Frame → Place → Type 0
IsNested outer (at_name fs) = AreNested outer
IsNested outer (at_equals fs k) = AreNested outer
IsNested outer (at_value fs k) = AreNested outer
IsNested outer (at_semicolon fs k v) = AreNested outer
IsNested outer (at_item vs) = AreNested (in_list vs ∷ outer)
IsNested outer (at_comma vs) = AreNested (in_list vs ∷ outer)
IsNested outer (done fs) = Unit {0}

abbrev pub Reached : ℕ → State → Type 0
Reached limit s = IsNested s.outer s.place × (length s.outer ≤ limit)

abbrev at0 : Token → Placed
at0 t = record { at = 0; token = t }

-- what ends everything, once the value for which f waits has ended
abbrev finish : Frame → List Frame → List Placed
finish (in_list vs) [] = []
finish (in_list vs) (g ∷ outer) = at0 (sign 93) ∷ finish g outer
finish (in_fields fs k) [] = at0 (sign 59) ∷ at0 end ∷ []
finish (in_fields fs k) (g ∷ outer) = at0 (sign 59) ∷ at0 (sign 125) ∷ finish g outer

abbrev Finishes : ℕ → List Frame → List ℕ → Place → List Placed → Type 0
Finishes limit outer starts place ps = (last : State) × IsDone last × (run limit (moved outer starts place) ps ≡ Ok last)

finishes : (limit : ℕ) (outer : List Frame) (f : Frame) (v : Node) (starts : List ℕ) → AreNested (f ∷ outer) → Finishes limit outer starts (deliver v f) (finish f outer)
unfolding run step
finishes limit [] (in_list vs) v starts h = absurd h
finishes limit [] (in_fields fs k) v starts h = (_, (_, refl), refl)
finishes limit (g ∷ outer) (in_list vs) v starts h = finishes limit outer g (list_of (vs ++ v ∷ [])) starts h
finishes limit (g ∷ outer) (in_fields fs k) v starts h = finishes limit outer g (fields_of (fs ++ (k, v) ∷ [])) starts h

pub closes_from : (limit : ℕ) (s : State) → IsNested s.outer s.place → (ps : List Placed) × Finishes limit s.outer s.starts s.place ps
unfolding run step
closes_from limit s h = by_place s.outer s.starts s.place h where
  by_place : (outer : List Frame) (starts : List ℕ) (place : Place) → IsNested outer place → (ps : List Placed) × Finishes limit outer starts place ps
  by_place [] starts (at_name fs) h = (at0 end ∷ [], (_, (_, refl), refl))
  by_place (g ∷ outer) starts (at_name fs) h = (at0 (sign 125) ∷ finish g outer, finishes limit outer g (fields_of fs) starts h)
  by_place outer starts (at_equals fs k) h = (at0 (sign 61) ∷ at0 (number 0) ∷ finish (in_fields fs k) outer, finishes limit outer (in_fields fs k) (tree.number 0) starts h)
  by_place outer starts (at_value fs k) h = (at0 (number 0) ∷ finish (in_fields fs k) outer, finishes limit outer (in_fields fs k) (tree.number 0) starts h)
  by_place outer starts (at_semicolon fs k v) h = (finish (in_fields fs k) outer, finishes limit outer (in_fields fs k) v starts h)
  by_place [] starts (at_item vs) h = absurd h
  by_place (g ∷ outer) starts (at_item vs) h = (at0 (sign 93) ∷ finish g outer, finishes limit outer g (list_of vs) starts h)
  by_place [] starts (at_comma vs) h = absurd h
  by_place (g ∷ outer) starts (at_comma vs) h = (at0 (sign 93) ∷ finish g outer, finishes limit outer g (list_of vs) starts h)
  by_place outer starts (done fs) h = ([], (_, (_, refl), refl))

-- what waits for a value, nested
nested_after : (outer : List Frame) (f : Frame) (v : Node) → AreNested (f ∷ outer) → IsNested outer (deliver v f)
nested_after outer (in_list vs) v h = nested_list outer vs (vs ++ v ∷ []) h where
  nested_list : (outer : List Frame) (vs ws : List Node) → AreNested (in_list vs ∷ outer) → AreNested (in_list ws ∷ outer)
  nested_list [] vs ws h = h
  nested_list (g ∷ outer) vs ws h = h
nested_after outer (in_fields fs k) v h = h

nested_tail : (f : Frame) (outer : List Frame) → AreNested (f ∷ outer) → AreNested outer
nested_tail (in_list vs) [] h = tt
nested_tail (in_list vs) (g ∷ outer) h = h
nested_tail (in_fields fs k) outer h = h

value_reaches : (limit : ℕ) (outer : List Frame) (starts : List ℕ) (f : Frame) (t : Token) (s : State) → AreNested (f ∷ outer) → length outer ≤ limit → value_step limit outer starts f t ≡ Ok s → Reached limit s
value_reaches limit outer starts f t s h le e =
    elim (value_opens limit outer starts f t s e) [
      | inl o ↦ subst (Reached limit) (sym o.2) (nested_after outer f o.0 h, le)
      | inr (inl o) ↦ subst (Reached limit) (sym o.2) (h, omega (arith, o.1))
      | inr (inr o) ↦ subst (Reached limit) (sym o.2) (h, omega (arith, o.1))
    ]

closed_reaches : (limit : ℕ) (outer : List Frame) (starts : List ℕ) (f : Frame) (rest : List Frame) (v : Node) (s : State) → AreNested outer → length outer ≤ limit → outer ≡ f ∷ rest
    → s ≡ record { outer = rest; place = deliver v f; starts = starts } → Reached limit s
closed_reaches limit outer starts f rest v s h le e is =
    let nested : AreNested (f ∷ rest) = subst AreNested e h in
    let len : length outer ≡ suc (length rest) = ap length e in
    subst (Reached limit) (sym is) (nested_after rest f v nested, omega arith)

pub step_reaches : (limit : ℕ) (s : State) (p : Placed) (t : State) → Reached limit s → step limit s p ≡ Ok t → Reached limit t
unfolding step
step_reaches limit s p t h e = by_place s.outer s.starts s.place h.0 h.1 e where
  by_place : (outer : List Frame) (starts : List ℕ) (place : Place) → IsNested outer place → length outer ≤ limit → place_step limit outer starts place p.at p.token ≡ Ok t → Reached limit t
  by_place outer starts (at_name fs) h le e =
      elim (names outer starts fs p.at p.token t e) [
        | inl n ↦ subst (Reached limit) (sym n.3) (h, le)
        | inr (inl n) ↦ closed_reaches limit outer starts n.1 n.2 (fields_of fs) t h le n.3 n.4
        | inr (inr n) ↦ subst (Reached limit) (sym n.2) (tt, omega arith)
      ]
  by_place outer starts (at_equals fs k) h le e = subst (Reached limit) (sym (is_moved outer starts (at_value fs k) t (needs_sign 61 p.token (moved outer starts (at_value fs k)) t e).1)) (h, le)
  by_place outer starts (at_value fs k) h le e = value_reaches limit outer starts (in_fields fs k) p.token t h le e
  by_place outer starts (at_semicolon fs k v) h le e =
      subst (Reached limit) (sym (is_moved outer starts (at_name (fs ++ (k, v) ∷ [])) t (needs_sign 59 p.token (moved outer starts (at_name (fs ++ (k, v) ∷ []))) t e).1)) (h, le)
  by_place outer starts (at_item vs) h le e =
      elim (lists limit outer starts vs p.token t e) [
        | inl n ↦ closed_reaches limit outer starts n.1 n.2 (list_of vs) t (nested_tail (in_list vs) outer h) le n.3 n.4
        | inr n ↦ value_reaches limit outer starts (in_list vs) p.token t h le n.1
      ]
  by_place outer starts (at_comma vs) h le e =
      elim (commas outer starts vs p.token t e) [
        | inl n ↦ subst (Reached limit) (sym n.1) (h, le)
        | inr n ↦ closed_reaches limit outer starts n.1 n.2 (list_of vs) t (nested_tail (in_list vs) outer h) le n.3 n.4
      ]
  by_place outer starts (done fs) h le e = absurd cc

pub run_reaches : (limit : ℕ) (s : State) (ps : List Placed) (t : State) → Reached limit s → run limit (Ok s) ps ≡ Ok t → Reached limit t
unfolding run
run_reaches limit s [] t h e = let same : s ≡ t = cc in subst (Reached limit) same h
run_reaches limit s (p ∷ ps) t h e = let o = ends_one limit s.outer s.starts s.place p ps t e in run_reaches limit o.0 ps t (step_reaches limit s p o.0 h o.1) o.2

-- what was taken goes on to a text
pub taken_goes_on : (limit : ℕ) (front : List Placed) (s : State) → run limit (Ok start) front ≡ Ok s → GoesOn limit front
taken_goes_on limit front s e =
    let reached = run_reaches limit start front s (tt, omega arith) e in
    let c = closes_from limit s reached.0 in
    let all : run limit (Ok start) (front ++ c.0) ≡ Ok c.1.0 = run-append limit (Ok start) front c.0 ∙ ap (λ (r : Result State Fault). run limit r c.0) e ∙ c.1.2 in
    let found = sentence_found limit (suc (length (front ++ c.0))) c.1.0 [] [] (front ++ c.0) c.1.1 (omega arith) all in
    (c.0, found.0, found.1, found.2, names_of found.0 limit found.3, depth_of found.0 limit found.3)

-- what was taken and has not ended goes on by a further token
pub taken_goes_further : (limit : ℕ) (front : List Placed) (s : State) → run limit (Ok start) front ≡ Ok s → (IsDone s → ⊥) → (other : Placed) × GoesOn limit (front ++ other ∷ [])
unfolding run
taken_goes_further limit front s e never =
    let reached = run_reaches limit start front s (tt, omega arith) e in
    let c = closes_from limit s reached.0 in
    by_more c.0 c.1 where
      by_more : (ps : List Placed) → Finishes limit s.outer s.starts s.place ps → (other : Placed) × GoesOn limit (front ++ other ∷ [])
      by_more [] f = absurd (never (let same : s ≡ f.0 = cc in subst IsDone (sym same) f.1))
      by_more (q ∷ qs) f =
          let all : run limit (Ok start) (front ++ q ∷ qs) ≡ Ok f.0 = run-append limit (Ok start) front (q ∷ qs) ∙ ap (λ (r : Result State Fault). run limit r (q ∷ qs)) e ∙ f.2 in
          let found = sentence_found limit (suc (length (front ++ q ∷ qs))) f.0 [] [] (front ++ q ∷ qs) f.1 (omega arith) all in
          let row : front ++ q ∷ qs ≡ (front ++ q ∷ []) ++ qs = sym (append_assoc front (q ∷ []) qs) in
          (q, (qs, found.0, found.1, subst (λ (ps : List Placed). IsSentence ps found.0 found.1) row found.2, names_of found.0 limit found.3, depth_of found.0 limit found.3))

-- where a token was not taken, no text goes on
pub stopped_ends : (limit : ℕ) (front : List Placed) (e : Fault) → run limit (Ok start) front ≡ Err e → GoesOn limit front → ⊥
stopped_ends limit front e stopped (more, ms, places, sentence, names_differ, nests) =
    let read = sentence_goes ms limit [] [] (front ++ more) places sentence (shaped ms limit names_differ nests) (Fresh-nil ms) in
    let failed : run limit (Ok start) (front ++ more) ≡ Err e = run-append limit (Ok start) front more ∙ ap (λ (r : Result State Fault). run limit r more) stopped ∙ run-err limit e more in
    cc

-- ---- a greater limit

open_deep : (limit : ℕ) (outer : List Frame) (starts : List ℕ) (f : Frame) (place : Place) → length outer ≤ limit → open_step limit outer starts f place ≡ Err too_deep
    → (s : State) × (open_step (suc limit) outer starts f place ≡ Ok s)
open_deep limit outer starts f place le e = (record { outer = f ∷ outer; place = place; starts = starts }, rw (lt-ltb (length outer) (suc limit) (omega arith)) refl)

-- where a step does not say too deep, a greater limit changes nothing
abbrev IsKept : Result State Fault → Result State Fault → Type 0
IsKept (Ok s) r = r ≡ Ok s
IsKept (Err syntax) r = r ≡ Err syntax
IsKept (Err too_deep) r = Unit {0}

kept_same : (r : Result State Fault) → IsKept r r
kept_same (Ok s) = refl
kept_same (Err syntax) = refl
kept_same (Err too_deep) = tt

open_kept : (limit more : ℕ) (outer : List Frame) (starts : List ℕ) (f : Frame) (place : Place) → limit ≤ more → IsKept (open_step limit outer starts f place) (open_step more outer starts f place)
open_kept limit more outer starts f place le = guarded (ltb (length outer) limit) refl where
  guarded : (b : Bool) → ltb (length outer) limit ≡ b → IsKept (cond b (moved (f ∷ outer) starts place) (Err too_deep)) (open_step more outer starts f place)
  guarded true h = let lt : length outer < limit = ltb-true _ _ h in rw (lt-ltb (length outer) more (omega arith)) refl
  guarded false h = tt

cond_kept : (b : Bool) (x y z w : Result State Fault) → IsKept x z → IsKept y w → IsKept (cond b x y) (cond b z w)
cond_kept true x y z w p q = p
cond_kept false x y z w p q = q

value_kept : (limit more : ℕ) (outer : List Frame) (starts : List ℕ) (f : Frame) (t : Token) → limit ≤ more → IsKept (value_step limit outer starts f t) (value_step more outer starts f t)
value_kept limit more outer starts f (word w) le = refl
value_kept limit more outer starts f (number n) le = refl
value_kept limit more outer starts f (string w) le = refl
value_kept limit more outer starts f (sign b) le =
    cond_kept (eqb b 91) _ _ _ _ (open_kept limit more outer starts f (at_item []) le) (cond_kept (eqb b 123) _ _ _ _ (open_kept limit more outer starts f (at_name []) le) refl)
value_kept limit more outer starts f end le = refl
value_kept limit more outer starts f bad le = refl

pub step_kept : (limit more : ℕ) (s : State) (p : Placed) → limit ≤ more → IsKept (step limit s p) (step more s p)
unfolding step
step_kept limit more s p le = by_place s.place where
  by_place : (place : Place) → IsKept (place_step limit s.outer s.starts place p.at p.token) (place_step more s.outer s.starts place p.at p.token)
  by_place (at_name fs) = kept_same (name_step s.outer s.starts fs p.at p.token)
  by_place (at_equals fs k) = kept_same (place_step more s.outer s.starts (at_equals fs k) p.at p.token)
  by_place (at_value fs k) = value_kept limit more s.outer s.starts (in_fields fs k) p.token le
  by_place (at_semicolon fs k v) = kept_same (place_step more s.outer s.starts (at_semicolon fs k v) p.at p.token)
  by_place (at_item vs) =
      cond_kept (is_sign_of 93 p.token) (close_step s.outer s.starts (list_of vs)) (value_step limit s.outer s.starts (in_list vs) p.token) (close_step s.outer s.starts (list_of vs)) (value_step more s.outer s.starts (in_list vs) p.token)
      (kept_same (close_step s.outer s.starts (list_of vs))) (value_kept limit more s.outer s.starts (in_list vs) p.token le)
  by_place (at_comma vs) = kept_same (comma_step s.outer s.starts vs p.token)
  by_place (done fs) = kept_same (Err syntax)

kept_ok : (r q : Result State Fault) (s : State) → IsKept r q → r ≡ Ok s → q ≡ Ok s
kept_ok (Ok t) q s k e = k ∙ e
kept_ok (Err f) q s k e = absurd cc

kept_syntax : (r q : Result State Fault) → IsKept r q → r ≡ Err syntax → q ≡ Err syntax
kept_syntax (Ok t) q k e = absurd cc
kept_syntax (Err syntax) q k e = k
kept_syntax (Err too_deep) q k e = absurd cc

pub run_more : (limit more : ℕ) (s : State) (ps : List Placed) (t : State) → limit ≤ more → run limit (Ok s) ps ≡ Ok t → run more (Ok s) ps ≡ Ok t
unfolding run
run_more limit more s [] t le e = e
run_more limit more s (p ∷ ps) t le e =
    let o = ends_one limit s.outer s.starts s.place p ps t e in
    let same : step more s p ≡ Ok o.0 = kept_ok (step limit s p) (step more s p) o.0 (step_kept limit more s p le) o.1 in
    ap (λ (r : Result State Fault). run more r ps) same ∙ run_more limit more o.0 ps t le o.2

mutual
  shaped_more : (v : Node) (a b : ℕ) → a ≤ b → IsShaped a v → IsShaped b v
  shaped_more (tree.word w) a b le h = tt
  shaped_more (tree.number n) a b le h = tt
  shaped_more (tree.str s) a b le h = tt
  shaped_more (list js) a b le h = (omega (arith, h.0), items_shaped_more js (a - 1) (b - 1) (omega arith) h.1)
  shaped_more (fields ms) a b le h = (omega (arith, h.0), fields_shaped_more ms (a - 1) (b - 1) (omega arith) h.1)

  items_shaped_more : (js : Items) (a b : ℕ) → a ≤ b → AreShaped a js → AreShaped b js
  items_shaped_more no_items a b le h = tt
  items_shaped_more (item j js) a b le h = (shaped_more j a b le h.0, items_shaped_more js a b le h.1)

  pub fields_shaped_more : (ms : Members) (a b : ℕ) → a ≤ b → FieldsAreShaped a ms → FieldsAreShaped b ms
  fields_shaped_more no_members a b le h = tt
  fields_shaped_more (member k j ms) a b le h = (h.0, shaped_more j a b le h.1, fields_shaped_more ms a b le h.2)

pub run_one : (limit : ℕ) (front : List Placed) (s : State) (p : Placed) (r : Result State Fault) → run limit (Ok start) front ≡ Ok s → step limit s p ≡ r → run limit (Ok start) (front ++ p ∷ []) ≡ r
unfolding run
run_one limit front s p r e one = run-append limit (Ok start) front (p ∷ []) ∙ ap (λ (x : Result State Fault). run limit x (p ∷ [])) e ∙ one

-- no depth helps
pub syntax_ends : (limit depth : ℕ) (front : List Placed) (s : State) (p : Placed) → run limit (Ok start) front ≡ Ok s → step limit s p ≡ Err syntax → GoesOn depth (front ++ p ∷ []) → ⊥
syntax_ends limit depth front s p e stopped (more, ms, places, sentence, names_differ, nests) =
    let big = limit + depth in
    let still : step big s p ≡ Err syntax = kept_syntax (step limit s p) (step big s p) (step_kept limit big s p (omega arith)) stopped in
    let failed = run_one big front s p (Err syntax) (run_more limit big start front s (omega arith) e) still in
    let fits = fields_shaped_more ms depth big (omega arith) (shaped ms depth names_differ nests) in
    stopped_ends big (front ++ p ∷ []) syntax failed (more, ms, places, sentence, names_differ, depth_of ms big fits)

deep_value : (limit : ℕ) (outer : List Frame) (starts : List ℕ) (f : Frame) (t : Token) → length outer ≤ limit → value_step limit outer starts f t ≡ Err too_deep → (s : State) × (value_step (suc limit) outer starts f t ≡ Ok s)
deep_value limit outer starts f (word w) le e = absurd cc
deep_value limit outer starts f (number n) le e = absurd cc
deep_value limit outer starts f (string w) le e = absurd cc
deep_value limit outer starts f (sign b) le e = by_sign (eqb b 91) (eqb b 123) e where
  by_sign : (x y : Bool) → cond x (open_step limit outer starts f (at_item [])) (cond y (open_step limit outer starts f (at_name [])) (Err syntax)) ≡ Err too_deep
      → (s : State) × (cond x (open_step (suc limit) outer starts f (at_item [])) (cond y (open_step (suc limit) outer starts f (at_name [])) (Err syntax)) ≡ Ok s)
  by_sign true y e = open_deep limit outer starts f (at_item []) le e
  by_sign false true e = open_deep limit outer starts f (at_name []) le e
  by_sign false false e = absurd cc
deep_value limit outer starts f end le e = absurd cc
deep_value limit outer starts f bad le e = absurd cc

pub close_not_deep : (outer : List Frame) (starts : List ℕ) (v : Node) → close_step outer starts v ≡ Err too_deep → ⊥
close_not_deep [] starts v e = cc
close_not_deep (f ∷ outer) starts v e = cc

pub cond_not_deep : (b : Bool) (x y : Result State Fault) → (x ≡ Err too_deep → ⊥) → (y ≡ Err too_deep → ⊥) → cond b x y ≡ Err too_deep → ⊥
cond_not_deep true x y p q e = p e
cond_not_deep false x y p q e = q e

pub name_not_deep : (outer : List Frame) (starts : List ℕ) (fs : List (List ℕ × Node)) (at : ℕ) (t : Token) → name_step outer starts fs at t ≡ Err too_deep → ⊥
name_not_deep outer starts fs at (word k) e = cond_not_deep (has_name k fs) _ _ (λ h. cc) (λ h. cc) e
name_not_deep outer starts fs at (number n) e = cc
name_not_deep outer starts fs at (string w) e = cc
name_not_deep outer starts fs at (sign b) e = cond_not_deep (eqb b 125) _ _ (close_not_deep outer starts (fields_of fs)) (λ h. cc) e
name_not_deep [] starts fs at end e = cc
name_not_deep (f ∷ outer) starts fs at end e = cc
name_not_deep outer starts fs at bad e = cc

deep_step : (limit : ℕ) (s : State) (p : Placed) → length s.outer ≤ limit → step limit s p ≡ Err too_deep → (t : State) × (step (suc limit) s p ≡ Ok t)
unfolding step
deep_step limit s p le e = by_place s.outer s.starts s.place le e where
  by_item : (b : Bool) (outer : List Frame) (starts : List ℕ) (vs : List Node) → length outer ≤ limit → cond b (close_step outer starts (list_of vs)) (value_step limit outer starts (in_list vs) p.token) ≡ Err too_deep
      → (t : State) × (cond b (close_step outer starts (list_of vs)) (value_step (suc limit) outer starts (in_list vs) p.token) ≡ Ok t)
  by_item true outer starts vs le e = absurd (close_not_deep outer starts (list_of vs) e)
  by_item false outer starts vs le e = deep_value limit outer starts (in_list vs) p.token le e

  by_place : (outer : List Frame) (starts : List ℕ) (place : Place) → length outer ≤ limit → place_step limit outer starts place p.at p.token ≡ Err too_deep → (t : State) × (place_step (suc limit) outer starts place p.at p.token ≡ Ok t)
  by_place outer starts (at_name fs) le e = absurd (name_not_deep outer starts fs p.at p.token e)
  by_place outer starts (at_equals fs k) le e = absurd (cond_not_deep (is_sign_of 61 p.token) _ _ (λ h. cc) (λ h. cc) e)
  by_place outer starts (at_value fs k) le e = deep_value limit outer starts (in_fields fs k) p.token le e
  by_place outer starts (at_semicolon fs k v) le e = absurd (cond_not_deep (is_sign_of 59 p.token) _ _ (λ h. cc) (λ h. cc) e)
  by_place outer starts (at_item vs) le e = by_item (is_sign_of 93 p.token) outer starts vs le e
  by_place outer starts (at_comma vs) le e = absurd (cond_not_deep (is_sign_of 44 p.token) _ _ (λ h. cc) (λ h. cond_not_deep (is_sign_of 93 p.token) _ _ (close_not_deep outer starts (list_of vs)) (λ g. cc) h) e)
  by_place outer starts (done fs) le e = absurd cc

-- one level more helps
pub too_deep_goes_on : (limit : ℕ) (front : List Placed) (s : State) (p : Placed) → run limit (Ok start) front ≡ Ok s → step limit s p ≡ Err too_deep → GoesOn (suc limit) (front ++ p ∷ [])
too_deep_goes_on limit front s p e stopped =
    let reached = run_reaches limit start front s (tt, omega arith) e in
    let deep = deep_step limit s p reached.1 stopped in
    taken_goes_on (suc limit) (front ++ p ∷ []) deep.0 (run_one (suc limit) front s p (Ok deep.0) (run_more limit (suc limit) start front s (omega arith) e) deep.1)

pub stopped_at : (limit : ℕ) (front : List Placed) (s : State) (p : Placed) (f : Fault) → run limit (Ok start) front ≡ Ok s → step limit s p ≡ Err f → GoesOn limit (front ++ p ∷ []) → ⊥
stopped_at limit front s p f e stopped = stopped_ends limit (front ++ p ∷ []) f (run_one limit front s p (Err f) e stopped)
