-- What is in the grammar is read.
use Rattle.std.proofs.Common.{◌≡◌, ◌≢◌, ℕ, suc, ◌+◌, ◌-◌, ◌<◌, inl, inr, false, length, arith, List, [], ◌∷◌, ◌++◌, Result, refl, ap, ◌∙◌, append_assoc}
use Rattle.std.specs.Str.{bytes_eq}
use Rattle.std.proofs.lemmas.Slice.Eq.{bytes_eq-Decides}
use Rattle.std.proofs.lemmas.Bool.Decides.{nat_tests}
use Rattle.std.proofs.lemmas.List.{append-nil}
use Rattle.std.proofs.lemmas.Bool.{or_parts}
use Rattle.ae_text.specs.Tree.{Node, list, fields, Items, no_items, item, Members, no_members, member}
use Rattle.ae_text.specs.Tree as tree
use Rattle.ae_text.specs.Token.{Token, word, number, string, sign, Placed}
use Rattle.ae_text.specs.WellFormed.{LacksName}
use Rattle.ae_text.proofs.Shaped.{IsShaped, AreShaped, FieldsAreShaped}
use Rattle.ae_text.specs.Grammar.{IsValue, AreItems, AreMoreItems, AreFields, IsSentence}
use Rattle.ae_text.specs.View.{items_of, members_of}
use Rattle.ae_text.specs.Pushdown.{Frame, in_list, in_fields, Place, at_name, at_equals, at_value, at_semicolon, at_item, at_comma, done, State, Fault, moved, deliver, fields_of, list_of, has_name, noted, value_step, open_step, is_sign_of, step, run}

-- the place of what waits for a value
abbrev pub waits : Frame → Place
waits (in_list vs) = at_item vs
waits (in_fields fs k) = at_value fs k

abbrev pub items_list : Items → List Node
items_list no_items = []
items_list (item j js) = j ∷ items_list js

abbrev pub members_list : Members → List (List ℕ × Node)
members_list no_members = []
members_list (member k j ms) = (k, j) ∷ members_list ms

pub items_list-back : (js : Items) → items_of (items_list js) ≡ js
items_list-back no_items = refl
items_list-back (item j js) = ap (item j) (items_list-back js)

pub members_list-back : (ms : Members) → members_of (members_list ms) ≡ ms
members_list-back no_members = refl
members_list-back (member k j ms) = ap (member k j) (members_list-back ms)

-- a token that does not end a list begins a value
pub waits-step : (limit : ℕ) (outer : List Frame) (starts : List ℕ) (f : Frame) (p : Placed) → is_sign_of 93 p.token ≡ false
    → step limit (record { outer = outer; place = waits f; starts = starts }) p ≡ value_step limit outer starts f p.token
unfolding step
waits-step limit outer starts (in_list vs) p e = rw e refl
waits-step limit outer starts (in_fields fs k) p e = refl

pub opened : (limit : ℕ) (outer : List Frame) (starts : List ℕ) (f : Frame) (place : Place) → length outer < limit
    → open_step limit outer starts f place ≡ moved (f ∷ outer) starts place
opened limit outer starts f place lt = grind (arith, nat_tests)

-- the tokens go from one state to another, whatever follows
abbrev pub Goes : ℕ → List Frame → List ℕ → Place → List Placed → List Frame → List ℕ → Place → List Placed → Type 0
Goes limit outer starts place ps outer' starts' place' rest = run limit (moved outer starts place) ps ≡ run limit (moved outer' starts' place') rest

pub goes_one : (limit : ℕ) (outer : List Frame) (starts : List ℕ) (place : Place) (p : Placed) (r : Result State Fault) (rest : List Placed)
    → step limit (record { outer = outer; place = place; starts = starts }) p ≡ r → run limit (moved outer starts place) (p ∷ rest) ≡ run limit r rest
unfolding run
goes_one limit outer starts place p r rest e = ap (λ (x : Result State Fault). run limit x rest) e

-- the name, the `=` and the `;` of a field, whose value is read
pub field_goes : (limit : ℕ) (outer : List Frame) (starts : List ℕ) (fs : List (List ℕ × Node)) (k : List ℕ) (j : Node) (name equals semicolon : Placed) (value rest : List Placed)
    → name.token ≡ word k → equals.token ≡ sign 61 → semicolon.token ≡ sign 59 → has_name k fs ≡ false
    → Goes limit outer (noted outer starts name.at) (at_value fs k) (value ++ semicolon ∷ rest) outer (noted outer starts name.at) (at_semicolon fs k j) (semicolon ∷ rest)
    → Goes limit outer starts (at_name fs) (name ∷ equals ∷ (value ++ semicolon ∷ rest)) outer (noted outer starts name.at) (at_name (fs ++ (k, j) ∷ [])) rest
unfolding step
field_goes limit outer starts fs k j name equals semicolon value rest ek ee es fresh inside =
    let starts' = noted outer starts name.at in
    goes_one limit outer starts (at_name fs) name (moved outer starts' (at_equals fs k)) (equals ∷ (value ++ semicolon ∷ rest)) (rw (ek, fresh) refl)
    ∙ goes_one limit outer starts' (at_equals fs k) equals (moved outer starts' (at_value fs k)) (value ++ semicolon ∷ rest) (rw ee refl)
    ∙ inside
    ∙ goes_one limit outer starts' (at_semicolon fs k j) semicolon (moved outer starts' (at_name (fs ++ (k, j) ∷ []))) rest (rw es refl)

-- no member has a name of the fields before it
abbrev pub Fresh : List (List ℕ × Node) → Members → Type 0
Fresh fs no_members = Unit {0}
Fresh fs (member k j ms) = (has_name k fs ≡ false) × Fresh fs ms

different : (h k : List ℕ) → h ≢ k → bytes_eq h k ≡ false
different h k ne = grind (arith, bytes_eq-Decides h k)

has_name-push : (k : List ℕ) (fs : List (List ℕ × Node)) (h : List ℕ) (j : Node) → has_name k fs ≡ false → h ≢ k → has_name k (fs ++ (h, j) ∷ []) ≡ false
has_name-push k [] h j none ne = rw (different h k ne) refl
has_name-push k (f ∷ fs) h j none ne =
    let parts : (bytes_eq f.0 k ≡ false) × (has_name k fs ≡ false) = or_parts _ _ none in
    rw (parts.0, has_name-push k fs h j parts.1 ne) refl

pub Fresh-push : (fs : List (List ℕ × Node)) (h : List ℕ) (j : Node) (ms : Members) → Fresh fs ms → LacksName h ms → Fresh (fs ++ (h, j) ∷ []) ms
Fresh-push fs h j no_members fresh lacks = tt
Fresh-push fs h j (member k i ms) fresh lacks = (has_name-push k fs h j fresh.0 lacks.0, Fresh-push fs h j ms fresh.1 lacks.1)

pub Fresh-nil : (ms : Members) → Fresh [] ms
Fresh-nil no_members = tt
Fresh-nil (member k j ms) = (refl, Fresh-nil ms)

-- the sign that closes a list
list_closes : (limit : ℕ) (outer : List Frame) (starts : List ℕ) (f : Frame) (vs : List Node) (c : Placed) (rest : List Placed) → c.token ≡ sign 93
    → Goes limit (f ∷ outer) starts (at_item vs) (c ∷ rest) outer starts (deliver (list_of vs) f) rest
unfolding step
list_closes limit outer starts f vs c rest e = goes_one limit (f ∷ outer) starts (at_item vs) c (moved outer starts (deliver (list_of vs) f)) rest (rw e refl)

list_closes_behind : (limit : ℕ) (outer : List Frame) (starts : List ℕ) (f : Frame) (vs : List Node) (c : Placed) (rest : List Placed) → c.token ≡ sign 93
    → Goes limit (f ∷ outer) starts (at_comma vs) (c ∷ rest) outer starts (deliver (list_of vs) f) rest
unfolding step
list_closes_behind limit outer starts f vs c rest e = goes_one limit (f ∷ outer) starts (at_comma vs) c (moved outer starts (deliver (list_of vs) f)) rest (rw e refl)

comma_goes : (limit : ℕ) (outer : List Frame) (starts : List ℕ) (vs : List Node) (c : Placed) (rest : List Placed) → c.token ≡ sign 44
    → Goes limit outer starts (at_comma vs) (c ∷ rest) outer starts (at_item vs) rest
unfolding step
comma_goes limit outer starts vs c rest e = goes_one limit outer starts (at_comma vs) c (moved outer starts (at_item vs)) rest (rw e refl)

fields_close : (limit : ℕ) (outer : List Frame) (starts : List ℕ) (f : Frame) (fs : List (List ℕ × Node)) (c : Placed) (rest : List Placed) → c.token ≡ sign 125
    → Goes limit (f ∷ outer) starts (at_name fs) (c ∷ rest) outer starts (deliver (fields_of fs) f) rest
unfolding step
fields_close limit outer starts f fs c rest e = goes_one limit (f ∷ outer) starts (at_name fs) c (moved outer starts (deliver (fields_of fs) f)) rest (rw e refl)

-- a value of one token, or the sign that opens a list or a structure
begins : (limit : ℕ) (outer : List Frame) (starts : List ℕ) (f : Frame) (p : Placed) (t : Token) (r : Result State Fault) (rest : List Placed)
    → p.token ≡ t → is_sign_of 93 t ≡ false → value_step limit outer starts f t ≡ r → run limit (moved outer starts (waits f)) (p ∷ rest) ≡ run limit r rest
begins limit outer starts f p t r rest e no_end is =
    goes_one limit outer starts (waits f) p r rest (waits-step limit outer starts f p (ap (is_sign_of 93) e ∙ no_end) ∙ ap (value_step limit outer starts f) e ∙ is)

with_rest : (a b : List Placed) (c : Placed) (rest : List Placed) → (a ++ b) ++ c ∷ rest ≡ a ++ (b ++ c ∷ rest)
with_rest a b c rest = append_assoc a b (c ∷ rest)

mutual
  pub value_goes : (v : Node) (limit depth : ℕ) (outer : List Frame) (starts : List ℕ) (f : Frame) (ps rest : List Placed) → IsValue ps v → IsShaped depth v → length outer + depth ≡ limit
      → Goes limit outer starts (waits f) (ps ++ rest) outer starts (deliver v f) rest
  value_goes (tree.word w) limit depth outer starts f ps rest h shaped deep = rw h.1 (begins limit outer starts f h.0 (word w) _ rest h.2 refl refl)
  value_goes (tree.number n) limit depth outer starts f ps rest h shaped deep = rw h.1 (begins limit outer starts f h.0 (number n) _ rest h.2 refl refl)
  value_goes (tree.str s) limit depth outer starts f ps rest h shaped deep = rw h.1 (begins limit outer starts f h.0 (string s) _ rest h.2 refl refl)
  value_goes (list js) limit depth outer starts f ps rest (o, inner, c, e, eo, ec, hs) shaped deep =
      rw (e, append_assoc inner (c ∷ []) rest)
      (begins limit outer starts f o (sign 91) _ (inner ++ c ∷ rest) eo refl (opened limit outer starts f (at_item []) (omega arith))
      ∙ items_go js limit (depth - 1) outer starts f [] inner c rest hs shaped.1 ec (omega arith)
      ∙ ap (λ (xs : Items). run limit (moved outer starts (deliver (list xs) f)) rest) (items_list-back js))
  value_goes (fields ms) limit depth outer starts f ps rest (o, inner, c, e, eo, ec, hs) shaped deep =
      rw (e, append_assoc inner (c ∷ []) rest)
      (begins limit outer starts f o (sign 123) _ (inner ++ c ∷ rest) eo refl (opened limit outer starts f (at_name []) (omega arith))
      ∙ fields_go ms limit (depth - 1) outer starts f [] inner (c ∷ rest) hs shaped.1 (Fresh-nil ms) (omega arith)
      ∙ fields_close limit outer starts f (members_list ms) c rest ec
      ∙ ap (λ (m : Members). run limit (moved outer starts (deliver (fields m) f)) rest) (members_list-back ms))

  items_go : (js : Items) (limit depth : ℕ) (outer : List Frame) (starts : List ℕ) (f : Frame) (vs : List Node) (ps : List Placed) (c : Placed) (rest : List Placed)
      → AreItems ps js → AreShaped depth js → c.token ≡ sign 93 → length outer + suc depth ≡ limit
      → Goes limit (f ∷ outer) starts (at_item vs) (ps ++ c ∷ rest) outer starts (deliver (list (items_of (vs ++ items_list js))) f) rest
  items_go no_items limit depth outer starts f vs ps c rest h shaped ec deep =
      rw (h, append-nil vs) (list_closes limit outer starts f vs c rest ec)
  items_go (item j js) limit depth outer starts f vs ps c rest (first, later, e, hv, hm) shaped ec deep =
      rw (e, with_rest first later c rest)
      (value_goes j limit depth (f ∷ outer) starts (in_list vs) first (later ++ c ∷ rest) hv shaped.0 (omega arith)
      ∙ more_go js limit depth outer starts f (vs ++ j ∷ []) later c rest hm shaped.1 ec deep
      ∙ ap (λ (xs : List Node). run limit (moved outer starts (deliver (list (items_of xs)) f)) rest) (append_assoc vs (j ∷ []) (items_list js)))

  more_go : (js : Items) (limit depth : ℕ) (outer : List Frame) (starts : List ℕ) (f : Frame) (vs : List Node) (ps : List Placed) (c : Placed) (rest : List Placed)
      → AreMoreItems ps js → AreShaped depth js → c.token ≡ sign 93 → length outer + suc depth ≡ limit
      → Goes limit (f ∷ outer) starts (at_comma vs) (ps ++ c ∷ rest) outer starts (deliver (list (items_of (vs ++ items_list js))) f) rest
  more_go no_items limit depth outer starts f vs ps c rest (inl e) shaped ec deep =
      rw (e, append-nil vs) (list_closes_behind limit outer starts f vs c rest ec)
  more_go no_items limit depth outer starts f vs ps c rest (inr h) shaped ec deep =
      rw (h.1, append-nil vs) (comma_goes limit (f ∷ outer) starts vs h.0 (c ∷ rest) h.2 ∙ list_closes limit outer starts f vs c rest ec)
  more_go (item j js) limit depth outer starts f vs ps c rest (comma, first, later, e, ek, hv, hm) shaped ec deep =
      rw (e, with_rest first later c rest)
      (comma_goes limit (f ∷ outer) starts vs comma (first ++ (later ++ c ∷ rest)) ek
      ∙ value_goes j limit depth (f ∷ outer) starts (in_list vs) first (later ++ c ∷ rest) hv shaped.0 (omega arith)
      ∙ more_go js limit depth outer starts f (vs ++ j ∷ []) later c rest hm shaped.1 ec deep
      ∙ ap (λ (xs : List Node). run limit (moved outer starts (deliver (list (items_of xs)) f)) rest) (append_assoc vs (j ∷ []) (items_list js)))

  fields_go : (ms : Members) (limit depth : ℕ) (outer : List Frame) (starts : List ℕ) (f : Frame) (fs : List (List ℕ × Node)) (ps rest : List Placed)
      → AreFields ps ms → FieldsAreShaped depth ms → Fresh fs ms → length outer + suc depth ≡ limit
      → Goes limit (f ∷ outer) starts (at_name fs) (ps ++ rest) (f ∷ outer) starts (at_name (fs ++ members_list ms)) rest
  fields_go no_members limit depth outer starts f fs ps rest h shaped fresh deep = rw (h, append-nil fs) refl
  fields_go (member k j ms) limit depth outer starts f fs ps rest (name, equals, value, semicolon, later, e, ek, ee, es, hv, hm) shaped fresh deep =
      rw (e, append_assoc value (semicolon ∷ later) rest)
      (field_goes limit (f ∷ outer) starts fs k j name equals semicolon value (later ++ rest) ek ee es fresh.0
      (value_goes j limit depth (f ∷ outer) starts (in_fields fs k) value (semicolon ∷ (later ++ rest)) hv shaped.1 (omega arith))
      ∙ fields_go ms limit depth outer starts f (fs ++ (k, j) ∷ []) later rest hm shaped.2 (Fresh-push fs k j ms fresh.1 shaped.0) deep
      ∙ ap (λ (xs : List (List ℕ × Node)). run limit (moved (f ∷ outer) starts (at_name xs)) rest) (append_assoc fs ((k, j) ∷ []) (members_list ms)))

-- a whole text
pub sentence_goes : (ms : Members) (limit : ℕ) (starts : List ℕ) (fs : List (List ℕ × Node)) (ps : List Placed) (places : List ℕ) → IsSentence ps ms places → FieldsAreShaped limit ms → Fresh fs ms
    → run limit (moved [] starts (at_name fs)) ps ≡ moved [] (starts ++ places) (done (fs ++ members_list ms))
unfolding step run
sentence_goes no_members limit starts fs ps [] h shaped fresh =
    rw (h.1, append-nil fs, append-nil starts) (goes_one limit [] starts (at_name fs) h.0 (moved [] starts (done fs)) [] (rw h.2 refl))
sentence_goes no_members limit starts fs ps (at ∷ places) h shaped fresh = absurd h
sentence_goes (member k j ms) limit starts fs ps [] h shaped fresh = absurd h
sentence_goes (member k j ms) limit starts fs ps (at ∷ places) (name, equals, value, semicolon, later, e, ek, ee, es, hv, ea, hm) shaped fresh =
    rw e
    (field_goes limit [] starts fs k j name equals semicolon value later ek ee es fresh.0
    (value_goes j limit limit [] (starts ++ name.at ∷ []) (in_fields fs k) value (semicolon ∷ later) hv shaped.1 (omega arith))
    ∙ sentence_goes ms limit (starts ++ name.at ∷ []) (fs ++ (k, j) ∷ []) later places hm shaped.2 (Fresh-push fs k j ms fresh.1 shaped.0)
    ∙ ap (λ (xs : List (List ℕ × Node)). moved [] ((starts ++ name.at ∷ []) ++ places) (done xs)) (append_assoc fs ((k, j) ∷ []) (members_list ms))
    ∙ ap (λ (xs : List ℕ). moved [] xs (done (fs ++ (k, j) ∷ members_list ms))) (append_assoc starts (name.at ∷ []) places ∙ ap (λ (x : ℕ). starts ++ x ∷ places) ea))
