-- What is read is in the grammar.
use Rattle.std.proofs.Common.{◌≡◌, ◌≢◌, ℕ, zero, suc, ◌+◌, ◌-◌, ◌<◌, ◌⊎◌, inl, inr, Bool, true, false, cond, eqb, ltb, length, arith, List, [], ◌∷◌, ◌++◌, Result, Ok, Err, refl, sym, ap, subst, ◌∙◌, append_assoc}
use Rattle.std.specs.Str.{bytes_eq}
use Rattle.std.proofs.lemmas.Slice.Eq.{bytes_eq-Decides}
use Rattle.std.proofs.lemmas.Bool.{eqb-true, ltb-true, or_parts}
use Rattle.std.proofs.lemmas.List.{append-nil}
use Rattle.ae_text.specs.Tree.{Node, list, fields, Items, no_items, item, Members, no_members, member}
use Rattle.ae_text.specs.Tree as tree
use Rattle.ae_text.specs.Token.{Token, word, number, string, sign, end, bad, Placed}
use Rattle.ae_text.specs.WellFormed.{LacksName}
use Rattle.ae_text.proofs.Shaped.{IsShaped, AreShaped, FieldsAreShaped}
use Rattle.ae_text.specs.Grammar.{IsValue, AreItems, AreMoreItems, AreFields, IsSentence}
use Rattle.ae_text.specs.View.{items_of, members_of}
use Rattle.ae_text.specs.Pushdown.{Frame, in_list, in_fields, Place, at_name, at_equals, at_value, at_semicolon, at_item, at_comma, done, State, Fault, syntax, too_deep, moved, deliver, fields_of, list_of, has_name, noted, value_step, open_step, close_step, name_step, item_step, comma_step, is_sign_of, step, run}
use Rattle.ae_text.proofs.Complete.{items_list, members_list, items_list-back, members_list-back, Fresh}

pub run-err : (limit : ℕ) (e : Fault) (ps : List Placed) → run limit (Err e) ps ≡ Err e
unfolding run
run-err limit e [] = refl
run-err limit e (p ∷ ps) = run-err limit e ps

-- the tokens lead to the end of the text
abbrev pub Ends : ℕ → List Frame → List ℕ → Place → List Placed → State → Type 0
Ends limit outer starts place ps last = run limit (moved outer starts place) ps ≡ Ok last

abbrev pub IsDone : State → Type 0
IsDone s = (fs : List (List ℕ × Node)) × (s.place ≡ done fs)

-- one token leads on
pub ends_one : (limit : ℕ) (outer : List Frame) (starts : List ℕ) (place : Place) (p : Placed) (ps : List Placed) (last : State) → Ends limit outer starts place (p ∷ ps) last
    → (s : State) × (step limit (record { outer = outer; place = place; starts = starts }) p ≡ Ok s) × (run limit (Ok s) ps ≡ Ok last)
unfolding run
ends_one limit outer starts place p ps last e = went_on limit (step limit (record { outer = outer; place = place; starts = starts }) p) ps last e where
  went_on : (limit : ℕ) (r : Result State Fault) (ps : List Placed) (last : State) → run limit r ps ≡ Ok last → (s : State) × (r ≡ Ok s) × (run limit (Ok s) ps ≡ Ok last)
  went_on limit (Ok s) ps last e = (s, refl, e)
  went_on limit (Err f) ps last e = absurd (let never : Err f ≡ Ok last = sym (run-err limit f ps) ∙ e in cc)

abbrev pub IsPlainValue : Token → Node → Type 0
IsPlainValue (word w) v = v ≡ tree.word w
IsPlainValue (number n) v = v ≡ tree.number n
IsPlainValue (string s) v = v ≡ tree.str s
IsPlainValue (sign b) v = ⊥
IsPlainValue end v = ⊥
IsPlainValue bad v = ⊥

-- what a value's first token can be
abbrev pub Opens : ℕ → List Frame → List ℕ → Frame → Token → State → Type 0
Opens limit outer starts f t s =
    ((v : Node) × IsPlainValue t v × (s ≡ record { outer = outer; place = deliver v f; starts = starts }))
    ⊎ (((t ≡ sign 91) × (length outer < limit) × (s ≡ record { outer = f ∷ outer; place = at_item []; starts = starts }))
    ⊎ ((t ≡ sign 123) × (length outer < limit) × (s ≡ record { outer = f ∷ outer; place = at_name []; starts = starts })))

opens : (limit : ℕ) (outer : List Frame) (starts : List ℕ) (f : Frame) (place : Place) (s : State) → open_step limit outer starts f place ≡ Ok s
    → (length outer < limit) × (s ≡ record { outer = f ∷ outer; place = place; starts = starts })
opens limit outer starts f place s e = guarded (ltb (length outer) limit) refl e where
  guarded : (b : Bool) → ltb (length outer) limit ≡ b → cond b (moved (f ∷ outer) starts place) (Err too_deep) ≡ Ok s → (length outer < limit) × (s ≡ record { outer = f ∷ outer; place = place; starts = starts })
  guarded true h e = (ltb-true _ _ h, cc)
  guarded false h e = absurd cc

pub value_opens : (limit : ℕ) (outer : List Frame) (starts : List ℕ) (f : Frame) (t : Token) (s : State) → value_step limit outer starts f t ≡ Ok s → Opens limit outer starts f t s
value_opens limit outer starts f (word w) s e = inl (tree.word w, refl, cc)
value_opens limit outer starts f (number n) s e = inl (tree.number n, refl, cc)
value_opens limit outer starts f (string w) s e = inl (tree.str w, refl, cc)
value_opens limit outer starts f (sign b) s e = by_sign (eqb b 91) (eqb b 123) refl refl e where
  by_sign : (x y : Bool) → eqb b 91 ≡ x → eqb b 123 ≡ y → cond x (open_step limit outer starts f (at_item [])) (cond y (open_step limit outer starts f (at_name [])) (Err syntax)) ≡ Ok s → Opens limit outer starts f (sign b) s
  by_sign true y hx hy e = inr (inl (ap sign (eqb-true b 91 hx), (opens limit outer starts f (at_item []) s e).0, (opens limit outer starts f (at_item []) s e).1))
  by_sign false true hx hy e = inr (inr (ap sign (eqb-true b 123 hy), (opens limit outer starts f (at_name []) s e).0, (opens limit outer starts f (at_name []) s e).1))
  by_sign false false hx hy e = absurd cc
value_opens limit outer starts f end s e = absurd cc
value_opens limit outer starts f bad s e = absurd cc

-- ---- what the other places take

sign_is : (b : ℕ) (t : Token) → is_sign_of b t ≡ true → t ≡ sign b
sign_is b (word w) e = absurd cc
sign_is b (number n) e = absurd cc
sign_is b (string w) e = absurd cc
sign_is b (sign c) e = ap sign (eqb-true c b e)
sign_is b end e = absurd cc
sign_is b bad e = absurd cc

-- a step that asks for one sign
pub needs_sign : (b : ℕ) (t : Token) (r : Result State Fault) (s : State) → cond (is_sign_of b t) r (Err syntax) ≡ Ok s → (t ≡ sign b) × (r ≡ Ok s)
needs_sign b t r s e = chosen (is_sign_of b t) refl e where
  chosen : (x : Bool) → is_sign_of b t ≡ x → cond x r (Err syntax) ≡ Ok s → (t ≡ sign b) × (r ≡ Ok s)
  chosen true h e = (sign_is b t h, e)
  chosen false h e = absurd cc

pub is_moved : (outer : List Frame) (starts : List ℕ) (place : Place) (s : State) → moved outer starts place ≡ Ok s → s ≡ record { outer = outer; place = place; starts = starts }
is_moved outer starts place s e = cc

-- in a structure, or in the text
abbrev pub Names : List Frame → List ℕ → List (List ℕ × Node) → Placed → State → Type 0
Names outer starts fs p s =
    ((k : List ℕ) × (p.token ≡ word k) × (has_name k fs ≡ false) × (s ≡ record { outer = outer; place = at_equals fs k; starts = noted outer starts p.at }))
    ⊎ (((p.token ≡ sign 125) × (f : Frame) × (rest : List Frame) × (outer ≡ f ∷ rest) × (s ≡ record { outer = rest; place = deliver (fields_of fs) f; starts = starts }))
    ⊎ ((p.token ≡ end) × (outer ≡ []) × (s ≡ record { outer = []; place = done fs; starts = starts })))

closes : (outer : List Frame) (starts : List ℕ) (v : Node) (s : State) → close_step outer starts v ≡ Ok s → (f : Frame) × (rest : List Frame) × (outer ≡ f ∷ rest) × (s ≡ record { outer = rest; place = deliver v f; starts = starts })
closes [] starts v s e = absurd cc
closes (f ∷ rest) starts v s e = (f, rest, refl, cc)

pub names : (outer : List Frame) (starts : List ℕ) (fs : List (List ℕ × Node)) (at : ℕ) (t : Token) (s : State) → name_step outer starts fs at t ≡ Ok s → Names outer starts fs (record { at = at; token = t }) s
names outer starts fs at (word k) s e = by_name (has_name k fs) refl e where
  by_name : (x : Bool) → has_name k fs ≡ x → cond x (Err syntax) (moved outer (noted outer starts at) (at_equals fs k)) ≡ Ok s → Names outer starts fs (record { at = at; token = word k }) s
  by_name true h e = absurd cc
  by_name false h e = inl (k, refl, h, cc)
names outer starts fs at (number n) s e = absurd cc
names outer starts fs at (string w) s e = absurd cc
names outer starts fs at (sign b) s e = by_sign (eqb b 125) refl e where
  by_sign : (x : Bool) → eqb b 125 ≡ x → cond x (close_step outer starts (fields_of fs)) (Err syntax) ≡ Ok s → Names outer starts fs (record { at = at; token = sign b }) s
  by_sign true h e = let c = closes outer starts (fields_of fs) s e in inr (inl (ap sign (eqb-true b 125 h), c.0, c.1, c.2, c.3))
  by_sign false h e = absurd cc
names [] starts fs at end s e = inr (inr (refl, refl, cc))
names (f ∷ outer) starts fs at end s e = absurd cc
names outer starts fs at bad s e = absurd cc

-- in a list, where a value may stand
abbrev pub Lists : ℕ → List Frame → List ℕ → List Node → Token → State → Type 0
Lists limit outer starts vs t s =
    ((t ≡ sign 93) × (f : Frame) × (rest : List Frame) × (outer ≡ f ∷ rest) × (s ≡ record { outer = rest; place = deliver (list_of vs) f; starts = starts }))
    ⊎ ((is_sign_of 93 t ≡ false) × (value_step limit outer starts (in_list vs) t ≡ Ok s))

pub lists : (limit : ℕ) (outer : List Frame) (starts : List ℕ) (vs : List Node) (t : Token) (s : State) → item_step limit outer starts vs t ≡ Ok s → Lists limit outer starts vs t s
lists limit outer starts vs t s e = chosen (is_sign_of 93 t) refl e where
  chosen : (x : Bool) → is_sign_of 93 t ≡ x → cond x (close_step outer starts (list_of vs)) (value_step limit outer starts (in_list vs) t) ≡ Ok s → Lists limit outer starts vs t s
  chosen true h e = let c = closes outer starts (list_of vs) s e in inl (sign_is 93 t h, c.0, c.1, c.2, c.3)
  chosen false h e = inr (h, e)

-- after a value in a list
abbrev pub Commas : List Frame → List ℕ → List Node → Token → State → Type 0
Commas outer starts vs t s =
    ((t ≡ sign 44) × (s ≡ record { outer = outer; place = at_item vs; starts = starts }))
    ⊎ ((t ≡ sign 93) × (f : Frame) × (rest : List Frame) × (outer ≡ f ∷ rest) × (s ≡ record { outer = rest; place = deliver (list_of vs) f; starts = starts }))

pub commas : (outer : List Frame) (starts : List ℕ) (vs : List Node) (t : Token) (s : State) → comma_step outer starts vs t ≡ Ok s → Commas outer starts vs t s
commas outer starts vs t s e = chosen (is_sign_of 44 t) refl e where
  chosen : (x : Bool) → is_sign_of 44 t ≡ x → cond x (moved outer starts (at_item vs)) (cond (is_sign_of 93 t) (close_step outer starts (list_of vs)) (Err syntax)) ≡ Ok s → Commas outer starts vs t s
  chosen true h e = inl (sign_is 44 t h, cc)
  chosen false h e =
      let n = needs_sign 93 t (close_step outer starts (list_of vs)) s e in
      let c = closes outer starts (list_of vs) s n.1 in
      inr (n.0, c.0, c.1, c.2, c.3)

-- ---- names that came before

has_name-pull : (k : List ℕ) (fs : List (List ℕ × Node)) (h : List ℕ) (j : Node) → has_name k (fs ++ (h, j) ∷ []) ≡ false → (has_name k fs ≡ false) × (h ≢ k)
has_name-pull k [] h j e = (refl, λ same. differ (or_parts _ _ e).0 same) where
  differ : bytes_eq h k ≡ false → h ≡ k → ⊥
  differ unequal same = grind (arith, bytes_eq-Decides h k)
has_name-pull k (f ∷ fs) h j e =
    let parts : (bytes_eq f.0 k ≡ false) × (has_name k (fs ++ (h, j) ∷ []) ≡ false) = or_parts _ _ e in
    let rest = has_name-pull k fs h j parts.1 in
    (rw (parts.0, rest.0) refl, rest.1)

Fresh-pull : (fs : List (List ℕ × Node)) (h : List ℕ) (j : Node) (ms : Members) → Fresh (fs ++ (h, j) ∷ []) ms → Fresh fs ms × LacksName h ms
Fresh-pull fs h j no_members fresh = (tt, tt)
Fresh-pull fs h j (member k i ms) fresh =
    let first = has_name-pull k fs h j fresh.0 in
    let rest = Fresh-pull fs h j ms fresh.1 in
    ((first.0, rest.0), (first.1, rest.1))

-- ---- the tokens up to the end of the text

-- what is left ends the text
abbrev pub Left : ℕ → List Frame → List ℕ → Place → List Placed → List Placed → State → Type 0
Left limit outer starts place rest ps last = Ends limit outer starts place rest last × (length rest < length ps)

abbrev pub ValueFound : ℕ → ℕ → List Frame → List ℕ → Frame → List Placed → State → Type 0
ValueFound limit depth outer starts f ps last =
    (v : Node) × (value : List Placed) × (rest : List Placed) × (ps ≡ value ++ rest) × IsValue value v × IsShaped depth v × Left limit outer starts (deliver v f) rest ps last

abbrev pub ItemsFound : ℕ → ℕ → List Frame → List ℕ → Frame → List Node → List Placed → State → Type 0
ItemsFound limit depth outer starts f vs ps last =
    (js : Items) × (inner : List Placed) × (c : Placed) × (rest : List Placed) × (ps ≡ inner ++ c ∷ rest) × (c.token ≡ sign 93) × AreItems inner js × AreShaped depth js
    × Left limit outer starts (deliver (list (items_of (vs ++ items_list js))) f) rest ps last

abbrev pub MoreFound : ℕ → ℕ → List Frame → List ℕ → Frame → List Node → List Placed → State → Type 0
MoreFound limit depth outer starts f vs ps last =
    (js : Items) × (inner : List Placed) × (c : Placed) × (rest : List Placed) × (ps ≡ inner ++ c ∷ rest) × (c.token ≡ sign 93) × AreMoreItems inner js × AreShaped depth js
    × Left limit outer starts (deliver (list (items_of (vs ++ items_list js))) f) rest ps last

abbrev pub FieldsFound : ℕ → ℕ → List Frame → List ℕ → Frame → List (List ℕ × Node) → List Placed → State → Type 0
FieldsFound limit depth outer starts f fs ps last =
    (ms : Members) × (inner : List Placed) × (c : Placed) × (rest : List Placed) × (ps ≡ inner ++ c ∷ rest) × (c.token ≡ sign 125) × AreFields inner ms × FieldsAreShaped depth ms
    × Fresh fs ms × Left limit outer starts (deliver (fields (members_of (fs ++ members_list ms))) f) rest ps last

-- all this, of fewer than n tokens
pub record Found (limit : ℕ) (last : State) (n : ℕ) : Type 0 where
  pub value : (depth : ℕ) (outer : List Frame) (starts : List ℕ) (f : Frame) (p : Placed) (ps : List Placed) → length (p ∷ ps) < n → length outer + depth ≡ limit
      → (s : State) → value_step limit outer starts f p.token ≡ Ok s → run limit (Ok s) ps ≡ Ok last → ValueFound limit depth outer starts f (p ∷ ps) last
  pub items : (depth : ℕ) (outer : List Frame) (starts : List ℕ) (f : Frame) (vs : List Node) (ps : List Placed) → length ps < n → length outer + suc depth ≡ limit
      → Ends limit (f ∷ outer) starts (at_item vs) ps last → ItemsFound limit depth outer starts f vs ps last
  pub more : (depth : ℕ) (outer : List Frame) (starts : List ℕ) (f : Frame) (vs : List Node) (ps : List Placed) → length ps < n → length outer + suc depth ≡ limit
      → Ends limit (f ∷ outer) starts (at_comma vs) ps last → MoreFound limit depth outer starts f vs ps last
  pub fields : (depth : ℕ) (outer : List Frame) (starts : List ℕ) (f : Frame) (fs : List (List ℕ × Node)) (ps : List Placed) → length ps < n → length outer + suc depth ≡ limit
      → Ends limit (f ∷ outer) starts (at_name fs) ps last → FieldsFound limit depth outer starts f fs ps last

not_at_end : (limit : ℕ) (last : State) (outer : List Frame) (starts : List ℕ) (place : Place) → Ends limit outer starts place [] last → last ≡ record { outer = outer; place = place; starts = starts }
unfolding run
not_at_end limit last outer starts place e = cc

module _ (limit : ℕ) (last : State) (is_done : IsDone last) (n : ℕ) (found : Found limit last n) where
  value_next : (depth : ℕ) (outer : List Frame) (starts : List ℕ) (f : Frame) (p : Placed) (ps : List Placed) → length (p ∷ ps) < suc n → length outer + depth ≡ limit
      → (s : State) → value_step limit outer starts f p.token ≡ Ok s → run limit (Ok s) ps ≡ Ok last → ValueFound limit depth outer starts f (p ∷ ps) last
  value_next depth outer starts f p ps short deep s e ends =
      elim (value_opens limit outer starts f p.token s e) [
        | inl h ↦ (h.0, p ∷ [], ps, refl, plain p h.0 h.1, shaped depth p.token h.0 h.1, (rw h.2 at ends, omega arith))
        | inr (inl h) ↦
            let lt : length outer < limit = h.1 in
            let inside : Ends limit (f ∷ outer) starts (at_item []) ps last = rw h.2 at ends in
            let i = found.items (depth - 1) outer starts f [] ps (omega arith) (omega arith) inside in
            let left : Ends limit outer starts (deliver (list i.0) f) i.3 last = subst (λ (js : Items). Ends limit outer starts (deliver (list js) f) i.3 last) (items_list-back i.0) i.8.0 in
            (list i.0, p ∷ (i.1 ++ i.2 ∷ []), i.3, ap (λ (xs : List Placed). p ∷ xs) (i.4 ∙ sym (append_assoc i.1 (i.2 ∷ []) i.3)), (p, i.1, i.2, refl, h.0, i.5, i.6), (omega arith, i.7), (left, omega (arith, i.8.1)))
        | inr (inr h) ↦
            let lt : length outer < limit = h.1 in
            let inside : Ends limit (f ∷ outer) starts (at_name []) ps last = rw h.2 at ends in
            let i = found.fields (depth - 1) outer starts f [] ps (omega arith) (omega arith) inside in
            let left : Ends limit outer starts (deliver (tree.fields i.0) f) i.3 last = subst (λ (ms : Members). Ends limit outer starts (deliver (tree.fields ms) f) i.3 last) (members_list-back i.0) i.9.0 in
            (tree.fields i.0, p ∷ (i.1 ++ i.2 ∷ []), i.3, ap (λ (xs : List Placed). p ∷ xs) (i.4 ∙ sym (append_assoc i.1 (i.2 ∷ []) i.3)), (p, i.1, i.2, refl, h.0, i.5, i.6), (omega arith, i.7), (left, omega (arith, i.9.1)))
      ] where
        plain : (p : Placed) (v : Node) → IsPlainValue p.token v → IsValue (p ∷ []) v
        plain p v h = of_token p p.token v refl h where
          of_token : (p : Placed) (t : Token) (v : Node) → p.token ≡ t → IsPlainValue t v → IsValue (p ∷ []) v
          of_token p (word w) v e h = subst (λ (x : Node). IsValue (p ∷ []) x) (sym h) (p, refl, e)
          of_token p (number k) v e h = subst (λ (x : Node). IsValue (p ∷ []) x) (sym h) (p, refl, e)
          of_token p (string w) v e h = subst (λ (x : Node). IsValue (p ∷ []) x) (sym h) (p, refl, e)
          of_token p (sign b) v e h = absurd h
          of_token p end v e h = absurd h
          of_token p bad v e h = absurd h

        shaped : (depth : ℕ) (t : Token) (v : Node) → IsPlainValue t v → IsShaped depth v
        shaped depth (word w) v h = subst (λ (x : Node). IsShaped depth x) (sym h) tt
        shaped depth (number k) v h = subst (λ (x : Node). IsShaped depth x) (sym h) tt
        shaped depth (string w) v h = subst (λ (x : Node). IsShaped depth x) (sym h) tt
        shaped depth (sign b) v h = absurd h
        shaped depth end v h = absurd h
        shaped depth bad v h = absurd h

  -- a first value, and those after it
  item_then : (depth : ℕ) (outer : List Frame) (starts : List ℕ) (f : Frame) (vs : List Node) (p : Placed) (ps : List Placed) → length (p ∷ ps) < suc n → length outer + suc depth ≡ limit
      → (s : State) → value_step limit (f ∷ outer) starts (in_list vs) p.token ≡ Ok s → run limit (Ok s) ps ≡ Ok last
      → (j : Node) × (js : Items) × (first : List Placed) × (later : List Placed) × (c : Placed) × (rest : List Placed) × (p ∷ ps ≡ (first ++ later) ++ c ∷ rest) × (c.token ≡ sign 93)
      × IsValue first j × AreMoreItems later js × IsShaped depth j × AreShaped depth js × Left limit outer starts (deliver (list (items_of (vs ++ j ∷ items_list js))) f) rest (p ∷ ps) last
  item_then depth outer starts f vs p ps short deep s e ends =
      let v = value_next depth (f ∷ outer) starts (in_list vs) p ps short (omega arith) s e ends in
      let m = found.more depth outer starts f (vs ++ v.0 ∷ []) v.2 (omega (arith, v.6.1)) deep v.6.0 in
      let left : Ends limit outer starts (deliver (list (items_of (vs ++ v.0 ∷ items_list m.0))) f) m.3 last =
      subst (λ (xs : List Node). Ends limit outer starts (deliver (list (items_of xs)) f) m.3 last) (append_assoc vs (v.0 ∷ []) (items_list m.0)) m.8.0 in
      let parts : p ∷ ps ≡ (v.1 ++ m.1) ++ m.2 ∷ m.3 = v.3 ∙ ap (λ (xs : List Placed). v.1 ++ xs) m.4 ∙ sym (append_assoc v.1 m.1 (m.2 ∷ m.3)) in
      (v.0, m.0, v.1, m.1, m.2, m.3, parts, m.5, v.4, m.6, v.5, m.7, (left, omega (arith, v.6.1, m.8.1)))

  items_next : (depth : ℕ) (outer : List Frame) (starts : List ℕ) (f : Frame) (vs : List Node) (ps : List Placed) → length ps < suc n → length outer + suc depth ≡ limit
      → Ends limit (f ∷ outer) starts (at_item vs) ps last → ItemsFound limit depth outer starts f vs ps last
  unfolding step
  items_next depth outer starts f vs [] short deep ends =
      let at : last ≡ record { outer = f ∷ outer; place = at_item vs; starts = starts } = not_at_end limit last (f ∷ outer) starts (at_item vs) ends in
      absurd (let never : done is_done.0 ≡ at_item vs = sym is_done.1 ∙ ap (λ (s : State). s.place) at in cc)
  items_next depth outer starts f vs (p ∷ ps) short deep ends =
      let o = ends_one limit (f ∷ outer) starts (at_item vs) p ps last ends in
      elim (lists limit (f ∷ outer) starts vs p.token o.0 o.1) [
        | inl h ↦
            let same : (f ≡ h.1) × (outer ≡ h.2) = (cc, cc) in
            let left : Ends limit outer starts (deliver (list_of vs) f) ps last = rw (same.0, same.1, ← h.4) o.2 in
            (no_items, [], p, ps, refl, h.0, refl, tt, (subst (λ (xs : List Node). Ends limit outer starts (deliver (list_of xs) f) ps last) (sym (append-nil vs)) left, omega arith))
        | inr h ↦
            let i = item_then depth outer starts f vs p ps short deep o.0 h.1 o.2 in
            (item i.0 i.1, i.2 ++ i.3, i.4, i.5, i.6, i.7, (i.2, i.3, refl, i.8, i.9), (i.10, i.11), i.12)
      ]

  more_next : (depth : ℕ) (outer : List Frame) (starts : List ℕ) (f : Frame) (vs : List Node) (ps : List Placed) → length ps < suc n → length outer + suc depth ≡ limit
      → Ends limit (f ∷ outer) starts (at_comma vs) ps last → MoreFound limit depth outer starts f vs ps last
  unfolding step
  more_next depth outer starts f vs [] short deep ends =
      let at : last ≡ record { outer = f ∷ outer; place = at_comma vs; starts = starts } = not_at_end limit last (f ∷ outer) starts (at_comma vs) ends in
      absurd (let never : done is_done.0 ≡ at_comma vs = sym is_done.1 ∙ ap (λ (s : State). s.place) at in cc)
  more_next depth outer starts f vs (p ∷ ps) short deep ends =
      let o = ends_one limit (f ∷ outer) starts (at_comma vs) p ps last ends in
      elim (commas (f ∷ outer) starts vs p.token o.0 o.1) [
        | inl h ↦ behind_comma depth outer starts f vs p ps short deep h.0 (rw h.1 at o.2)
        | inr h ↦
            let same : (f ≡ h.1) × (outer ≡ h.2) = (cc, cc) in
            let left : Ends limit outer starts (deliver (list_of vs) f) ps last = rw (same.0, same.1, ← h.4) o.2 in
            (no_items, [], p, ps, refl, h.0, inl refl, tt, (subst (λ (xs : List Node). Ends limit outer starts (deliver (list_of xs) f) ps last) (sym (append-nil vs)) left, omega arith))
      ] where
        behind_comma : (depth : ℕ) (outer : List Frame) (starts : List ℕ) (f : Frame) (vs : List Node) (p : Placed) (ps : List Placed) → length (p ∷ ps) < suc n → length outer + suc depth ≡ limit → p.token ≡ sign 44
            → Ends limit (f ∷ outer) starts (at_item vs) ps last → MoreFound limit depth outer starts f vs (p ∷ ps) last
        behind_comma depth outer starts f vs p ps short deep comma ends =
            let i = found.items depth outer starts f vs ps (omega arith) deep ends in
            by_items i.0 i.1 i.2 i.3 i.4 i.5 i.6 i.7 i.8.0 (omega (arith, i.8.1)) where
              by_items : (js : Items) (inner : List Placed) (c : Placed) (rest : List Placed) → ps ≡ inner ++ c ∷ rest → c.token ≡ sign 93 → AreItems inner js → AreShaped depth js
                  → Ends limit outer starts (deliver (list (items_of (vs ++ items_list js))) f) rest last → length rest < length (p ∷ ps) → MoreFound limit depth outer starts f vs (p ∷ ps) last
              by_items no_items inner c rest e ec h shaped ends less =
                  (no_items, p ∷ [], c, rest, ap (λ (xs : List Placed). p ∷ xs) (e ∙ ap (λ (xs : List Placed). xs ++ c ∷ rest) h), ec, inr (p, refl, comma), tt, (ends, less))
              by_items (item j js) inner c rest e ec h shaped ends less =
                  (item j js, p ∷ inner, c, rest, ap (λ (xs : List Placed). p ∷ xs) e, ec, (p, h.0, h.1, ap (λ (xs : List Placed). p ∷ xs) h.2, comma, h.3, h.4), shaped, (ends, less))

  -- a field, up to its `;`
  field_then : (depth : ℕ) (outer : List Frame) (starts : List ℕ) (fs : List (List ℕ × Node)) (k : List ℕ) (name : Placed) (ps : List Placed) → length ps < n → length outer + depth ≡ limit
      → Ends limit outer starts (at_equals fs k) ps last
      → (j : Node) × (equals : Placed) × (value : List Placed) × (semicolon : Placed) × (later : List Placed) × (name ∷ ps ≡ name ∷ equals ∷ (value ++ semicolon ∷ later))
      × (equals.token ≡ sign 61) × (semicolon.token ≡ sign 59) × IsValue value j × IsShaped depth j × Left limit outer starts (at_name (fs ++ (k, j) ∷ [])) later ps last
  unfolding step
  field_then depth outer starts fs k name [] short deep ends =
      let at = not_at_end limit last outer starts (at_equals fs k) ends in
      absurd (let never : done is_done.0 ≡ at_equals fs k = sym is_done.1 ∙ ap (λ (s : State). s.place) at in cc)
  field_then depth outer starts fs k name (equals ∷ ps) short deep ends =
      let o = ends_one limit outer starts (at_equals fs k) equals ps last ends in
      let g = needs_sign 61 equals.token (moved outer starts (at_value fs k)) o.0 (step_equals o.0 o.1) in
      let inside : Ends limit outer starts (at_value fs k) ps last = let at_once = is_moved outer starts (at_value fs k) o.0 g.1 in rw at_once at o.2 in
      with_value ps (omega arith) g.0 inside where
        step_equals : (s : State) → step limit (record { outer = outer; place = at_equals fs k; starts = starts }) equals ≡ Ok s → cond (is_sign_of 61 equals.token) (moved outer starts (at_value fs k)) (Err syntax) ≡ Ok s
        step_equals s e = e

        with_value : (ps : List Placed) → length (equals ∷ ps) < n → equals.token ≡ sign 61 → Ends limit outer starts (at_value fs k) ps last
            → (j : Node) × (equals' : Placed) × (value : List Placed) × (semicolon : Placed) × (later : List Placed) × (name ∷ equals ∷ ps ≡ name ∷ equals' ∷ (value ++ semicolon ∷ later))
            × (equals'.token ≡ sign 61) × (semicolon.token ≡ sign 59) × IsValue value j × IsShaped depth j × Left limit outer starts (at_name (fs ++ (k, j) ∷ [])) later (equals ∷ ps) last
        with_value [] short eq ends =
            let at = not_at_end limit last outer starts (at_value fs k) ends in
            absurd (let never : done is_done.0 ≡ at_value fs k = sym is_done.1 ∙ ap (λ (s : State). s.place) at in cc)
        with_value (p ∷ ps) short eq ends =
            let o = ends_one limit outer starts (at_value fs k) p ps last ends in
            let v = found.value depth outer starts (in_fields fs k) p ps (omega arith) deep o.0 (step_value o.0 o.1) o.2 in
            with_end v.0 v.1 v.2 v.3 v.4 v.5 v.6.0 (omega (arith, v.6.1)) where
              step_value : (s : State) → step limit (record { outer = outer; place = at_value fs k; starts = starts }) p ≡ Ok s → value_step limit outer starts (in_fields fs k) p.token ≡ Ok s
              step_value s e = e

              with_end : (j : Node) (value rest : List Placed) → p ∷ ps ≡ value ++ rest → IsValue value j → IsShaped depth j → Ends limit outer starts (at_semicolon fs k j) rest last → length rest < length (p ∷ ps)
                  → (j : Node) × (equals' : Placed) × (value : List Placed) × (semicolon : Placed) × (later : List Placed) × (name ∷ equals ∷ p ∷ ps ≡ name ∷ equals' ∷ (value ++ semicolon ∷ later))
                  × (equals'.token ≡ sign 61) × (semicolon.token ≡ sign 59) × IsValue value j × IsShaped depth j × Left limit outer starts (at_name (fs ++ (k, j) ∷ [])) later (equals ∷ p ∷ ps) last
              with_end j value [] e hv shaped ends less =
                  let at = not_at_end limit last outer starts (at_semicolon fs k j) ends in
                  absurd (let never : done is_done.0 ≡ at_semicolon fs k j = sym is_done.1 ∙ ap (λ (s : State). s.place) at in cc)
              with_end j value (semicolon ∷ later) e hv shaped ends less =
                  let o = ends_one limit outer starts (at_semicolon fs k j) semicolon later last ends in
                  let g = needs_sign 59 semicolon.token (moved outer starts (at_name (fs ++ (k, j) ∷ []))) o.0 (step_semicolon o.0 o.1) in
                  let left : Ends limit outer starts (at_name (fs ++ (k, j) ∷ [])) later last = let at_once = is_moved outer starts (at_name (fs ++ (k, j) ∷ [])) o.0 g.1 in rw at_once at o.2 in
                  (j, equals, value, semicolon, later, ap (λ (xs : List Placed). name ∷ equals ∷ xs) e, eq, g.0, hv, shaped, (left, omega arith)) where
                    step_semicolon : (s : State) → step limit (record { outer = outer; place = at_semicolon fs k j; starts = starts }) semicolon ≡ Ok s
                        → cond (is_sign_of 59 semicolon.token) (moved outer starts (at_name (fs ++ (k, j) ∷ []))) (Err syntax) ≡ Ok s
                    step_semicolon s e = e

  fields_next : (depth : ℕ) (outer : List Frame) (starts : List ℕ) (f : Frame) (fs : List (List ℕ × Node)) (ps : List Placed) → length ps < suc n → length outer + suc depth ≡ limit
      → Ends limit (f ∷ outer) starts (at_name fs) ps last → FieldsFound limit depth outer starts f fs ps last
  unfolding step
  fields_next depth outer starts f fs [] short deep ends =
      let at = not_at_end limit last (f ∷ outer) starts (at_name fs) ends in
      absurd (let never : done is_done.0 ≡ at_name fs = sym is_done.1 ∙ ap (λ (s : State). s.place) at in cc)
  fields_next depth outer starts f fs (p ∷ ps) short deep ends =
      let o = ends_one limit (f ∷ outer) starts (at_name fs) p ps last ends in
      elim (names (f ∷ outer) starts fs p.at p.token o.0 o.1) [
        | inl h ↦
            let inside : Ends limit (f ∷ outer) starts (at_equals fs h.0) ps last = rw h.3 at o.2 in
            let one = field_then depth (f ∷ outer) starts fs h.0 p ps (omega arith) (omega arith) inside in
            let others = found.fields depth outer starts f (fs ++ (h.0, one.0) ∷ []) one.4 (omega (arith, one.10.1)) deep one.10.0 in
            let left : Ends limit outer starts (deliver (fields (members_of (fs ++ (h.0, one.0) ∷ members_list others.0))) f) others.3 last =
            subst (λ (xs : List (List ℕ × Node)). Ends limit outer starts (deliver (fields (members_of xs)) f) others.3 last) (append_assoc fs ((h.0, one.0) ∷ []) (members_list others.0)) others.9.0 in
            let apart = Fresh-pull fs h.0 one.0 others.0 others.8 in (
              member h.0 one.0 others.0,
              p ∷ one.1 ∷ (one.2 ++ one.3 ∷ others.1),
              others.2,
              others.3,
              one.5 ∙ ap (λ (xs : List Placed). p ∷ one.1 ∷ (one.2 ++ one.3 ∷ xs)) others.4 ∙ ap (λ (xs : List Placed). p ∷ one.1 ∷ xs) (sym (append_assoc one.2 (one.3 ∷ others.1) (others.2 ∷ others.3))),
              others.5,
              (p, one.1, one.2, one.3, others.1, refl, h.1, one.6, one.7, one.8, others.6),
              (apart.1, one.9, others.7),
              (h.2, apart.0),
              (left, omega (arith, one.10.1, others.9.1)),
            )
        | inr (inl h) ↦
            let same : (f ≡ h.1) × (outer ≡ h.2) = (cc, cc) in
            let left : Ends limit outer starts (deliver (fields_of fs) f) ps last = rw (same.0, same.1, ← h.4) o.2 in
            (no_members, [], p, ps, refl, h.0, refl, tt, tt, (subst (λ (xs : List (List ℕ × Node)). Ends limit outer starts (deliver (fields_of xs) f) ps last) (sym (append-nil fs)) left, omega arith))
        | inr (inr h) ↦ absurd (let never : f ∷ outer ≡ [] = h.1 in cc)
      ]

found_none : (limit : ℕ) (last : State) → Found limit last zero
found_none limit last = record {
  value = λ depth outer starts f p ps short deep s e ends. absurd (omega arith);
  items = λ depth outer starts f vs ps short deep ends. absurd (omega arith);
  more = λ depth outer starts f vs ps short deep ends. absurd (omega arith);
  fields = λ depth outer starts f fs ps short deep ends. absurd (omega arith);
}

pub found_all : (limit : ℕ) (last : State) → IsDone last → (n : ℕ) → Found limit last n
found_all limit last is_done zero = found_none limit last
found_all limit last is_done (suc n) = record {
  value = value_next limit last is_done n (found_all limit last is_done n);
  items = items_next limit last is_done n (found_all limit last is_done n);
  more = more_next limit last is_done n (found_all limit last is_done n);
  fields = fields_next limit last is_done n (found_all limit last is_done n);
}

-- a whole text
pub sentence_found : (limit : ℕ) (fuel : ℕ) (last : State) (starts : List ℕ) (fs : List (List ℕ × Node)) (ps : List Placed) → IsDone last → length ps < fuel → Ends limit [] starts (at_name fs) ps last
    → (ms : Members) × (places : List ℕ) × IsSentence ps ms places × FieldsAreShaped limit ms × Fresh fs ms × (last ≡ record { outer = []; place = done (fs ++ members_list ms); starts = starts ++ places })
unfolding step run
sentence_found limit zero last starts fs ps is_done short ends = absurd (omega arith)
sentence_found limit (suc fuel) last starts fs [] is_done short ends =
    let at = not_at_end limit last [] starts (at_name fs) ends in
    absurd (let never : done is_done.0 ≡ at_name fs = sym is_done.1 ∙ ap (λ (s : State). s.place) at in cc)
sentence_found limit (suc fuel) last starts fs (p ∷ ps) is_done short ends =
    let o = ends_one limit [] starts (at_name fs) p ps last ends in
    elim (names [] starts fs p.at p.token o.0 o.1) [
      | inl h ↦
          let inside : Ends limit [] (starts ++ p.at ∷ []) (at_equals fs h.0) ps last = rw h.3 at o.2 in
          let one = field_then limit last is_done (length (p ∷ ps)) (found_all limit last is_done (length (p ∷ ps))) limit [] (starts ++ p.at ∷ []) fs h.0 p ps (omega arith) (omega arith) inside in
          let others = sentence_found limit fuel last (starts ++ p.at ∷ []) (fs ++ (h.0, one.0) ∷ []) one.4 is_done (omega (arith, one.10.1)) one.10.0 in
          let apart = Fresh-pull fs h.0 one.0 others.0 others.4 in (
            member h.0 one.0 others.0,
            p.at ∷ others.1,
            (p, one.1, one.2, one.3, one.4, one.5, h.1, one.6, one.7, one.8, refl, others.2),
            (apart.1, one.9, others.3),
            (h.2, apart.0),
            others.5 ∙ ap (λ (xs : List (List ℕ × Node)). record { outer = []; place = done xs; starts = (starts ++ p.at ∷ []) ++ others.1 }) (append_assoc fs ((h.0, one.0) ∷ []) (members_list others.0))
                ∙ ap (λ (xs : List ℕ). record { outer = []; place = done (fs ++ (h.0, one.0) ∷ members_list others.0); starts = xs }) (append_assoc starts (p.at ∷ []) others.1),
          )
      | inr (inl h) ↦ absurd (let never : [] ≡ h.1 ∷ h.2 = h.3 in cc)
      | inr (inr h) ↦ ended ps h.0 (rw h.2 at o.2)
    ] where
      ended : (rest : List Placed) → p.token ≡ end → Ends limit [] starts (done fs) rest last
          → (ms : Members) × (places : List ℕ) × IsSentence (p ∷ rest) ms places × FieldsAreShaped limit ms × Fresh fs ms × (last ≡ record { outer = []; place = done (fs ++ members_list ms); starts = starts ++ places })
      ended [] h ends = (
        no_members,
        [],
        (p, refl, h),
        tt,
        tt,
        not_at_end limit last [] starts (done fs) ends ∙ ap (λ (xs : List (List ℕ × Node)). record { outer = []; place = done xs; starts = starts }) (sym (append-nil fs))
            ∙ ap (λ (xs : List ℕ). record { outer = []; place = done (fs ++ []); starts = xs }) (sym (append-nil starts)),
      )
      ended (q ∷ rest) h ends = absurd (let never : Err syntax ≡ Ok last = sym (run-err limit syntax rest) ∙ ends in cc)
