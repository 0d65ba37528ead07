-- The canonical text is in the grammar.
use Rattle.std.proofs.Common.{◌≡◌, ◌≢◌, ℕ, ◌+◌, ◌-◌, ◌*◌, ◌/◌, ◌%◌, ◌^◌, ◌<◌, inl, Bool, true, false, cond, eqb, leb, ◌&&◌, length, arith, List, [], ◌∷◌, ◌++◌, refl, sym, ap, subst, ◌∙◌, append_assoc, map, flat_map}
use Rattle.std.specs.Fmt.{decimal}
use Rattle.std.proofs.lemmas.Fmt.{decimal_by_steps}
use Rattle.std.proofs.lemmas.Bool.{eqb-true, eqb-false}
use Rattle.std.proofs.lemmas.Bool.Decides.{nat_tests}
use Rattle.std.proofs.lemmas.List.Concat.{flat_map-cons}
use Rattle.ae_text.specs.Tree.{Node, list, fields, Items, no_items, item, Members, no_members, member}
use Rattle.ae_text.specs.Tree as tree
use Rattle.ae_text.specs.Token.{word, number, string, sign, end, is_sign, Placed, Begins, IsGap, none, blank, stops, all_digits, IsPiece, plain, line_end, tab, quote, backslash, octal, ArePieces}
use Rattle.ae_base.specs.Names.{is_digit}
use Rattle.ae_text.specs.Canonical.{piece, quoted, field_text, value_text, items_text, spaced_fields_text, fields_text, text}
use Rattle.ae_text.specs.WellFormed.{is_word, HasGoodWords, ItemsHaveGoodWords, MembersHaveGoodWords, MembersHaveDistinctNames, MembersFitDepth, max_depth, IsWellFormed}
use Rattle.ae_text.specs.Printing.{FitsTypes, ItemsFitTypes, MembersFitTypes}
use Rattle.ae_base.specs.Bytes.{AreBytes}
use Rattle.ae_text.specs.Grammar.{IsValue, AreItems, AreMoreItems, AreFields, IsSentence, ReadsFields, Reads, line_of}
use Rattle.ae_text.proofs.Pieces.{value_from}

-- ---- words, numbers and strings in one

abbrev mutual
  IsSpellable : Node → Type 0
  IsSpellable (tree.word w) = is_word w ≡ true
  IsSpellable (tree.number n) = n < 2 ^ 64
  IsSpellable (tree.str s) = AreBytes s
  IsSpellable (list js) = AreSpellable js
  IsSpellable (fields ms) = FieldsAreSpellable ms

  AreSpellable : Items → Type 0
  AreSpellable no_items = Unit {0}
  AreSpellable (item j js) = IsSpellable j × AreSpellable js

  FieldsAreSpellable : Members → Type 0
  FieldsAreSpellable no_members = Unit {0}
  FieldsAreSpellable (member k j ms) = (is_word k ≡ true) × IsSpellable j × FieldsAreSpellable ms

mutual
  spellable : (v : Node) → HasGoodWords v → FitsTypes v → IsSpellable v
  spellable (tree.word w) h g = h
  spellable (tree.number n) h g = g
  spellable (tree.str s) h g = g
  spellable (list js) h g = items_spellable js h g
  spellable (fields ms) h g = fields_spellable ms h g

  items_spellable : (js : Items) → ItemsHaveGoodWords js → ItemsFitTypes js → AreSpellable js
  items_spellable no_items h g = tt
  items_spellable (item j js) h g = (spellable j h.0 g.0, items_spellable js h.1 g.1)

  fields_spellable : (ms : Members) → MembersHaveGoodWords ms → MembersFitTypes ms → FieldsAreSpellable ms
  fields_spellable no_members h g = tt
  fields_spellable (member k j ms) h g = (h.0, spellable j h.1 g.0, fields_spellable ms h.2 g.1)

-- ---- numbers

abbrev IsNumeralOf : ℕ → List ℕ → Type 0
IsNumeralOf n ds = (ds ≢ []) × (all_digits ds ≡ true) × (value_from 0 ds ≡ n)

digit_of : (d : ℕ) → d < 10 → is_digit (48 + d) ≡ true
digit_of d lt = grind (arith, nat_tests)

all_digits-push : (ds : List ℕ) (b : ℕ) → all_digits ds ≡ true → is_digit b ≡ true → all_digits (ds ++ b ∷ []) ≡ true
all_digits-push [] b e h = rw h refl
all_digits-push (d ∷ ds) b e h = let p = parts (is_digit d) (all_digits ds) e in rw (p.0, all_digits-push ds b p.1 h) refl where
  parts : (x y : Bool) → (x && y) ≡ true → (x ≡ true) × (y ≡ true)
  parts true y e = (refl, e)
  parts false y e = absurd cc

value-push : (a : ℕ) (ds : List ℕ) (b : ℕ) → value_from a (ds ++ b ∷ []) ≡ 10 * value_from a ds + (b - 48)
value-push a [] b = refl
value-push a (d ∷ ds) b = value-push (10 * a + (d - 48)) ds b

some_pushed : (ds : List ℕ) (b : ℕ) → ds ++ b ∷ [] ≢ []
some_pushed [] b e = cc
some_pushed (d ∷ ds) b e = cc

numeral : (n : ℕ) → n < 2 ^ 64 → IsNumeralOf n (decimal n)
numeral = decimal_by_steps IsNumeralOf
    (λ n lt. ((λ e. cc), rw (digit_of n lt) refl, omega arith))
    (λ n ds le h. (some_pushed ds (48 + n % 10), all_digits-push ds (48 + n % 10) h.1 (digit_of (n % 10) (omega arith)), value-push 0 ds (48 + n % 10) ∙ omega (arith, h.2)))

-- ---- strings

piece_is : (b : ℕ) → b < 256 → IsPiece (piece b) b
unfolding piece
piece_is b lt = by_test (eqb b 10) (eqb b 9) (eqb b 34) (eqb b 92) (leb 32 b && leb b 126) refl refl refl refl where
  octals : IsPiece (92 ∷ (48 + b / 64) ∷ (48 + b / 8 % 8) ∷ (48 + b % 8) ∷ []) b
  octals = octal (omega arith, omega arith) (omega arith, omega arith) (omega arith, omega arith) (omega arith) lt

  by_test : (p q r s t : Bool) → eqb b 10 ≡ p → eqb b 9 ≡ q → eqb b 34 ≡ r → eqb b 92 ≡ s
      → IsPiece (cond p (92 ∷ 110 ∷ []) (cond q (92 ∷ 116 ∷ []) (cond r (92 ∷ 34 ∷ []) (cond s (92 ∷ 92 ∷ []) (cond t (b ∷ []) (92 ∷ (48 + b / 64) ∷ (48 + b / 8 % 8) ∷ (48 + b % 8) ∷ [])))))) b
  by_test true q r s t hp hq hr hs = subst (λ (x : ℕ). IsPiece (92 ∷ 110 ∷ []) x) (sym (eqb-true b 10 hp)) line_end
  by_test false true r s t hp hq hr hs = subst (λ (x : ℕ). IsPiece (92 ∷ 116 ∷ []) x) (sym (eqb-true b 9 hq)) tab
  by_test false false true s t hp hq hr hs = subst (λ (x : ℕ). IsPiece (92 ∷ 34 ∷ []) x) (sym (eqb-true b 34 hr)) quote
  by_test false false false true t hp hq hr hs = subst (λ (x : ℕ). IsPiece (92 ∷ 92 ∷ []) x) (sym (eqb-true b 92 hs)) backslash
  by_test false false false false true hp hq hr hs = plain (eqb-false b 34 hr, eqb-false b 92 hs)
  by_test false false false false false hp hq hr hs = octals

pieces_are : (s : List ℕ) → AreBytes s → ArePieces (flat_map piece s) s
pieces_are [] h = refl
pieces_are (b ∷ s) h = (piece b, flat_map piece s, flat_map-cons piece b s, piece_is b h.0, pieces_are s h.1)

-- ---- tokens in a row: `rest` makes those after, wherever they begin

abbrev After : (List Placed → Type 0) → List ℕ → Type 0
After Q after = (from : ℕ) → (qs : List Placed) × Q qs × Begins from after qs

abbrev Whole : (List Placed → Type 0) → (List Placed → Type 0) → ℕ → List ℕ → Type 0
Whole P Q from bytes = (ps : List Placed) × (qs : List Placed) × P ps × Q qs × Begins from bytes (ps ++ qs)

space : IsGap (32 ∷ [])
space = blank refl none

-- one sign and what follows it
abbrev Signed : ℕ → (List Placed → Type 0) → List Placed → Type 0
Signed b Q ps = (p : Placed) × (qs : List Placed) × (ps ≡ p ∷ qs) × (p.token ≡ sign b) × Q qs

signed : (b : ℕ) (Q : List Placed → Type 0) (gap after : List ℕ) → IsGap gap → is_sign b ≡ true → After Q after → After (Signed b Q) (gap ++ b ∷ after)
signed b Q gap after g h rest from =
    let c = rest ((from + length gap) + 1) in
    (record { at = from + length gap; token = sign b } ∷ c.0, (record { at = from + length gap; token = sign b }, c.0, refl, refl, c.1), (gap, b ∷ [], after, refl, g, refl, (refl, h), c.2))

more_stops : (js : Items) (after : List ℕ) → stops after ≡ true → stops (items_text (44 ∷ 32 ∷ []) js ++ after) ≡ true
more_stops no_items after stop = stop
more_stops (item j js) after stop = refl

pub field_row : (k v rest : List ℕ) → field_text k v ++ rest ≡ k ++ 32 ∷ 61 ∷ 32 ∷ (v ++ 59 ∷ rest)
field_row k v rest = append_assoc k (32 ∷ 61 ∷ 32 ∷ (v ++ 59 ∷ [])) rest ∙ ap (λ (xs : List ℕ). k ++ 32 ∷ 61 ∷ 32 ∷ xs) (append_assoc v (59 ∷ []) rest)

-- the name and the `=` of a field, in front of its value
named : (k : List ℕ) (gap tail : List ℕ) (Q : List Placed → Type 0) → is_word k ≡ true → IsGap gap → After Q (32 ∷ tail) → (from : ℕ)
    → (name : Placed) × (equals : Placed) × (qs : List Placed) × (name.token ≡ word k) × (equals.token ≡ sign 61) × (name.at ≡ from + length gap) × Q qs
    × Begins from (gap ++ (k ++ 32 ∷ 61 ∷ 32 ∷ tail)) (name ∷ equals ∷ qs)
named k gap tail Q h g rest from =
    let name : Placed = record { at = from + length gap; token = word k } in
    let e = signed 61 Q (32 ∷ []) (32 ∷ tail) space refl rest ((from + length gap) + length k) in
    let row : e.0 ≡ e.1.0 ∷ e.1.1 = e.1.2 in (
      name,
      e.1.0,
      e.1.1,
      refl,
      e.1.3,
      refl,
      e.1.4,
      (gap, k, 32 ∷ 61 ∷ 32 ∷ tail, refl, g, refl, (refl, h, refl), subst (λ (xs : List Placed). Begins ((from + length gap) + length k) (32 ∷ 61 ∷ 32 ∷ tail) xs) row e.2),
    )

mutual
  value_begins : (v : Node) → IsSpellable v → (gap : List ℕ) → IsGap gap → (after : List ℕ) → stops after ≡ true → (Q : List Placed → Type 0) → After Q after → (from : ℕ)
      → Whole (λ ps. IsValue ps v) Q from (gap ++ (value_text v ++ after))
  value_begins (tree.word w) h gap g after stop Q rest from =
      let p : Placed = record { at = from + length gap; token = word w } in
      let c = rest ((from + length gap) + length w) in
      (p ∷ [], c.0, (p, refl, refl), c.1, (gap, w, after, refl, g, refl, (refl, h, stop), c.2))
  value_begins (tree.number n) h gap g after stop Q rest from =
      let p : Placed = record { at = from + length gap; token = number n } in
      let c = rest ((from + length gap) + length (decimal n)) in
      let d = numeral n h in
      (p ∷ [], c.0, (p, refl, refl), c.1, (gap, decimal n, after, refl, g, refl, ((d.0, d.1), d.2, h, stop), c.2))
  value_begins (tree.str s) h gap g after stop Q rest from =
      let p : Placed = record { at = from + length gap; token = string s } in
      let c = rest ((from + length gap) + length (quoted s)) in
      (p ∷ [], c.0, (p, refl, refl), c.1, (gap, quoted s, after, refl, g, refl, (flat_map piece s, refl, pieces_are s h), c.2))
  value_begins (list js) h gap g after stop Q rest from =
      let o : Placed = record { at = from + length gap; token = sign 91 } in
      let i = items_begin js h (93 ∷ after) refl (Signed 93 Q) (signed 93 Q [] after none refl rest) ((from + length gap) + 1) in
      let close = i.3 in
      let text : items_text [] js ++ 93 ∷ after ≡ (items_text [] js ++ 93 ∷ []) ++ after = sym (append_assoc (items_text [] js) (93 ∷ []) after) in
      let row : o ∷ (i.0 ++ i.1) ≡ (o ∷ (i.0 ++ close.0 ∷ [])) ++ close.1 = ap (λ (xs : List Placed). o ∷ xs) (ap (λ (xs : List Placed). i.0 ++ xs) close.2 ∙ sym (append_assoc i.0 (close.0 ∷ []) close.1)) in (
        o ∷ (i.0 ++ close.0 ∷ []),
        close.1,
        (o, i.0, close.0, refl, refl, close.3, i.2),
        close.4,
        subst (λ (xs : List Placed). Begins from (gap ++ (91 ∷ ((items_text [] js ++ 93 ∷ []) ++ after))) xs) row
            (gap, 91 ∷ [], (items_text [] js ++ 93 ∷ []) ++ after, refl, g, refl, (refl, refl), subst (λ (xs : List ℕ). Begins ((from + length gap) + 1) xs (i.0 ++ i.1)) text i.4),
      )
  value_begins (fields ms) h gap g after stop Q rest from =
      let o : Placed = record { at = from + length gap; token = sign 123 } in
      let i = spaced_begin ms h (32 ∷ 125 ∷ after) (Signed 125 Q) (signed 125 Q (32 ∷ []) after space refl rest) ((from + length gap) + 1) in
      let close = i.3 in
      let text : spaced_fields_text ms ++ 32 ∷ 125 ∷ after ≡ (spaced_fields_text ms ++ 32 ∷ 125 ∷ []) ++ after = sym (append_assoc (spaced_fields_text ms) (32 ∷ 125 ∷ []) after) in
      let row : o ∷ (i.0 ++ i.1) ≡ (o ∷ (i.0 ++ close.0 ∷ [])) ++ close.1 = ap (λ (xs : List Placed). o ∷ xs) (ap (λ (xs : List Placed). i.0 ++ xs) close.2 ∙ sym (append_assoc i.0 (close.0 ∷ []) close.1)) in (
        o ∷ (i.0 ++ close.0 ∷ []),
        close.1,
        (o, i.0, close.0, refl, refl, close.3, i.2),
        close.4,
        subst (λ (xs : List Placed). Begins from (gap ++ (123 ∷ ((spaced_fields_text ms ++ 32 ∷ 125 ∷ []) ++ after))) xs) row
            (gap, 123 ∷ [], (spaced_fields_text ms ++ 32 ∷ 125 ∷ []) ++ after, refl, g, refl, (refl, refl), subst (λ (xs : List ℕ). Begins ((from + length gap) + 1) xs (i.0 ++ i.1)) text i.4),
      )

  items_begin : (js : Items) → AreSpellable js → (after : List ℕ) → stops after ≡ true → (Q : List Placed → Type 0) → After Q after → (from : ℕ) → Whole (λ ps. AreItems ps js) Q from (items_text [] js ++ after)
  items_begin no_items h after stop Q rest from = let c = rest from in ([], c.0, refl, c.1, c.2)
  items_begin (item j js) h after stop Q rest from =
      let more = λ (k : ℕ). more_begin js h.1 after stop Q rest k in
      let v = value_begins j h.0 [] none (items_text (44 ∷ 32 ∷ []) js ++ after) (more_stops js after stop) (λ ps. (a : List Placed) × (b : List Placed) × (ps ≡ a ++ b) × AreMoreItems a js × Q b)
      (λ k. ((more k).0 ++ (more k).1, ((more k).0, (more k).1, refl, (more k).2, (more k).3), (more k).4)) from in
      let text : value_text j ++ (items_text (44 ∷ 32 ∷ []) js ++ after) ≡ (value_text j ++ items_text (44 ∷ 32 ∷ []) js) ++ after = sym (append_assoc (value_text j) (items_text (44 ∷ 32 ∷ []) js) after) in
      let row : v.0 ++ v.1 ≡ (v.0 ++ v.3.0) ++ v.3.1 = ap (λ (xs : List Placed). v.0 ++ xs) v.3.2 ∙ sym (append_assoc v.0 v.3.0 v.3.1) in (
        v.0 ++ v.3.0,
        v.3.1,
        (v.0, v.3.0, refl, v.2, v.3.3),
        v.3.4,
        subst (λ (xs : List Placed). Begins from ((value_text j ++ items_text (44 ∷ 32 ∷ []) js) ++ after) xs) row (subst (λ (xs : List ℕ). Begins from xs (v.0 ++ v.1)) text v.4),
      )

  more_begin : (js : Items) → AreSpellable js → (after : List ℕ) → stops after ≡ true → (Q : List Placed → Type 0) → After Q after → (from : ℕ)
      → Whole (λ ps. AreMoreItems ps js) Q from (items_text (44 ∷ 32 ∷ []) js ++ after)
  more_begin no_items h after stop Q rest from = let c = rest from in ([], c.0, inl refl, c.1, c.2)
  more_begin (item j js) h after stop Q rest from =
      let comma : Placed = record { at = from + 0; token = sign 44 } in
      let more = λ (k : ℕ). more_begin js h.1 after stop Q rest k in
      let v = value_begins j h.0 (32 ∷ []) space (items_text (44 ∷ 32 ∷ []) js ++ after) (more_stops js after stop) (λ ps. (a : List Placed) × (b : List Placed) × (ps ≡ a ++ b) × AreMoreItems a js × Q b)
      (λ k. ((more k).0 ++ (more k).1, ((more k).0, (more k).1, refl, (more k).2, (more k).3), (more k).4)) ((from + 0) + 1) in
      let text : 32 ∷ (value_text j ++ (items_text (44 ∷ 32 ∷ []) js ++ after)) ≡ 32 ∷ ((value_text j ++ items_text (44 ∷ 32 ∷ []) js) ++ after) =
      ap (λ (xs : List ℕ). 32 ∷ xs) (sym (append_assoc (value_text j) (items_text (44 ∷ 32 ∷ []) js) after)) in
      let row : comma ∷ (v.0 ++ v.1) ≡ (comma ∷ (v.0 ++ v.3.0)) ++ v.3.1 = ap (λ (xs : List Placed). comma ∷ xs) (ap (λ (xs : List Placed). v.0 ++ xs) v.3.2 ∙ sym (append_assoc v.0 v.3.0 v.3.1)) in (
        comma ∷ (v.0 ++ v.3.0),
        v.3.1,
        (comma, v.0, v.3.0, refl, refl, v.2, v.3.3),
        v.3.4,
        subst (λ (xs : List Placed). Begins from (44 ∷ 32 ∷ ((value_text j ++ items_text (44 ∷ 32 ∷ []) js) ++ after)) xs) row
            ([], 44 ∷ [], 32 ∷ ((value_text j ++ items_text (44 ∷ 32 ∷ []) js) ++ after), refl, none, refl, (refl, refl), subst (λ (xs : List ℕ). Begins ((from + 0) + 1) xs (v.0 ++ v.1)) text v.4),
      )

  spaced_begin : (ms : Members) → FieldsAreSpellable ms → (after : List ℕ) → (Q : List Placed → Type 0) → After Q after → (from : ℕ) → Whole (λ ps. AreFields ps ms) Q from (spaced_fields_text ms ++ after)
  spaced_begin no_members h after Q rest from = let c = rest from in ([], c.0, refl, c.1, c.2)
  spaced_begin (member k j ms) h after Q rest from =
      let others = λ (n : ℕ). spaced_begin ms h.2 after Q rest n in
      let Q1 : List Placed → Type 0 = λ ps. (a : List Placed) × (b : List Placed) × (ps ≡ a ++ b) × AreFields a ms × Q b in
      let after1 : After Q1 (spaced_fields_text ms ++ after) = λ n. ((others n).0 ++ (others n).1, ((others n).0, (others n).1, refl, (others n).2, (others n).3), (others n).4) in
      let tail : List ℕ = value_text j ++ 59 ∷ (spaced_fields_text ms ++ after) in
      let Q2 : List Placed → Type 0 = λ ps. (a : List Placed) × (b : List Placed) × (ps ≡ a ++ b) × IsValue a j × Signed 59 Q1 b in
      let after2 : After Q2 (32 ∷ tail) = λ n.
      let v = value_begins j h.1 (32 ∷ []) space (59 ∷ (spaced_fields_text ms ++ after)) refl (Signed 59 Q1) (signed 59 Q1 [] (spaced_fields_text ms ++ after) none refl after1) n in
      (v.0 ++ v.1, (v.0, v.1, refl, v.2, v.3), v.4) in
      let f = named k (32 ∷ []) tail Q2 h.0 space after2 from in
      let v = f.6 in
      let s = v.4 in
      let o = s.4 in
      let row : f.0 ∷ f.1 ∷ f.2 ≡ (f.0 ∷ f.1 ∷ (v.0 ++ s.0 ∷ o.0)) ++ o.1 =
      ap (λ (xs : List Placed). f.0 ∷ f.1 ∷ xs) (v.2 ∙ ap (λ (xs : List Placed). v.0 ++ xs) (s.2 ∙ ap (λ (xs : List Placed). s.0 ∷ xs) o.2) ∙ sym (append_assoc v.0 (s.0 ∷ o.0) o.1)) in
      let text : 32 ∷ (k ++ 32 ∷ 61 ∷ 32 ∷ tail) ≡ spaced_fields_text (member k j ms) ++ after = ap (λ (xs : List ℕ). 32 ∷ xs) (sym (append_assoc (field_text k (value_text j)) (spaced_fields_text ms) after ∙ field_row k (value_text j) (spaced_fields_text ms ++ after))) in (
        f.0 ∷ f.1 ∷ (v.0 ++ s.0 ∷ o.0),
        o.1,
        (f.0, f.1, v.0, s.0, o.0, refl, f.3, f.4, s.3, v.3, o.3),
        o.4,
        subst (λ (xs : List Placed). Begins from (spaced_fields_text (member k j ms) ++ after) xs) row (subst (λ (xs : List ℕ). Begins from xs (f.0 ∷ f.1 ∷ f.2)) text f.7),
      )

-- the fields of a text, each on a line
text_begins : (ms : Members) → FieldsAreSpellable ms → (gap : List ℕ) → IsGap gap → (from : ℕ) → (ps : List Placed) × (places : List ℕ) × IsSentence ps ms places × Begins from (gap ++ fields_text ms) ps
text_begins no_members h gap g from =
    let last : Placed = record { at = from + length gap; token = end } in
    (last ∷ [], [], (last, refl, refl), (gap, [], [], refl, g, refl, (refl, refl), tt))
text_begins (member k j ms) h gap g from =
    let Q1 : List Placed → Type 0 = λ ps. (places : List ℕ) × IsSentence ps ms places in
    let after1 : After Q1 (10 ∷ fields_text ms) = λ n. let o = text_begins ms h.2 (10 ∷ []) (blank refl none) n in (o.0, (o.1, o.2), o.3) in
    let tail : List ℕ = value_text j ++ 59 ∷ 10 ∷ fields_text ms in
    let Q2 : List Placed → Type 0 = λ ps. (a : List Placed) × (b : List Placed) × (ps ≡ a ++ b) × IsValue a j × Signed 59 Q1 b in
    let after2 : After Q2 (32 ∷ tail) = λ n.
    let v = value_begins j h.1 (32 ∷ []) space (59 ∷ 10 ∷ fields_text ms) refl (Signed 59 Q1) (signed 59 Q1 [] (10 ∷ fields_text ms) none refl after1) n in
    (v.0 ++ v.1, (v.0, v.1, refl, v.2, v.3), v.4) in
    let f = named k gap tail Q2 h.0 g after2 from in
    let v = f.6 in
    let s = v.4 in
    let o = s.4 in
    let row : f.0 ∷ f.1 ∷ f.2 ≡ f.0 ∷ f.1 ∷ (v.0 ++ s.0 ∷ s.1) = ap (λ (xs : List Placed). f.0 ∷ f.1 ∷ xs) (v.2 ∙ ap (λ (xs : List Placed). v.0 ++ xs) s.2) in
    let text : gap ++ (k ++ 32 ∷ 61 ∷ 32 ∷ tail) ≡ gap ++ fields_text (member k j ms) = ap (λ (xs : List ℕ). gap ++ xs) (sym (field_row k (value_text j) (10 ∷ fields_text ms))) in (
      f.0 ∷ f.1 ∷ (v.0 ++ s.0 ∷ s.1),
      f.0.at ∷ o.0,
      (f.0, f.1, v.0, s.0, s.1, refl, f.3, f.4, s.3, v.3, refl, o.1),
      subst (λ (xs : List Placed). Begins from (gap ++ fields_text (member k j ms)) xs) row (subst (λ (xs : List ℕ). Begins from xs (f.0 ∷ f.1 ∷ f.2)) text f.7),
    )

-- the canonical text reads as its tree
canonical_reads : (ms : Members) → FieldsAreSpellable ms → MembersHaveDistinctNames ms → MembersFitDepth max_depth ms → (lines : List ℕ) × ReadsFields (fields_text ms) ms lines
canonical_reads ms h names_differ nests =
    let t = text_begins ms h [] none 0 in
    (map (line_of (fields_text ms)) t.1, record { places = t.1; all = t.0; tokens_are = t.3; sentence = t.2; names_differ = names_differ; nests = nests; lines_are = refl })

pub text_again : (v : Node) (bytes : List ℕ) → IsWellFormed v → FitsTypes v → bytes ≡ text v → (lines : List ℕ) × Reads bytes v lines
text_again (tree.word w) bytes h types e = absurd h
text_again (tree.number n) bytes h types e = absurd h
text_again (tree.str s) bytes h types e = absurd h
text_again (list js) bytes h types e = absurd h
text_again (fields ms) bytes h types e =
    let r = canonical_reads ms (fields_spellable ms h.0 types) h.1 h.2 in
    (r.0, subst (λ (xs : List ℕ). ReadsFields xs ms r.0) (sym e) r.1)
