-- What is an expression is read as one.
use Rattle.std.proofs.Common.{◌≡◌, ℕ, ◌≤◌, ◌<◌, ◌^◌, Bool, true, false, cond, leb, ltb, length, arith, List, [], ◌∷◌, ◌++◌, Option, Some, None, refl, ap, ◌∙◌, append_assoc}
use Rattle.std.proofs.lemmas.Bool.Decides.{nat_tests}
use Rattle.ae_rlang.specs.declared.token.Mark.TheVariants as mark_is
use Rattle.ae_rlang.specs.declared.operator.Operator.{Operator}
use Rattle.ae_rlang.specs.declared.operator.Operator.TheVariants.{Or, And, Equal, Unequal, Less, AtMost, Plus, Minus}
use Rattle.ae_rlang.specs.Operator.{binds, left_binds, right_binds, mark_of}
use Rattle.ae_rlang.specs.Token.{Token, mark, Lexeme}
use Rattle.ae_rlang.specs.Token as token
use Rattle.ae_rlang.specs.Written.{Expression, number, string, flag, named, field, timed, grouped, negated, operated, at, put, spelled}
use Rattle.ae_rlang.specs.Grammar.{IsExpression}
use Rattle.ae_rlang.specs.Values.{Value, number_value, value_of}
use Rattle.ae_rlang.specs.Machine.{Pending, side, no, Group, Point, waiting, having, Slot, Around, State, in_expression, moved, wanted, reduced, level_in, closed_value, is_dot, token_operator, goes, stuck, turned, scope_at, step, run}
use Rattle.ae_rlang.proofs.Reduced.{Agree, left_at_least, right_at_least, stays, takes}

-- the reader is in an expression
abbrev pub here : Around → Slot → List Group → List Pending → Point → Option State
here around slot groups ps point = moved around (in_expression slot groups ps point)

-- the value of an expression where the reader is
abbrev pub value_here : List (List ℕ) → Around → List Group → Expression → Value
value_here totals around groups e = value_of (scope_at totals around) (level_in groups (length around.blocks)) e

pub no_dot : (op : Operator) → is_dot (mark (mark_of op)) ≡ false
no_dot Or = refl
no_dot And = refl
no_dot Equal = refl
no_dot Unequal = refl
no_dot Less = refl
no_dot AtMost = refl
no_dot Plus = refl
no_dot Minus = refl

pub its_operator : (op : Operator) → token_operator (mark (mark_of op)) ≡ Some op
its_operator Or = refl
its_operator And = refl
its_operator Equal = refl
its_operator Unequal = refl
its_operator Less = refl
its_operator AtMost = refl
its_operator Plus = refl
its_operator Minus = refl

-- what reading an expression leads to
abbrev pub Read : List (List ℕ) → Around → Slot → List Group → List Pending → ℕ → Expression → Lexeme → List Lexeme → Type 0
Read totals around slot groups ps tight e p rest =
    (qs : List Pending) × (v : Value) × Agree tight qs v ps (value_here totals around groups e)
    × (run totals (here around slot groups ps waiting) (spelled e ++ p ∷ rest) ≡ run totals (here around slot groups qs (having v)) (p ∷ rest))

-- an operator behind what was read
at_operator : (totals : List (List ℕ)) (around : Around) (slot : Slot) (groups : List Group) (qs ps : List Pending) (v a : Value) (op : Operator) (l : ℕ) (rest : List Lexeme)
    → reduced (left_binds op) qs v ≡ (ps, a) → wanted ps ≤ binds op
    → run totals (here around slot groups qs (having v)) (at l (mark_of op) ∷ rest) ≡ run totals (here around slot groups (side op l a ∷ ps) waiting) rest
unfolding run step
at_operator totals around slot groups qs ps v a op l rest e fits =
    let may : leb (wanted ps) (binds op) ≡ true = grind (arith, nat_tests) in
    rw (its_operator op, e, may) refl

-- `)` behind what was read
at_close : (totals : List (List ℕ)) (around : Around) (slot : Slot) (g : Group) (groups : List Group) (qs : List Pending) (v w : Value) (c : ℕ) (rest : List Lexeme) → reduced 0 qs v ≡ ([], w)
    → run totals (here around slot (g ∷ groups) qs (having v)) (at c mark_is.CloseGroup ∷ rest)
    ≡ run totals (here around slot groups g.pendings (having (closed_value (level_in groups (length around.blocks)) g w))) rest
unfolding run step
at_close totals around slot g groups qs v w c rest e =
    ap (λ (r : List Pending × Value). run totals (here around slot groups g.pendings (having (closed_value (level_in groups (length around.blocks)) g r.1))) rest) e

at_number : (totals : List (List ℕ)) (around : Around) (slot : Slot) (groups : List Group) (ps : List Pending) (l n : ℕ) (rest : List Lexeme) → n < 2 ^ 63
    → run totals (here around slot groups ps waiting) (put l (token.number n) ∷ rest) ≡ run totals (here around slot groups ps (having (number_value l n))) rest
unfolding run step
at_number totals around slot groups ps l n rest h =
    let small : ltb n (2 ^ 63) ≡ true = grind (arith, nat_tests) in
    ap (λ (b : Bool). run totals (turned around slot (put l (token.number n)) (cond b (goes groups ps (having (number_value l n))) stuck)) rest) small

at_not : (totals : List (List ℕ)) (around : Around) (slot : Slot) (groups : List Group) (ps : List Pending) (l : ℕ) (rest : List Lexeme) → wanted ps ≤ 2
    → run totals (here around slot groups ps waiting) (at l mark_is.Not ∷ rest) ≡ run totals (here around slot groups (no l ∷ ps) waiting) rest
unfolding run step
at_not totals around slot groups ps l rest fits =
    let may : leb (wanted ps) 2 ≡ true = grind (arith, nat_tests) in
    rw may refl

pub reads : (e : Expression) (totals : List (List ℕ)) (around : Around) (slot : Slot) (groups : List Group) (ps : List Pending) (tight : ℕ) (p : Lexeme) (rest : List Lexeme)
    → IsExpression tight e → wanted ps ≤ tight → is_dot p.token ≡ false → Read totals around slot groups ps tight e p rest
unfolding run step
reads (number l n) totals around slot groups ps tight p rest h fits dot =
    (ps, value_here totals around groups (number l n), λ j le. refl, at_number totals around slot groups ps l n (p ∷ rest) h)
reads (string l s) totals around slot groups ps tight p rest h fits dot = (ps, value_here totals around groups (string l s), λ j le. refl, refl)
reads (flag l true) totals around slot groups ps tight p rest h fits dot = (ps, value_here totals around groups (flag l true), λ j le. refl, refl)
reads (flag l false) totals around slot groups ps tight p rest h fits dot = (ps, value_here totals around groups (flag l false), λ j le. refl, refl)
reads (named l w) totals around slot groups ps tight p rest h fits dot = (ps, value_here totals around groups (named l w), λ j le. refl, rw dot refl)
reads (field l w d m f) totals around slot groups ps tight p rest h fits dot = (ps, value_here totals around groups (field l w d m f), λ j le. refl, refl)
reads (timed l o e c) totals around slot groups ps tight p rest h fits dot =
    let g : Group = record { time = Some l; line = o; pendings = ps } in
    let r = reads e totals around slot (g ∷ groups) [] 0 (at c mark_is.CloseGroup) (p ∷ rest) h (omega arith) refl in (
      ps,
      value_here totals around groups (timed l o e c),
      λ j le. refl,
      ap (λ (xs : List Lexeme). run totals (here around slot (g ∷ groups) [] waiting) xs) (append_assoc (spelled e) (at c mark_is.CloseGroup ∷ []) (p ∷ rest))
          ∙ r.3 ∙ at_close totals around slot g groups r.0 r.1 (value_here totals around (g ∷ groups) e) c (p ∷ rest) (r.2 0 (omega arith)),
    )
reads (grouped o e c) totals around slot groups ps tight p rest h fits dot =
    let g : Group = record { time = None; line = o; pendings = ps } in
    let r = reads e totals around slot (g ∷ groups) [] 0 (at c mark_is.CloseGroup) (p ∷ rest) h (omega arith) refl in (
      ps,
      value_here totals around groups (grouped o e c),
      λ j le. refl,
      ap (λ (xs : List Lexeme). run totals (here around slot (g ∷ groups) [] waiting) xs) (append_assoc (spelled e) (at c mark_is.CloseGroup ∷ []) (p ∷ rest))
          ∙ r.3 ∙ at_close totals around slot g groups r.0 r.1 (value_here totals around (g ∷ groups) e) c (p ∷ rest) (r.2 0 (omega arith)),
    )
reads (negated l e) totals around slot groups ps tight p rest h fits dot =
    let r = reads e totals around slot groups (no l ∷ ps) 2 p rest h.1 (omega arith) dot in (
      r.0,
      r.1,
      λ j le. r.2 j (omega (arith, h.0)) ∙ takes j (no l) ps (value_here totals around groups e) (omega (arith, h.0)),
      at_not totals around slot groups ps l (spelled e ++ p ∷ rest) (omega (arith, h.0)) ∙ r.3,
    )
reads (operated op l a b) totals around slot groups ps tight p rest h fits dot =
    let o = at l (mark_of op) in
    let va = value_here totals around groups a in
    let vb = value_here totals around groups b in
    let ra = reads a totals around slot groups ps (left_binds op) o (spelled b ++ p ∷ rest) h.1 (omega (arith, h.0, left_at_least op)) (no_dot op) in
    let alone : reduced (left_binds op) ra.0 ra.1 ≡ (ps, va) = ra.2 (left_binds op) (omega arith) ∙ stays ps va op (omega (arith, h.0)) in
    let rb = reads b totals around slot groups (side op l va ∷ ps) (right_binds op) p rest h.2 (omega arith) dot in (
      rb.0,
      rb.1,
      λ j le. rb.2 j (omega (arith, h.0, right_at_least op)) ∙ takes j (side op l va) ps vb (omega (arith, h.0)),
      ap (λ (xs : List Lexeme). run totals (here around slot groups ps waiting) xs) (append_assoc (spelled a) (o ∷ spelled b) (p ∷ rest))
          ∙ ra.3 ∙ at_operator totals around slot groups ra.0 ps ra.1 va op l (spelled b ++ p ∷ rest) alone (omega (arith, h.0)) ∙ rb.3,
    )
