-- Each token that an expression takes belongs to it.
use Rattle.std.proofs.Common.{◌≡◌, ℕ, suc, ◌≤◌, ◌<◌, ◌^◌, Bool, true, false, cond, leb, ltb, arith, List, [], ◌∷◌, ◌++◌, Option, Some, None, refl, sym, ap, subst, ◌∙◌, append_assoc}
use Rattle.std.proofs.lemmas.Bool.Decides.{nat_tests}
use Rattle.std.proofs.lemmas.List.{append-nil}
use Rattle.ae_rlang.specs.declared.token.Mark.TheVariants as mark_is
use Rattle.ae_rlang.specs.declared.operator.Operator.{Operator}
use Rattle.ae_rlang.specs.declared.operator.Operator.TheVariants.{Or, And, Equal, Unequal, Less, AtMost, Plus, Minus}
use Rattle.ae_rlang.specs.Operator.{binds, left_binds, right_binds, mark_of}
use Rattle.ae_rlang.specs.Token.{Token, mark, Lexeme}
use Rattle.ae_rlang.specs.Token as token
use Rattle.ae_rlang.specs.Written.{Expression, number, string, flag, field, timed, grouped, negated, operated, at, put, spelled}
use Rattle.ae_rlang.specs.Written as written
use Rattle.ae_rlang.specs.Grammar.{IsExpression}
use Rattle.ae_rlang.specs.Scope.{Scope}
use Rattle.ae_rlang.specs.Values.{Value, number_value, value_of, total_value}
use Rattle.ae_rlang.specs.Machine.{Pending, Group, Point, Turn, goes, ended, stuck, waiting, pending_binds, wanted, taken, reduced, whole, level_in, closed_value, operator_turn, behind_turn, having_by, having_turn, is_close, is_dot, token_operator, turn}
use Rattle.ae_rlang.specs.Machine as machine
use Rattle.ae_rlang.proofs.Reduced.{takes}
use Rattle.ae_rlang.proofs.Drafts.{Waiting, side, no, Opened, grouping, calling, At, begins, named, dotted, timing, having, spelled_all, spelled_groups, spelled_at, spelled_open, wants, AreWaiting, AreOpened, IsAt, pending_of, pendings_of, group_of, groups_of, point_of, level_of}

pub looser : (e : Expression) (j k : ℕ) → j ≤ k → IsExpression k e → IsExpression j e
looser (number l n) j k le h = h
looser (string l s) j k le h = h
looser (flag l b) j k le h = h
looser (written.named l w) j k le h = h
looser (field l w d m f) j k le h = h
looser (timed l o e c) j k le h = h
looser (grouped o e c) j k le h = h
looser (negated l e) j k le h = (omega (arith, h.0), h.1)
looser (operated op l a b) j k le h = (omega (arith, h.0), h.1, h.2)

at_most_5 : (op : Operator) → right_binds op ≤ 5
at_most_5 Or = omega arith
at_most_5 And = omega arith
at_most_5 Equal = omega arith
at_most_5 Unequal = omega arith
at_most_5 Less = omega arith
at_most_5 AtMost = omega arith
at_most_5 Plus = omega arith
at_most_5 Minus = omega arith

left_at_most_5 : (op : Operator) → left_binds op ≤ 5
left_at_most_5 Or = omega arith
left_at_most_5 And = omega arith
left_at_most_5 Equal = omega arith
left_at_most_5 Unequal = omega arith
left_at_most_5 Less = omega arith
left_at_most_5 AtMost = omega arith
left_at_most_5 Plus = omega arith
left_at_most_5 Minus = omega arith

wants_at_most : (ws : List Waiting) → wants ws ≤ 5
wants_at_most [] = omega arith
wants_at_most (side op l e ∷ ws) = at_most_5 op
wants_at_most (no l ∷ ws) = omega arith

keeps : (j : ℕ) (p : Pending) (ps : List Pending) (v : Value) → leb j (pending_binds p) ≡ false → reduced j (p ∷ ps) v ≡ (p ∷ ps, v)
keeps j p ps v e = rw e refl

wants_same : (scope : Scope) (level : ℕ) (ws : List Waiting) → wanted (pendings_of scope level ws) ≡ wants ws
wants_same scope level [] = refl
wants_same scope level (side op l e ∷ ws) = refl
wants_same scope level (no l ∷ ws) = refl

-- an operator behind its left side, and then its right side
side_spelled : (x a e : List Lexeme) (o : Lexeme) → x ++ (a ++ o ∷ e) ≡ (x ++ (a ++ o ∷ [])) ++ e
side_spelled x a e o = ap (λ (ys : List Lexeme). x ++ ys) (sym (append_assoc a (o ∷ []) e)) ∙ sym (append_assoc x (a ++ o ∷ []) e)

-- what waits takes a value
pub record Reduces (scope : Scope) (level tight : ℕ) (ws : List Waiting) (e : Expression) : Type 0 where
  pub rest : List Waiting
  pub made : Expression
  pub spelling : spelled_all rest ++ spelled made ≡ spelled_all ws ++ spelled e
  pub are_waiting : AreWaiting rest
  pub tight_enough : IsExpression tight made
  pub same : reduced tight (pendings_of scope level ws) (value_of scope level e) ≡ (pendings_of scope level rest, value_of scope level made)

pub reduces : (ws : List Waiting) (e : Expression) (scope : Scope) (level tight : ℕ) → AreWaiting ws → IsExpression tight e → IsExpression (wants ws) e → Reduces scope level tight ws e
reduces [] e scope level tight h te we = record { rest = []; made = e; spelling = refl; are_waiting = tt; tight_enough = te; same = refl }
reduces (side op l a ∷ ws) e scope level tight h te we = by_test (leb tight (binds op)) refl (λ le. reduces ws (operated op l a e) scope level tight h.2 (le, h.0, we) (h.1, h.0, we)) where
  by_test : (b : Bool) → leb tight (binds op) ≡ b → (tight ≤ binds op → Reduces scope level tight ws (operated op l a e)) → Reduces scope level tight (side op l a ∷ ws) e
  by_test true t again =
      let le : tight ≤ binds op = grind (arith, nat_tests) in
      let r = again le in
      record {
        rest = r.rest;
        made = r.made;
        spelling = r.spelling ∙ side_spelled (spelled_all ws) (spelled a) (spelled e) (at l (mark_of op));
        are_waiting = r.are_waiting;
        tight_enough = r.tight_enough;
        same = takes tight (pending_of scope level (side op l a)) (pendings_of scope level ws) (value_of scope level e) le ∙ r.same;
      }
  by_test false t again = record {
    rest = side op l a ∷ ws;
    made = e;
    spelling = refl;
    are_waiting = h;
    tight_enough = te;
    same = keeps tight (pending_of scope level (side op l a)) (pendings_of scope level ws) (value_of scope level e) t;
  }
reduces (no l ∷ ws) e scope level tight h te we = by_test (leb tight 2) refl (λ le. reduces ws (negated l e) scope level tight h.1 (le, we) (h.0, we)) where
  by_test : (b : Bool) → leb tight 2 ≡ b → (tight ≤ 2 → Reduces scope level tight ws (negated l e)) → Reduces scope level tight (no l ∷ ws) e
  by_test true t again =
      let le : tight ≤ 2 = grind (arith, nat_tests) in
      let r = again le in
      record {
        rest = r.rest;
        made = r.made;
        spelling = r.spelling ∙ sym (append_assoc (spelled_all ws) (at l mark_is.Not ∷ []) (spelled e));
        are_waiting = r.are_waiting;
        tight_enough = r.tight_enough;
        same = takes tight (pending_of scope level (no l)) (pendings_of scope level ws) (value_of scope level e) le ∙ r.same;
      }
  by_test false t again = record {
    rest = no l ∷ ws;
    made = e;
    spelling = refl;
    are_waiting = h;
    tight_enough = te;
    same = keeps tight (pending_of scope level (no l)) (pendings_of scope level ws) (value_of scope level e) t;
  }

-- all that waits takes a value
pub record Wholes (scope : Scope) (level : ℕ) (ws : List Waiting) (e : Expression) : Type 0 where
  pub made : Expression
  pub spelling : spelled made ≡ spelled_all ws ++ spelled e
  pub is_expression : IsExpression 0 made
  pub same : reduced 0 (pendings_of scope level ws) (value_of scope level e) ≡ ([], value_of scope level made)

pub wholes : (ws : List Waiting) (e : Expression) (scope : Scope) (level : ℕ) → AreWaiting ws → IsExpression 0 e → IsExpression (wants ws) e → Wholes scope level ws e
wholes [] e scope level h ze we = record { made = e; spelling = refl; is_expression = ze; same = refl }
wholes (side op l a ∷ ws) e scope level h ze we =
    let r = wholes ws (operated op l a e) scope level h.2 (omega arith, h.0, we) (h.1, h.0, we) in
    record {
      made = r.made;
      spelling = r.spelling ∙ side_spelled (spelled_all ws) (spelled a) (spelled e) (at l (mark_of op));
      is_expression = r.is_expression;
      same = takes 0 (pending_of scope level (side op l a)) (pendings_of scope level ws) (value_of scope level e) (omega arith) ∙ r.same;
    }
wholes (no l ∷ ws) e scope level h ze we =
    let r = wholes ws (negated l e) scope level h.1 (omega arith, we) (h.0, we) in
    record {
      made = r.made;
      spelling = r.spelling ∙ sym (append_assoc (spelled_all ws) (at l mark_is.Not ∷ []) (spelled e));
      is_expression = r.is_expression;
      same = takes 0 (pending_of scope level (no l)) (pendings_of scope level ws) (value_of scope level e) (omega arith) ∙ r.same;
    }

-- ---- a token in an expression

pub record Gone (scope : Scope) (level : ℕ) (front : List Lexeme) (groups : List Group) (ps : List Pending) (point : Point) : Type 0 where
  pub gs : List Opened
  pub ws : List Waiting
  pub spot : At
  pub are_opened : AreOpened gs
  pub are_waiting : AreWaiting ws
  pub is_at : IsAt spot
  pub groups_are : groups_of scope level gs ≡ groups
  pub waiting_are : pendings_of scope (level_of scope level gs) ws ≡ ps
  pub point_is : point_of scope (level_of scope level gs) spot ≡ point
  pub spelling : spelled_open gs ws spot ≡ front

pub record HasEnded (scope : Scope) (level : ℕ) (front : List Lexeme) (v : Value) : Type 0 where
  pub made : Expression
  pub is_expression : IsExpression 0 made
  pub value_is : value_of scope level made ≡ v
  pub spelling : spelled made ≡ front

-- what a token leads to is written so
abbrev pub IsSound : Scope → ℕ → List Lexeme → Lexeme → Turn → Type 0
IsSound scope level front p (goes groups ps point) = Gone scope level (front ++ p ∷ []) groups ps point
IsSound scope level front p (ended v) = HasEnded scope level front v
IsSound scope level front p stuck = Unit {0}

pub operator_found : (t : Token) (op : Operator) → token_operator t ≡ Some op → t ≡ mark (mark_of op)
operator_found (mark mark_is.Or) op e = let same : Or ≡ op = cc in ap (λ (o : Operator). mark (mark_of o)) same
operator_found (mark mark_is.And) op e = let same : And ≡ op = cc in ap (λ (o : Operator). mark (mark_of o)) same
operator_found (mark mark_is.Equal) op e = let same : Equal ≡ op = cc in ap (λ (o : Operator). mark (mark_of o)) same
operator_found (mark mark_is.Unequal) op e = let same : Unequal ≡ op = cc in ap (λ (o : Operator). mark (mark_of o)) same
operator_found (mark mark_is.Less) op e = let same : Less ≡ op = cc in ap (λ (o : Operator). mark (mark_of o)) same
operator_found (mark mark_is.AtMost) op e = let same : AtMost ≡ op = cc in ap (λ (o : Operator). mark (mark_of o)) same
operator_found (mark mark_is.Plus) op e = let same : Plus ≡ op = cc in ap (λ (o : Operator). mark (mark_of o)) same
operator_found (mark mark_is.Minus) op e = let same : Minus ≡ op = cc in ap (λ (o : Operator). mark (mark_of o)) same
operator_found other op e = absurd cc

pub close_found : (t : Token) → is_close t ≡ true → t ≡ mark mark_is.CloseGroup
close_found (mark mark_is.CloseGroup) e = refl
close_found other e = absurd cc

pub dot_found : (t : Token) → is_dot t ≡ true → t ≡ mark mark_is.Dot
dot_found (mark mark_is.Dot) e = refl
dot_found other e = absurd cc

-- one token more at the end
pub grow : (a b c : List Lexeme) (p : Lexeme) → a ++ (b ++ (c ++ p ∷ [])) ≡ (a ++ (b ++ c)) ++ p ∷ []
grow a b c p = ap (λ (xs : List Lexeme). a ++ xs) (sym (append_assoc b c (p ∷ []))) ∙ sym (append_assoc a (b ++ c) (p ∷ []))

-- parentheses around an expression
closed : (a b o made inner : List Lexeme) (c : Lexeme) → made ≡ inner → a ++ (b ++ (o ++ (made ++ c ∷ []))) ≡ ((a ++ (b ++ o)) ++ inner) ++ c ∷ []
closed a b o made inner c e =
    ap (λ (xs : List Lexeme). a ++ (b ++ (o ++ (xs ++ c ∷ [])))) e
    ∙ ap (λ (xs : List Lexeme). a ++ xs) (sym (append_assoc b o (inner ++ c ∷ []))) ∙ sym (append_assoc a (b ++ o) (inner ++ c ∷ [])) ∙ sym (append_assoc (a ++ (b ++ o)) inner (c ∷ []))

module _ (scope : Scope) (level : ℕ) where
  by_operator : (gs : List Opened) (ws : List Waiting) (e : Expression) (p : Lexeme) (op : Operator) → AreOpened gs → AreWaiting ws → IsExpression 5 e → p.token ≡ mark (mark_of op)
      → IsSound scope level (spelled_open gs ws (having e)) p
      (operator_turn (groups_of scope level gs) op p.line (reduced (left_binds op) (pendings_of scope (level_of scope level gs) ws) (value_of scope (level_of scope level gs) e)))
  by_operator gs ws e p op hg hw he is =
      let here = level_of scope level gs in
      let r = reduces ws e scope here (left_binds op) hw (looser e (left_binds op) 5 (left_at_most_5 op) he) (looser e (wants ws) 5 (wants_at_most ws) he) in
      subst (λ (x : List Pending × Value). IsSound scope level (spelled_open gs ws (having e)) p (operator_turn (groups_of scope level gs) op p.line x)) (sym r.same)
      (by_test r (leb (wanted (pendings_of scope here r.rest)) (binds op)) refl) where
        by_test : (r : Reduces scope (level_of scope level gs) (left_binds op) ws e) (b : Bool) → leb (wanted (pendings_of scope (level_of scope level gs) r.rest)) (binds op) ≡ b
            → IsSound scope level (spelled_open gs ws (having e)) p
            (cond b (goes (groups_of scope level gs) (machine.side op p.line (value_of scope (level_of scope level gs) r.made) ∷ pendings_of scope (level_of scope level gs) r.rest) waiting) stuck)
        by_test r true t =
            let le : wants r.rest ≤ binds op = subst (λ (n : ℕ). n ≤ binds op) (wants_same scope (level_of scope level gs) r.rest) (grind (arith, nat_tests)) in
            let o : p ≡ at p.line (mark_of op) = ap (λ (t : Token). put p.line t) is in
            record {
              gs = gs;
              ws = side op p.line r.made ∷ r.rest;
              spot = begins;
              are_opened = hg;
              are_waiting = (r.tight_enough, le, r.are_waiting);
              is_at = tt;
              groups_are = refl;
              waiting_are = refl;
              point_is = refl;
              spelling =
                  ap (λ (xs : List Lexeme). spelled_groups gs ++ xs) (append-nil (spelled_all r.rest ++ (spelled r.made ++ at p.line (mark_of op) ∷ [])) ∙ sym (append_assoc (spelled_all r.rest) (spelled r.made) (at p.line (mark_of op) ∷ [])))
                  ∙ ap (λ (xs : List Lexeme). spelled_groups gs ++ (xs ++ at p.line (mark_of op) ∷ [])) r.spelling
                  ∙ sym (append_assoc (spelled_groups gs) (spelled_all ws ++ spelled e) (at p.line (mark_of op) ∷ []))
                  ∙ ap (λ (q : Lexeme). spelled_open gs ws (having e) ++ q ∷ []) (sym o);
            }
        by_test r false t = tt

  by_end : (gs : List Opened) (ws : List Waiting) (e : Expression) (p : Lexeme) (b : Bool) → is_close p.token ≡ b → AreOpened gs → AreWaiting ws → IsExpression 5 e
      → IsSound scope level (spelled_open gs ws (having e)) p
      (behind_turn level (groups_of scope level gs) (pendings_of scope (level_of scope level gs) ws) (value_of scope (level_of scope level gs) e) b)
  by_end [] ws e p b t hg hw he =
      let r = wholes ws e scope level hw (looser e 0 5 (omega arith) he) (looser e (wants ws) 5 (wants_at_most ws) he) in
      record { made = r.made; is_expression = r.is_expression; value_is = ap (λ (x : List Pending × Value). x.1) (sym r.same); spelling = r.spelling }
  by_end (grouping o os ∷ gs) ws e p true t hg hw he =
      let r = wholes ws e scope (suc (level_of scope level gs)) hw (looser e 0 5 (omega arith) he) (looser e (wants ws) 5 (wants_at_most ws) he) in
      let c : p ≡ at p.line mark_is.CloseGroup = ap (λ (t : Token). put p.line t) (close_found p.token t) in
      record {
        gs = gs;
        ws = os;
        spot = having (grouped o r.made p.line);
        are_opened = hg.1;
        are_waiting = hg.0;
        is_at = r.is_expression;
        groups_are = refl;
        waiting_are = refl;
        point_is = ap (λ (x : List Pending × Value). machine.having (closed_value (level_of scope level gs) (group_of scope (level_of scope level gs) (grouping o os)) x.1)) (sym r.same);
        spelling = closed (spelled_groups gs) (spelled_all os) (at o mark_is.OpenGroup ∷ []) (spelled r.made) (spelled_all ws ++ spelled e) (at p.line mark_is.CloseGroup) r.spelling
            ∙ ap (λ (q : Lexeme). spelled_open (grouping o os ∷ gs) ws (having e) ++ q ∷ []) (sym c);
      }
  by_end (calling l o os ∷ gs) ws e p true t hg hw he =
      let r = wholes ws e scope (suc (level_of scope level gs)) hw (looser e 0 5 (omega arith) he) (looser e (wants ws) 5 (wants_at_most ws) he) in
      let c : p ≡ at p.line mark_is.CloseGroup = ap (λ (t : Token). put p.line t) (close_found p.token t) in
      record {
        gs = gs;
        ws = os;
        spot = having (timed l o r.made p.line);
        are_opened = hg.1;
        are_waiting = hg.0;
        is_at = r.is_expression;
        groups_are = refl;
        waiting_are = refl;
        point_is = ap (λ (x : List Pending × Value). machine.having (closed_value (level_of scope level gs) (group_of scope (level_of scope level gs) (calling l o os)) x.1)) (sym r.same);
        spelling = closed (spelled_groups gs) (spelled_all os) (at l mark_is.Time ∷ at o mark_is.OpenGroup ∷ []) (spelled r.made) (spelled_all ws ++ spelled e) (at p.line mark_is.CloseGroup) r.spelling
            ∙ ap (λ (q : Lexeme). spelled_open (calling l o os ∷ gs) ws (having e) ++ q ∷ []) (sym c);
      }
  by_end (g ∷ gs) ws e p false t hg hw he = tt

  having_sound : (gs : List Opened) (ws : List Waiting) (e : Expression) (p : Lexeme) → AreOpened gs → AreWaiting ws → IsExpression 5 e
      → IsSound scope level (spelled_open gs ws (having e)) p (having_turn level (groups_of scope level gs) (pendings_of scope (level_of scope level gs) ws) (value_of scope (level_of scope level gs) e) p)
  having_sound gs ws e p hg hw he = by_kind (token_operator p.token) refl where
    by_kind : (o : Option Operator) → token_operator p.token ≡ o
        → IsSound scope level (spelled_open gs ws (having e)) p (having_by level (groups_of scope level gs) (pendings_of scope (level_of scope level gs) ws) (value_of scope (level_of scope level gs) e) p.line (is_close p.token) o)
    by_kind (Some op) is = by_operator gs ws e p op hg hw he (operator_found p.token op is)
    by_kind None is = by_end gs ws e p (is_close p.token) refl hg hw he

  -- the reader goes on in the same parentheses, with nothing more that waits
  stay : (gs : List Opened) (ws : List Waiting) (before after : At) (p : Lexeme) → AreOpened gs → AreWaiting ws → IsAt after → spelled_at after ≡ spelled_at before ++ p ∷ []
      → Gone scope level (spelled_open gs ws before ++ p ∷ []) (groups_of scope level gs) (pendings_of scope (level_of scope level gs) ws) (point_of scope (level_of scope level gs) after)
  stay gs ws before after p hg hw ha e = record {
    gs = gs;
    ws = ws;
    spot = after;
    are_opened = hg;
    are_waiting = hw;
    is_at = ha;
    groups_are = refl;
    waiting_are = refl;
    point_is = refl;
    spelling = ap (λ (xs : List Lexeme). spelled_groups gs ++ (spelled_all ws ++ xs)) e ∙ grow (spelled_groups gs) (spelled_all ws) (spelled_at before) p;
  }

  number_sound : (gs : List Opened) (ws : List Waiting) (l n : ℕ) (b : Bool) → ltb n (2 ^ 63) ≡ b → AreOpened gs → AreWaiting ws
      → IsSound scope level (spelled_open gs ws begins) (put l (token.number n))
      (cond b (goes (groups_of scope level gs) (pendings_of scope (level_of scope level gs) ws) (machine.having (number_value l n))) stuck)
  number_sound gs ws l n true e hg hw = stay gs ws begins (having (number l n)) (put l (token.number n)) hg hw (let small : n < 2 ^ 63 = grind (arith, nat_tests) in small) refl
  number_sound gs ws l n false e hg hw = tt

  not_sound : (gs : List Opened) (ws : List Waiting) (l : ℕ) (b : Bool) → leb (wanted (pendings_of scope (level_of scope level gs) ws)) 2 ≡ b → AreOpened gs → AreWaiting ws
      → IsSound scope level (spelled_open gs ws begins) (at l mark_is.Not)
      (cond b (goes (groups_of scope level gs) (machine.no l ∷ pendings_of scope (level_of scope level gs) ws) waiting) stuck)
  not_sound gs ws l true e hg hw =
      let le : wants ws ≤ 2 = subst (λ (n : ℕ). n ≤ 2) (wants_same scope (level_of scope level gs) ws) (grind (arith, nat_tests)) in
      record {
        gs = gs;
        ws = no l ∷ ws;
        spot = begins;
        are_opened = hg;
        are_waiting = (le, hw);
        is_at = tt;
        groups_are = refl;
        waiting_are = refl;
        point_is = refl;
        spelling = ap (λ (xs : List Lexeme). spelled_groups gs ++ xs) (append-nil (spelled_all ws ++ at l mark_is.Not ∷ [])) ∙ grow (spelled_groups gs) (spelled_all ws) [] (at l mark_is.Not);
      }
  not_sound gs ws l false e hg hw = tt

  waiting_sound : (gs : List Opened) (ws : List Waiting) (l : ℕ) (t : Token) → AreOpened gs → AreWaiting ws
      → IsSound scope level (spelled_open gs ws begins) (put l t) (machine.waiting_turn (groups_of scope level gs) (pendings_of scope (level_of scope level gs) ws) l t)
  waiting_sound gs ws l (token.name w) hg hw = stay gs ws begins (named l w) (put l (token.name w)) hg hw tt refl
  waiting_sound gs ws l (token.number n) hg hw = number_sound gs ws l n (ltb n (2 ^ 63)) refl hg hw
  waiting_sound gs ws l (token.string s) hg hw = stay gs ws begins (having (string l s)) (put l (token.string s)) hg hw tt refl
  waiting_sound gs ws l (mark mark_is.True) hg hw = stay gs ws begins (having (flag l true)) (at l mark_is.True) hg hw tt refl
  waiting_sound gs ws l (mark mark_is.False) hg hw = stay gs ws begins (having (flag l false)) (at l mark_is.False) hg hw tt refl
  waiting_sound gs ws l (mark mark_is.Not) hg hw = not_sound gs ws l (leb (wanted (pendings_of scope (level_of scope level gs) ws)) 2) refl hg hw
  waiting_sound gs ws l (mark mark_is.Time) hg hw = stay gs ws begins (timing l) (at l mark_is.Time) hg hw tt refl
  waiting_sound gs ws l (mark mark_is.OpenGroup) hg hw = record {
    gs = grouping l ws ∷ gs;
    ws = [];
    spot = begins;
    are_opened = (hw, hg);
    are_waiting = tt;
    is_at = tt;
    groups_are = refl;
    waiting_are = refl;
    point_is = refl;
    spelling = append-nil (spelled_groups gs ++ (spelled_all ws ++ at l mark_is.OpenGroup ∷ [])) ∙ grow (spelled_groups gs) (spelled_all ws) [] (at l mark_is.OpenGroup);
  }
  waiting_sound gs ws l other hg hw = tt

  dotted_sound : (gs : List Opened) (ws : List Waiting) (l : ℕ) (w : List ℕ) (d m : ℕ) (t : Token) → AreOpened gs → AreWaiting ws
      → IsSound scope level (spelled_open gs ws (dotted l w d)) (put m t) (machine.dotted_turn scope (groups_of scope level gs) (pendings_of scope (level_of scope level gs) ws) l w m t)
  dotted_sound gs ws l w d m (token.name f) hg hw = stay gs ws (dotted l w d) (having (field l w d m f)) (put m (token.name f)) hg hw tt refl
  dotted_sound gs ws l w d m other hg hw = tt

  timing_sound : (gs : List Opened) (ws : List Waiting) (l o : ℕ) (t : Token) → AreOpened gs → AreWaiting ws
      → IsSound scope level (spelled_open gs ws (timing l)) (put o t) (machine.timing_turn (groups_of scope level gs) (pendings_of scope (level_of scope level gs) ws) l o t)
  timing_sound gs ws l o (mark mark_is.OpenGroup) hg hw = record {
    gs = calling l o ws ∷ gs;
    ws = [];
    spot = begins;
    are_opened = (hw, hg);
    are_waiting = tt;
    is_at = tt;
    groups_are = refl;
    waiting_are = refl;
    point_is = refl;
    spelling = append-nil (spelled_groups gs ++ (spelled_all ws ++ at l mark_is.Time ∷ at o mark_is.OpenGroup ∷ [])) ∙ grow (spelled_groups gs) (spelled_all ws) (at l mark_is.Time ∷ []) (at o mark_is.OpenGroup);
  }
  timing_sound gs ws l o other hg hw = tt

  named_sound : (gs : List Opened) (ws : List Waiting) (l : ℕ) (w : List ℕ) (p : Lexeme) (b : Bool) → is_dot p.token ≡ b → AreOpened gs → AreWaiting ws
      → IsSound scope level (spelled_open gs ws (named l w)) p
      (cond b (goes (groups_of scope level gs) (pendings_of scope (level_of scope level gs) ws) (machine.dotted l w))
      (having_turn level (groups_of scope level gs) (pendings_of scope (level_of scope level gs) ws) (total_value scope l w) p))
  named_sound gs ws l w p true e hg hw =
      let d : p ≡ at p.line mark_is.Dot = ap (λ (t : Token). put p.line t) (dot_found p.token e) in
      stay gs ws (named l w) (dotted l w p.line) p hg hw tt (ap (λ (q : Lexeme). put l (token.name w) ∷ q ∷ []) (sym d))
  named_sound gs ws l w p false e hg hw = having_sound gs ws (written.named l w) p hg hw tt

  pub turn_sound : (gs : List Opened) (ws : List Waiting) (a : At) (p : Lexeme) → AreOpened gs → AreWaiting ws → IsAt a
      → IsSound scope level (spelled_open gs ws a) p (turn scope level (groups_of scope level gs) (pendings_of scope (level_of scope level gs) ws) (point_of scope (level_of scope level gs) a) p)
  turn_sound gs ws begins p hg hw ha = waiting_sound gs ws p.line p.token hg hw
  turn_sound gs ws (named l w) p hg hw ha = named_sound gs ws l w p (is_dot p.token) refl hg hw
  turn_sound gs ws (dotted l w d) p hg hw ha = dotted_sound gs ws l w d p.line p.token hg hw
  turn_sound gs ws (timing l) p hg hw ha = timing_sound gs ws l p.line p.token hg hw
  turn_sound gs ws (having e) p hg hw ha = having_sound gs ws e p hg hw ha
