-- Whatever was read goes on to a text.
use Rattle.std.proofs.Common.{◌≡◌, ℕ, Bool, false, cond, length, List, [], ◌∷◌, Option, Some, refl, ap, ◌∙◌}
use Rattle.ae_rlang.specs.declared.token.Mark.TheVariants as mark_is
use Rattle.ae_rlang.specs.declared.table.Table.{Table}
use Rattle.ae_rlang.specs.Report.{Meant, MeantCell, Deed, each, choose, deeds_of}
use Rattle.ae_rlang.specs.Operator.{earlier}
use Rattle.ae_rlang.specs.Meaning.{table_or_any}
use Rattle.ae_rlang.specs.Token.{name, number, string, end, Lexeme}
use Rattle.ae_rlang.specs.Written.{at, put}
use Rattle.ae_rlang.specs.declared.operand.Bound.{Bound}
use Rattle.ae_rlang.specs.Values.{Value, total_value}
use Rattle.ae_rlang.specs.Machine.{inside_deeds, Pending, Group, Point, waiting, named, dotted, timing, having, turn, turned, having_turn, is_dot, is_else, Body, Block, of_each, of_choice, of_else, Slot, for_cell, for_total, for_test, for_choice, Place, at_statement, at_title, at_title_end, at_total_name, at_total_equals, at_for_name, at_in, at_table, at_where, in_expression, at_width, at_right, at_comma, at_else, at_else_body, done, Around, State, moved, dropped, statement_step, without_else, with_deed, scope_at, step, run}

-- these tokens lead to the end of a text
pub record Closes (totals : List (List ℕ)) (s : State) : Type 0 where
  pub more : List Lexeme
  pub last : Around
  pub runs : run totals (Some s) more ≡ moved last done

-- and the first of them is no `else`
pub record Finishes (totals : List (List ℕ)) (s : State) : Type 0 where
  pub first : Lexeme
  pub others : List Lexeme
  pub last : Around
  pub free : is_else first.token ≡ false
  pub runs : run totals (Some s) (first ∷ others) ≡ moved last done

abbrev here : Around → Place → State
here around place = record { around = around; place = place }

-- by one token more
by_token : (totals : List (List ℕ)) (s t : State) (p : Lexeme) → step totals s p ≡ Some t → Closes totals t → Closes totals s
unfolding run
by_token totals s t p e c = record { more = p ∷ c.more; last = c.last; runs = ap (λ (x : Option State). run totals x c.more) e ∙ c.runs }

then_finish : (totals : List (List ℕ)) (s t : State) (p : Lexeme) → step totals s p ≡ Some t → is_else p.token ≡ false → Finishes totals t → Finishes totals s
unfolding run
then_finish totals s t p e free f = record { first = p; others = f.first ∷ f.others; last = f.last; free = free; runs = ap (λ (x : Option State). run totals x (f.first ∷ f.others)) e ∙ f.runs }

closes : (totals : List (List ℕ)) (s : State) → Finishes totals s → Closes totals s
closes totals s f = record { more = f.first ∷ f.others; last = f.last; runs = f.runs }

-- an `if` without `else` is a statement
from_else : (totals : List (List ℕ)) (around : Around) (test : Meant) (first : List Deed) (line : Option ℕ) → Finishes totals (here (without_else around test first line) at_statement) → Finishes totals (here around (at_else test first line))
unfolding run step
from_else totals around test first line f = record {
  first = f.first;
  others = f.others;
  last = f.last;
  free = f.free;
  runs = ap (λ (b : Bool). run totals (cond b (moved around (at_else_body test first line)) (statement_step (without_else around test first line) f.first.line f.first.token)) f.others) f.free ∙ f.runs;
}

-- all blocks are closed, and the text ends
statement_finishes : (blocks : List Block) (totals : List (List ℕ)) (bound : List Bound) (body : Body) → Finishes totals (here (record { bound = bound; blocks = blocks; body = body }) at_statement)
unfolding run step
statement_finishes [] totals bound body = record { first = put 1 end; others = []; last = record { bound = bound; blocks = []; body = body }; free = refl; runs = refl }
statement_finishes (of_each outer w table test line ∷ blocks) totals bound body =
    then_finish totals _ (here (with_deed (record { bound = dropped bound; blocks = blocks; body = outer }) (each w (table_or_any table) test (deeds_of (inside_deeds blocks body))) (earlier line body.bad)) at_statement) (at 1 mark_is.CloseBlock) refl refl
    (statement_finishes blocks totals (dropped bound) _)
statement_finishes (of_choice outer test line ∷ blocks) totals bound body =
    then_finish totals _ (here (record { bound = bound; blocks = blocks; body = outer }) (at_else test (inside_deeds blocks body) (earlier line body.bad))) (at 1 mark_is.CloseBlock) refl refl
    (from_else totals (record { bound = bound; blocks = blocks; body = outer }) test (inside_deeds blocks body) (earlier line body.bad) (statement_finishes blocks totals bound _))
statement_finishes (of_else outer test first line ∷ blocks) totals bound body =
    then_finish totals _ (here (with_deed (record { bound = bound; blocks = blocks; body = outer }) (choose test (deeds_of first) (deeds_of (inside_deeds blocks body))) (earlier line body.bad)) at_statement) (at 1 mark_is.CloseBlock) refl refl
    (statement_finishes blocks totals bound _)

pub at_statement_closes : (totals : List (List ℕ)) (around : Around) → Closes totals (here around at_statement)
at_statement_closes totals around = closes totals (here around at_statement) (statement_finishes around.blocks totals around.bound around.body)

-- behind a cell's width
right_closes : (totals : List (List ℕ)) (around : Around) (cells : List MeantCell) (line : Option ℕ) (v : Value) (w : ℕ) → Closes totals (here around (at_right cells line v w))
unfolding step
right_closes totals around cells line v w = by_token totals _ _ (at 1 mark_is.Semicolon) refl (at_statement_closes totals _)

width_closes : (totals : List (List ℕ)) (around : Around) (cells : List MeantCell) (line : Option ℕ) (v : Value) → Closes totals (here around (at_width cells line v))
unfolding step
width_closes totals around cells line v = by_token totals _ _ (put 1 (number 1)) refl (right_closes totals around cells line v 1)

-- behind a value, or what a token takes for one
abbrev IsValue : List (List ℕ) → Around → List Group → List Pending → Point → Value → Type 0
IsValue totals around groups ps point v =
    (p : Lexeme) → is_dot p.token ≡ false → turn (scope_at totals around) (length around.blocks) groups ps point p ≡ having_turn (length around.blocks) groups ps v p

by_value : (totals : List (List ℕ)) (around : Around) (slot : Slot) (groups : List Group) (ps : List Pending) (point : Point) (v : Value) (p : Lexeme) (t : State)
    → IsValue totals around groups ps point v → is_dot p.token ≡ false → turned around slot p (having_turn (length around.blocks) groups ps v p) ≡ Some t → Closes totals t
    → Closes totals (here around (in_expression slot groups ps point))
unfolding step
by_value totals around slot groups ps point v p t same free e c =
    by_token totals (here around (in_expression slot groups ps point)) t p (ap (turned around slot p) (same p free) ∙ e) c

value_closes : (groups : List Group) (slot : Slot) (totals : List (List ℕ)) (around : Around) (ps : List Pending) (point : Point) (v : Value) → IsValue totals around groups ps point v
    → Closes totals (here around (in_expression slot groups ps point))
value_closes (g ∷ gs) slot totals around ps point v same =
    by_value totals around slot (g ∷ gs) ps point v (at 1 mark_is.CloseGroup) _ same refl refl (value_closes gs slot totals around g.pendings (having _) _ (λ p free. refl))
value_closes [] (for_cell cells line) totals around ps point v same =
    by_value totals around (for_cell cells line) [] ps point v (at 1 mark_is.Colon) _ same refl refl (width_closes totals around cells line _)
value_closes [] (for_total l w) totals around ps point v same =
    by_value totals around (for_total l w) [] ps point v (at 1 mark_is.Semicolon) _ same refl refl (at_statement_closes totals _)
value_closes [] (for_test w table line l) totals around ps point v same =
    by_value totals around (for_test w table line l) [] ps point v (at 1 mark_is.OpenBlock) _ same refl refl (at_statement_closes totals _)
value_closes [] (for_choice l) totals around ps point v same =
    by_value totals around (for_choice l) [] ps point v (at 1 mark_is.OpenBlock) _ same refl refl (at_statement_closes totals _)

waiting_closes : (totals : List (List ℕ)) (around : Around) (slot : Slot) (groups : List Group) (ps : List Pending) → Closes totals (here around (in_expression slot groups ps waiting))
unfolding step
waiting_closes totals around slot groups ps =
    by_token totals _ _ (put 1 (string [])) refl (value_closes groups slot totals around ps (having _) _ (λ p free. refl))

point_closes : (point : Point) (totals : List (List ℕ)) (around : Around) (slot : Slot) (groups : List Group) (ps : List Pending) → Closes totals (here around (in_expression slot groups ps point))
unfolding step
point_closes waiting totals around slot groups ps = waiting_closes totals around slot groups ps
point_closes (named l w) totals around slot groups ps = value_closes groups slot totals around ps (named l w) (total_value (scope_at totals around) l w) (λ p free. rw free refl)
point_closes (dotted l w) totals around slot groups ps =
    by_token totals _ _ (put 1 (name [])) refl (value_closes groups slot totals around ps (having _) _ (λ p free. refl))
point_closes (timing l) totals around slot groups ps = by_token totals _ _ (at 1 mark_is.OpenGroup) refl (waiting_closes totals around slot _ [])
point_closes (having v) totals around slot groups ps = value_closes groups slot totals around ps (having v) v (λ p free. refl)

where_closes : (totals : List (List ℕ)) (around : Around) (w : List ℕ) (table : Option Table) (line : Option ℕ) → Closes totals (here around (at_where w table line))
unfolding step
where_closes totals around w table line = by_token totals _ _ (at 1 mark_is.OpenBlock) refl (at_statement_closes totals _)

table_closes : (totals : List (List ℕ)) (around : Around) (l m : ℕ) (w : List ℕ) → Closes totals (here around (at_table l m w))
unfolding step
table_closes totals around l m w = by_token totals _ _ (put 1 (name [])) refl (where_closes totals _ w _ _)

in_closes : (totals : List (List ℕ)) (around : Around) (l m : ℕ) (w : List ℕ) → Closes totals (here around (at_in l m w))
unfolding step
in_closes totals around l m w = by_token totals _ _ (at 1 mark_is.In) refl (table_closes totals around l m w)

equals_closes : (totals : List (List ℕ)) (around : Around) (l : ℕ) (w : List ℕ) → Closes totals (here around (at_total_equals l w))
unfolding step
equals_closes totals around l w = by_token totals _ _ (at 1 mark_is.Assign) refl (waiting_closes totals around (for_total l w) [] [])

title_end_closes : (totals : List (List ℕ)) (around : Around) (s : List ℕ) → Closes totals (here around (at_title_end s))
unfolding step
title_end_closes totals around s = by_token totals _ _ (at 1 mark_is.Semicolon) refl (at_statement_closes totals _)

pub place_closes : (place : Place) (totals : List (List ℕ)) (around : Around) → Closes totals (here around place)
unfolding step run
place_closes at_statement totals around = at_statement_closes totals around
place_closes at_title totals around = by_token totals _ _ (put 1 (string [])) refl (title_end_closes totals around [])
place_closes (at_title_end s) totals around = title_end_closes totals around s
place_closes (at_total_name l) totals around = by_token totals _ _ (put 1 (name [])) refl (equals_closes totals around l [])
place_closes (at_total_equals l w) totals around = equals_closes totals around l w
place_closes (at_for_name l) totals around = by_token totals _ _ (put 1 (name [])) refl (in_closes totals around l 1 [])
place_closes (at_in l m w) totals around = in_closes totals around l m w
place_closes (at_table l m w) totals around = table_closes totals around l m w
place_closes (at_where w table line) totals around = where_closes totals around w table line
place_closes (in_expression slot groups ps point) totals around = point_closes point totals around slot groups ps
place_closes (at_width cells line v) totals around = width_closes totals around cells line v
place_closes (at_right cells line v w) totals around = right_closes totals around cells line v w
place_closes (at_comma cells line) totals around = by_token totals _ _ (at 1 mark_is.Semicolon) refl (at_statement_closes totals _)
place_closes (at_else test first line) totals around =
    closes totals _ (from_else totals around test first line (statement_finishes around.blocks totals around.bound _))
place_closes (at_else_body test first line) totals around = by_token totals _ _ (at 1 mark_is.OpenBlock) refl (at_statement_closes totals _)
place_closes done totals around = record { more = []; last = around; runs = refl }
