-- Reading from left to right: what is open, and what may stand next. No public clause cites this: it is proved to be the
-- grammar of Grammar.antt, with the first bad line of Bad.antt.
use Rattle.std.specs.Prelude.{ℕ, suc, List, [], ◌∷◌, ◌++◌, length, Bool, true, false, not, ◌||◌, ◌&&◌, ◌^◌, nat_lt, nat_le, if◌then◌else◌, Option, Some, None, is_some}
use Rattle.ae_rlang.specs.declared.token.Mark.TheVariants as mark_is
use Rattle.ae_rlang.specs.declared.operator.Operator.{Operator}
use Rattle.ae_rlang.specs.declared.operator.Kind.TheVariants as kind_is
use Rattle.ae_rlang.specs.declared.table.Table.{Table}
use Rattle.ae_rlang.specs.Table.{table_named}
use Rattle.ae_rlang.specs.Operator.{binds, left_binds, right_binds, operator_of, is_other, earlier, bad_where}
use Rattle.ae_rlang.specs.Token.{Token, name, number, string, mark, end, Lexeme}
use Rattle.ae_rlang.specs.Report.{Meant, MeantCell, Deed, deeds_of, no_deeds, title, columns, add, each, choose}
use Rattle.ae_rlang.specs.declared.operand.Bound.{Bound}
use Rattle.ae_rlang.specs.Scope.{Scope, is_among, table_bound}
use Rattle.ae_rlang.specs.Meaning.{table_or_any}
use Rattle.ae_rlang.specs.Bad.{bad_level, max_fors, max_level}
use Rattle.ae_rlang.specs.Kept.{deeds_where}
use Rattle.ae_rlang.specs.Values.{Value, number_value, text_value, flag_value, total_value, field_value, operated_value, negated_value, within_value, timed_value}

-- ---- expressions

-- what waits for a value: an operator with its left side, or `not`
pub data Pending : Type 0 where
  side : Operator → ℕ → Value → Pending
  no : ℕ → Pending

-- an open parenthesis: the line of `time` before it, its own, and what waits outside, the innermost first
pub record Group : Type 0 where
  pub time : Option ℕ
  pub line : ℕ
  pub pendings : List Pending

-- where in an expression the reader is
pub data Point : Type 0 where
  -- a value begins
  waiting : Point
  -- behind a name that isn't yet known to be a total
  named : ℕ → List ℕ → Point
  -- behind a name and `.`
  dotted : ℕ → List ℕ → Point
  -- behind `time`
  timing : ℕ → Point
  -- behind a value
  having : Value → Point

-- how tightly what waits binds
abbrev pub pending_binds : Pending → ℕ
pending_binds (side op l a) = binds op
pending_binds (no l) = 2

-- how tightly has to bind what the innermost waits for
abbrev pub wanted : List Pending → ℕ
wanted [] = 0
wanted (side op l a ∷ ps) = right_binds op
wanted (no l ∷ ps) = 2

-- what waits takes its value
abbrev pub taken : Pending → Value → Value
taken (side op l a) v = operated_value op l a v
taken (no l) v = negated_value l v

-- all that waits and binds so tightly takes the value, the innermost first
abbrev pub reduced : ℕ → List Pending → Value → List Pending × Value
reduced tight [] v = ([], v)
reduced tight (p ∷ ps) v = if nat_le tight (pending_binds p) then reduced tight ps (taken p v) else (p ∷ ps, v)

-- the value of a whole expression
abbrev pub whole : List Pending → Value → Value
whole ps v = (reduced 0 ps v).1

-- how many levels are open inside these parentheses
abbrev pub level_in : List Group → ℕ → ℕ
level_in [] level = level
level_in (g ∷ gs) level = suc (level_in gs level)

abbrev pub timed_where : Option ℕ → Value → Value
timed_where None v = v
timed_where (Some l) v = timed_value l v

-- the value of closed parentheses
abbrev pub closed_value : ℕ → Group → Value → Value
closed_value level g v = timed_where g.time (within_value level g.line v)

-- what a token does to an expression: it goes on, it had ended before the token, or the token can't stand
pub data Turn : Type 0 where
  goes : List Group → List Pending → Point → Turn
  ended : Value → Turn
  stuck : Turn

-- an operator comes, after what binds more tightly has its values
abbrev pub operator_turn : List Group → Operator → ℕ → List Pending × Value → Turn
operator_turn groups op l r = if nat_le (wanted r.0) (binds op) then goes groups (side op l r.1 ∷ r.0) waiting else stuck

-- `)`, or what no expression goes on with
abbrev pub behind_turn : ℕ → List Group → List Pending → Value → Bool → Turn
behind_turn level [] pendings v closes = ended (whole pendings v)
behind_turn level (g ∷ gs) pendings v true = goes gs g.pendings (having (closed_value (level_in gs level) g (whole pendings v)))
behind_turn level (g ∷ gs) pendings v false = stuck

abbrev pub is_close : Token → Bool
is_close (mark mark_is.CloseGroup) = true
is_close other = false

-- the operator that a token is
abbrev pub token_operator : Token → Option Operator
token_operator (mark m) = operator_of m
token_operator other = None

abbrev pub having_by : ℕ → List Group → List Pending → Value → ℕ → Bool → Option Operator → Turn
having_by level groups pendings v l closes (Some op) = operator_turn groups op l (reduced (left_binds op) pendings v)
having_by level groups pendings v l closes None = behind_turn level groups pendings v closes

-- behind a value
abbrev pub having_turn : ℕ → List Group → List Pending → Value → Lexeme → Turn
having_turn level groups pendings v p = having_by level groups pendings v p.line (is_close p.token) (token_operator p.token)

abbrev pub number_turn : List Group → List Pending → ℕ → ℕ → Turn
number_turn groups pendings l n = if nat_lt n (2 ^ 63) then goes groups pendings (having (number_value l n)) else stuck

abbrev pub not_turn : List Group → List Pending → ℕ → Turn
not_turn groups pendings l = if nat_le (wanted pendings) 2 then goes groups (no l ∷ pendings) waiting else stuck

abbrev pub opened : List Group → List Pending → Option ℕ → ℕ → Turn
opened groups pendings time l = goes (record { time = time; line = l; pendings = pendings } ∷ groups) [] waiting

-- where a value begins
abbrev pub waiting_turn : List Group → List Pending → ℕ → Token → Turn
waiting_turn groups pendings l (name w) = goes groups pendings (named l w)
waiting_turn groups pendings l (number n) = number_turn groups pendings l n
waiting_turn groups pendings l (string s) = goes groups pendings (having (text_value l s))
waiting_turn groups pendings l (mark mark_is.True) = goes groups pendings (having (flag_value l true))
waiting_turn groups pendings l (mark mark_is.False) = goes groups pendings (having (flag_value l false))
waiting_turn groups pendings l (mark mark_is.Not) = not_turn groups pendings l
waiting_turn groups pendings l (mark mark_is.Time) = goes groups pendings (timing l)
waiting_turn groups pendings l (mark mark_is.OpenGroup) = opened groups pendings None l
waiting_turn groups pendings l other = stuck

abbrev pub is_dot : Token → Bool
is_dot (mark mark_is.Dot) = true
is_dot other = false

-- behind a name
abbrev pub named_turn : Scope → ℕ → List Group → List Pending → ℕ → List ℕ → Lexeme → Turn
named_turn scope level groups pendings l w p =
    if is_dot p.token then goes groups pendings (dotted l w) else having_turn level groups pendings (total_value scope l w) p

abbrev pub dotted_turn : Scope → List Group → List Pending → ℕ → List ℕ → ℕ → Token → Turn
dotted_turn scope groups pendings l w m (name f) = goes groups pendings (having (field_value scope l w m f))
dotted_turn scope groups pendings l w m other = stuck

abbrev pub timing_turn : List Group → List Pending → ℕ → ℕ → Token → Turn
timing_turn groups pendings l o (mark mark_is.OpenGroup) = opened groups pendings (Some l) o
timing_turn groups pendings l o other = stuck

-- a token in an expression, inside so many blocks
abbrev pub turn : Scope → ℕ → List Group → List Pending → Point → Lexeme → Turn
turn scope level groups pendings waiting p = waiting_turn groups pendings p.line p.token
turn scope level groups pendings (named l w) p = named_turn scope level groups pendings l w p
turn scope level groups pendings (dotted l w) p = dotted_turn scope groups pendings l w p.line p.token
turn scope level groups pendings (timing l) p = timing_turn groups pendings l p.line p.token
turn scope level groups pendings (having v) p = having_turn level groups pendings v p

-- ---- statements

-- the statements of a block so far, and their first bad line
pub record Body : Type 0 where
  pub deeds : List Deed
  pub bad : Option ℕ

-- a block that is open: what stands before its statement, its head, and the first bad line of that
pub data Block : Type 0 where
  of_each : Body → List ℕ → Option Table → Option Meant → Option ℕ → Block
  of_choice : Body → Meant → Option ℕ → Block
  -- and the first body
  of_else : Body → Meant → List Deed → Option ℕ → Block

-- what an expression is read for: a cell, behind those so far; a total; a test
pub data Slot : Type 0 where
  for_cell : List MeantCell → Option ℕ → Slot
  for_total : ℕ → List ℕ → Slot
  for_test : List ℕ → Option Table → Option ℕ → ℕ → Slot
  for_choice : ℕ → Slot

-- what may stand next
pub data Place : Type 0 where
  -- a statement, or the end of the block or of the text
  at_statement : Place
  at_title : Place
  at_title_end : List ℕ → Place
  at_total_name : ℕ → Place
  at_total_equals : ℕ → List ℕ → Place
  at_for_name : ℕ → Place
  at_in : ℕ → ℕ → List ℕ → Place
  at_table : ℕ → ℕ → List ℕ → Place
  -- `where`, or the body
  at_where : List ℕ → Option Table → Option ℕ → Place
  in_expression : Slot → List Group → List Pending → Point → Place
  at_width : List MeantCell → Option ℕ → Value → Place
  -- `right`, or the end of the cell
  at_right : List MeantCell → Option ℕ → Value → ℕ → Place
  -- the end of a cell
  at_comma : List MeantCell → Option ℕ → Place
  -- `else`, or what comes behind the statement
  at_else : Meant → List Deed → Option ℕ → Place
  at_else_body : Meant → List Deed → Option ℕ → Place
  -- the text has ended
  done : Place

-- what is around the place: the names that are bound, the blocks, the innermost first, and the statements of the innermost
pub record Around : Type 0 where
  pub bound : List Bound
  pub blocks : List Block
  pub body : Body

pub record State : Type 0 where
  pub around : Around
  pub place : Place

abbrev pub empty_body : Body
empty_body = record { deeds = []; bad = None }

abbrev pub start : State
start = record { around = record { bound = []; blocks = []; body = empty_body }; place = at_statement }

abbrev pub moved : Around → Place → Option State
moved around place = Some (record { around = around; place = place })

abbrev pub pushed : Body → Deed → Option ℕ → Body
pushed body deed line = record { deeds = body.deeds ++ deed ∷ []; bad = earlier body.bad line }

-- the statements with one more
abbrev pub with_deed : Around → Deed → Option ℕ → Around
with_deed around deed line = record { bound = around.bound; blocks = around.blocks; body = pushed around.body deed line }

abbrev pub done_with : Around → Deed → Option ℕ → Option State
done_with around deed line = moved (with_deed around deed line) at_statement

-- a block is opened
abbrev pub inside : Around → Block → Around
inside around block = record { bound = around.bound; blocks = block ∷ around.blocks; body = empty_body }

abbrev pub dropped : List Bound → List Bound
dropped [] = []
dropped (b ∷ bs) = bs

-- the statements of a block inside these
abbrev pub inside_deeds : List Block → Body → List Deed
inside_deeds blocks body = deeds_where (nat_le max_level (length blocks)) body.deeds

-- the innermost block is closed
abbrev pub close_step : List Bound → List Block → Body → Option State
close_step bound [] body = None
close_step bound (of_each outer w table test line ∷ blocks) body =
    done_with (record { bound = dropped bound; blocks = blocks; body = outer }) (each w (table_or_any table) test (deeds_of (inside_deeds blocks body))) (earlier line body.bad)
close_step bound (of_choice outer test line ∷ blocks) body =
    moved (record { bound = bound; blocks = blocks; body = outer }) (at_else test (inside_deeds blocks body) (earlier line body.bad))
close_step bound (of_else outer test first line ∷ blocks) body =
    done_with (record { bound = bound; blocks = blocks; body = outer }) (choose test (deeds_of first) (deeds_of (inside_deeds blocks body))) (earlier line body.bad)

abbrev pub end_step : Around → List Block → Option State
end_step around [] = moved around done
end_step around (b ∷ blocks) = None

-- a statement, or the end
abbrev pub statement_step : Around → ℕ → Token → Option State
statement_step around l (mark mark_is.Title) = moved around at_title
statement_step around l (mark mark_is.Columns) = moved around (in_expression (for_cell [] None) [] [] waiting)
statement_step around l (mark mark_is.Total) = moved around (at_total_name l)
statement_step around l (mark mark_is.For) = moved around (at_for_name l)
statement_step around l (mark mark_is.If) = moved around (in_expression (for_choice l) [] [] waiting)
statement_step around l (mark mark_is.CloseBlock) = close_step around.bound around.blocks around.body
statement_step around l end = end_step around around.blocks
statement_step around l other = None

abbrev pub title_step : Around → Token → Option State
title_step around (string s) = moved around (at_title_end s)
title_step around other = None

abbrev pub title_end_step : Around → List ℕ → Token → Option State
title_end_step around s (mark mark_is.Semicolon) = done_with around (title s) None
title_end_step around s other = None

abbrev pub total_name_step : Around → ℕ → Token → Option State
total_name_step around l (name w) = moved around (at_total_equals l w)
total_name_step around l other = None

abbrev pub total_equals_step : Around → ℕ → List ℕ → Token → Option State
total_equals_step around l w (mark mark_is.Assign) = moved around (in_expression (for_total l w) [] [] waiting)
total_equals_step around l w other = None

abbrev pub for_name_step : Around → ℕ → ℕ → Token → Option State
for_name_step around l m (name w) = moved around (at_in l m w)
for_name_step around l m other = None

abbrev pub in_step : Around → ℕ → ℕ → List ℕ → Token → Option State
in_step around l m w (mark mark_is.In) = moved around (at_table l m w)
in_step around l m w other = None

-- the first bad line of the head of a `for` up to its table
abbrev pub header_bad : List (List ℕ) → List Bound → ℕ → ℕ → List ℕ → ℕ → List ℕ → Option ℕ
header_bad totals bound l m w k t =
    earlier (earlier (bad_where (nat_le max_fors (length bound)) l) (bad_where (is_among w totals || is_some (table_bound w bound)) m))
    (bad_where (not (is_some (table_named t))) k)

-- the name is bound
abbrev pub with_bound : Around → List ℕ → Option Table → Around
with_bound around w table = record { bound = record { name = w; table = table } ∷ around.bound; blocks = around.blocks; body = around.body }

abbrev pub table_step : List (List ℕ) → Around → ℕ → ℕ → List ℕ → ℕ → Token → Option State
table_step totals around l m w k (name t) = moved (with_bound around w (table_named t)) (at_where w (table_named t) (header_bad totals around.bound l m w k t))
table_step totals around l m w k other = None

-- the first bad line of a head, with the sign that opens its block
abbrev pub opening_bad : List Block → Option ℕ → ℕ → Option ℕ
opening_bad blocks line o = earlier line (bad_level (length blocks) o)

abbrev pub where_step : Around → List ℕ → Option Table → Option ℕ → ℕ → Token → Option State
where_step around w table line l (mark mark_is.Where) = moved around (in_expression (for_test w table line l) [] [] waiting)
where_step around w table line l (mark mark_is.OpenBlock) =
    moved (inside around (of_each around.body w table None (opening_bad around.blocks (earlier line None) l))) at_statement
where_step around w table line l other = None

-- an expression has ended, and this token is behind it
abbrev pub slot_step : Around → Slot → Value → ℕ → Token → Option State
slot_step around (for_cell cells line) v l (mark mark_is.Colon) = moved around (at_width cells line v)
slot_step around (for_total t w) v l (mark mark_is.Semicolon) = done_with around (add t w v.node) (earlier v.bad (bad_where (is_other v.kind kind_is.Number) t))
slot_step around (for_test w table line t) v l (mark mark_is.OpenBlock) =
    moved (inside around (of_each around.body w table (Some v.node) (opening_bad around.blocks (earlier line (earlier v.bad (bad_where (is_other v.kind kind_is.Flag) t))) l)))
    at_statement
slot_step around (for_choice t) v l (mark mark_is.OpenBlock) =
    moved (inside around (of_choice around.body v.node (opening_bad around.blocks (earlier v.bad (bad_where (is_other v.kind kind_is.Flag) t)) l))) at_statement
slot_step around slot v l other = None

abbrev pub turned : Around → Slot → Lexeme → Turn → Option State
turned around slot p (goes groups pendings point) = moved around (in_expression slot groups pendings point)
turned around slot p (ended v) = slot_step around slot v p.line p.token
turned around slot p stuck = None

abbrev pub width_step : Around → List MeantCell → Option ℕ → Value → Token → Option State
width_step around cells line v (number w) = if nat_le 1 w && nat_le w 200 then moved around (at_right cells line v w) else None
width_step around cells line v other = None

abbrev pub with_cell : List MeantCell → Value → ℕ → Bool → List MeantCell
with_cell cells v w right = cells ++ record { value = v.node; width = w; right = right } ∷ []

-- behind a cell
abbrev pub comma_step : Around → List MeantCell → Option ℕ → Token → Option State
comma_step around cells line (mark mark_is.Comma) = moved around (in_expression (for_cell cells line) [] [] waiting)
comma_step around cells line (mark mark_is.Semicolon) = done_with around (columns cells) line
comma_step around cells line other = None

abbrev pub is_right : Token → Bool
is_right (mark mark_is.Right) = true
is_right other = false

abbrev pub right_step : Around → List MeantCell → Option ℕ → Value → ℕ → Token → Option State
right_step around cells line v w t =
    if is_right t then moved around (at_comma (with_cell cells v w true) (earlier line v.bad)) else comma_step around (with_cell cells v w false) (earlier line v.bad) t

abbrev pub is_else : Token → Bool
is_else (mark mark_is.Else) = true
is_else other = false

-- an `if` without `else`
abbrev pub without_else : Around → Meant → List Deed → Option ℕ → Around
without_else around test first line = with_deed around (choose test (deeds_of first) no_deeds) line

abbrev pub else_step : Around → Meant → List Deed → Option ℕ → ℕ → Token → Option State
else_step around test first line l t = if is_else t then moved around (at_else_body test first line) else statement_step (without_else around test first line) l t

abbrev pub else_body_step : Around → Meant → List Deed → Option ℕ → ℕ → Token → Option State
else_body_step around test first line l (mark mark_is.OpenBlock) = moved (inside around (of_else around.body test first (opening_bad around.blocks line l))) at_statement
else_body_step around test first line l other = None

abbrev pub scope_at : List (List ℕ) → Around → Scope
scope_at totals around = record { totals = totals; bound = around.bound }

abbrev pub place_step : List (List ℕ) → Around → Place → Lexeme → Option State
place_step totals around at_statement p = statement_step around p.line p.token
place_step totals around at_title p = title_step around p.token
place_step totals around (at_title_end s) p = title_end_step around s p.token
place_step totals around (at_total_name l) p = total_name_step around l p.token
place_step totals around (at_total_equals l w) p = total_equals_step around l w p.token
place_step totals around (at_for_name l) p = for_name_step around l p.line p.token
place_step totals around (at_in l m w) p = in_step around l m w p.token
place_step totals around (at_table l m w) p = table_step totals around l m w p.line p.token
place_step totals around (at_where w table line) p = where_step around w table line p.line p.token
place_step totals around (in_expression slot groups pendings point) p =
    turned around slot p (turn (scope_at totals around) (length around.blocks) groups pendings point p)
place_step totals around (at_width cells line v) p = width_step around cells line v p.token
place_step totals around (at_right cells line v w) p = right_step around cells line v w p.token
place_step totals around (at_comma cells line) p = comma_step around cells line p.token
place_step totals around (at_else test first line) p = else_step around test first line p.line p.token
place_step totals around (at_else_body test first line) p = else_body_step around test first line p.line p.token
place_step totals around done p = None

-- the state after one token
unfoldable pub step : List (List ℕ) → State → Lexeme → Option State
step totals s p = place_step totals s.around s.place p

-- the state after these tokens
unfoldable pub run : List (List ℕ) → Option State → List Lexeme → Option State
run totals s [] = s
run totals None (p ∷ ps) = None
run totals (Some s) (p ∷ ps) = run totals (step totals s p) ps
