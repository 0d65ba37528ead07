-- What the reader has read so far, as it is written, and what it keeps of that.
use Rattle.std.specs.Prelude.{ℕ, suc, ◌≤◌, nat_le, length, List, [], ◌∷◌, ◌++◌, Option, Some, None}
use Rattle.ae_rlang.specs.declared.token.Mark.TheVariants as mark_is
use Rattle.ae_rlang.specs.declared.operator.Operator.{Operator}
use Rattle.ae_rlang.specs.declared.operator.Kind.TheVariants as kind_is
use Rattle.ae_rlang.specs.Table.{table_named}
use Rattle.ae_rlang.specs.Operator.{binds, left_binds, right_binds, mark_of, earlier, is_other}
use Rattle.ae_rlang.specs.Token.{name, number, string, end, Lexeme}
use Rattle.ae_rlang.specs.Report.{MeantCell, Deed}
use Rattle.ae_rlang.specs.Written.{Expression, Cells, Test, Statements, at, put, spelled, spelled_cells, spelled_test, spelled_body}
use Rattle.ae_rlang.specs.Grammar.{IsExpression, AreCells, IsTest, IsWidth, AreStatements}
use Rattle.ae_rlang.specs.declared.operand.Bound.{Bound}
use Rattle.ae_rlang.specs.Scope.{Scope}
use Rattle.ae_rlang.specs.Meaning.{bound_within}
use Rattle.ae_rlang.specs.Bad.{max_level, bad_level, bad_cells, bad_test, bad_body, bad_header, bad_operand}
use Rattle.ae_rlang.specs.Kept.{kept, kept_cells, kept_test, kept_body, deeds_where}
use Rattle.ae_rlang.specs.Scope.{kind_in}
use Rattle.ae_rlang.specs.Values.{value_of}
use Rattle.ae_rlang.specs.Machine as machine

-- ---- expressions

pub data Waiting : Type 0 where
  side : Operator → ℕ → Expression → Waiting
  no : ℕ → Waiting

-- an open parenthesis, and what waits outside
pub data Opened : Type 0 where
  grouping : ℕ → List Waiting → Opened
  -- behind `time` in the first line
  calling : ℕ → ℕ → List Waiting → Opened

pub data At : Type 0 where
  begins : At
  named : ℕ → List ℕ → At
  dotted : ℕ → List ℕ → ℕ → At
  timing : ℕ → At
  having : Expression → At

abbrev pub spelled_waiting : Waiting → List Lexeme
spelled_waiting (side op l e) = spelled e ++ at l (mark_of op) ∷ []
spelled_waiting (no l) = at l mark_is.Not ∷ []

abbrev pub spelled_all : List Waiting → List Lexeme
spelled_all [] = []
spelled_all (w ∷ ws) = spelled_all ws ++ spelled_waiting w

abbrev pub spelled_opened : Opened → List Lexeme
spelled_opened (grouping o ws) = spelled_all ws ++ at o mark_is.OpenGroup ∷ []
spelled_opened (calling l o ws) = spelled_all ws ++ at l mark_is.Time ∷ at o mark_is.OpenGroup ∷ []

abbrev pub spelled_groups : List Opened → List Lexeme
spelled_groups [] = []
spelled_groups (g ∷ gs) = spelled_groups gs ++ spelled_opened g

abbrev pub spelled_at : At → List Lexeme
spelled_at begins = []
spelled_at (named l w) = put l (name w) ∷ []
spelled_at (dotted l w d) = put l (name w) ∷ at d mark_is.Dot ∷ []
spelled_at (timing l) = at l mark_is.Time ∷ []
spelled_at (having e) = spelled e

abbrev pub spelled_open : List Opened → List Waiting → At → List Lexeme
spelled_open gs ws a = spelled_groups gs ++ (spelled_all ws ++ spelled_at a)

-- how tightly has to bind what the innermost waits for
abbrev pub wants : List Waiting → ℕ
wants [] = 0
wants (side op l e ∷ ws) = right_binds op
wants (no l ∷ ws) = 2

abbrev pub AreWaiting : List Waiting → Type 0
AreWaiting [] = Unit {0}
AreWaiting (side op l e ∷ ws) = IsExpression (left_binds op) e × (wants ws ≤ binds op) × AreWaiting ws
AreWaiting (no l ∷ ws) = (wants ws ≤ 2) × AreWaiting ws

abbrev pub AreOpened : List Opened → Type 0
AreOpened [] = Unit {0}
AreOpened (grouping o ws ∷ gs) = AreWaiting ws × AreOpened gs
AreOpened (calling l o ws ∷ gs) = AreWaiting ws × AreOpened gs

abbrev pub IsAt : At → Type 0
IsAt begins = Unit {0}
IsAt (named l w) = Unit {0}
IsAt (dotted l w d) = Unit {0}
IsAt (timing l) = Unit {0}
IsAt (having e) = IsExpression 5 e

abbrev pub pending_of : Scope → ℕ → Waiting → machine.Pending
pending_of scope level (side op l e) = machine.side op l (value_of scope level e)
pending_of scope level (no l) = machine.no l

abbrev pub pendings_of : Scope → ℕ → List Waiting → List machine.Pending
pendings_of scope level [] = []
pendings_of scope level (w ∷ ws) = pending_of scope level w ∷ pendings_of scope level ws

abbrev pub group_of : Scope → ℕ → Opened → machine.Group
group_of scope level (grouping o ws) = record { time = None; line = o; pendings = pendings_of scope level ws }
group_of scope level (calling l o ws) = record { time = Some l; line = o; pendings = pendings_of scope level ws }

abbrev pub groups_of : Scope → ℕ → List Opened → List machine.Group
groups_of scope level [] = []
groups_of scope level (g ∷ gs) = group_of scope (machine.level_in (groups_of scope level gs) level) g ∷ groups_of scope level gs

abbrev pub point_of : Scope → ℕ → At → machine.Point
point_of scope level begins = machine.waiting
point_of scope level (named l w) = machine.named l w
point_of scope level (dotted l w d) = machine.dotted l w
point_of scope level (timing l) = machine.timing l
point_of scope level (having e) = machine.having (value_of scope level e)

-- the level where the reader is
abbrev pub level_of : Scope → ℕ → List Opened → ℕ
level_of scope level gs = machine.level_in (groups_of scope level gs) level

-- ---- statements

-- the cells before one
pub data Front : Type 0 where
  first_cell : ℕ → Front
  next_cell : ℕ → Cells → ℕ → Front

-- what an expression is read for
pub data Use : Type 0 where
  for_cell : Front → Use
  for_total : ℕ → ℕ → List ℕ → ℕ → Use
  for_test : ℕ → ℕ → List ℕ → ℕ → ℕ → List ℕ → ℕ → Use
  for_choice : ℕ → Use

pub data Spot : Type 0 where
  at_statement : Spot
  at_title : ℕ → Spot
  at_title_end : ℕ → ℕ → List ℕ → Spot
  at_total_name : ℕ → Spot
  at_total_equals : ℕ → ℕ → List ℕ → Spot
  at_for_name : ℕ → Spot
  at_in : ℕ → ℕ → List ℕ → Spot
  at_table : ℕ → ℕ → List ℕ → ℕ → Spot
  at_where : ℕ → ℕ → List ℕ → ℕ → ℕ → List ℕ → Spot
  in_expression : Use → List Opened → List Waiting → At → Spot
  at_width : Front → Expression → ℕ → Spot
  at_right : Front → Expression → ℕ → ℕ → ℕ → Spot
  at_comma : ℕ → Cells → Spot
  at_else : ℕ → Expression → ℕ → Statements → ℕ → Spot
  at_else_body : ℕ → Expression → ℕ → Statements → ℕ → ℕ → Spot
  done : ℕ → Spot

-- an open block: the statements before it, and its head
pub data Open : Type 0 where
  of_each : Statements → ℕ → ℕ → List ℕ → ℕ → ℕ → List ℕ → Test → ℕ → Open
  of_choice : Statements → ℕ → Expression → ℕ → Open
  of_else : Statements → ℕ → Expression → ℕ → Statements → ℕ → ℕ → ℕ → Open

pub record Draft : Type 0 where
  pub blocks : List Open
  pub body : Statements
  pub spot : Spot

abbrev pub spelled_front : Front → List Lexeme
spelled_front (first_cell l) = at l mark_is.Columns ∷ []
spelled_front (next_cell l cs k) = at l mark_is.Columns ∷ (spelled_cells cs ++ at k mark_is.Comma ∷ [])

abbrev pub spelled_for : ℕ → ℕ → List ℕ → ℕ → ℕ → List ℕ → List Lexeme → List Lexeme
spelled_for l m w i k t rest = at l mark_is.For ∷ put m (name w) ∷ at i mark_is.In ∷ put k (name t) ∷ rest

abbrev pub spelled_use : Use → List Lexeme
spelled_use (for_cell f) = spelled_front f
spelled_use (for_total l m w q) = at l mark_is.Total ∷ put m (name w) ∷ at q mark_is.Assign ∷ []
spelled_use (for_test l m w i k t h) = spelled_for l m w i k t (at h mark_is.Where ∷ [])
spelled_use (for_choice l) = at l mark_is.If ∷ []

abbrev pub spelled_choice : ℕ → Expression → ℕ → Statements → List Lexeme → List Lexeme
spelled_choice l e o first rest = at l mark_is.If ∷ (spelled e ++ at o mark_is.OpenBlock ∷ (spelled_body first ++ rest))

abbrev pub spelled_spot : Spot → List Lexeme
spelled_spot at_statement = []
spelled_spot (at_title l) = at l mark_is.Title ∷ []
spelled_spot (at_title_end l m s) = at l mark_is.Title ∷ put m (string s) ∷ []
spelled_spot (at_total_name l) = at l mark_is.Total ∷ []
spelled_spot (at_total_equals l m w) = at l mark_is.Total ∷ put m (name w) ∷ []
spelled_spot (at_for_name l) = at l mark_is.For ∷ []
spelled_spot (at_in l m w) = at l mark_is.For ∷ put m (name w) ∷ []
spelled_spot (at_table l m w i) = at l mark_is.For ∷ put m (name w) ∷ at i mark_is.In ∷ []
spelled_spot (at_where l m w i k t) = spelled_for l m w i k t []
spelled_spot (in_expression u gs ws a) = spelled_use u ++ spelled_open gs ws a
spelled_spot (at_width f e c) = spelled_front f ++ (spelled e ++ at c mark_is.Colon ∷ [])
spelled_spot (at_right f e c m w) = spelled_front f ++ (spelled e ++ at c mark_is.Colon ∷ put m (number w) ∷ [])
spelled_spot (at_comma l cs) = at l mark_is.Columns ∷ spelled_cells cs
spelled_spot (at_else l e o first c) = spelled_choice l e o first (at c mark_is.CloseBlock ∷ [])
spelled_spot (at_else_body l e o first c k) = spelled_choice l e o first (at c mark_is.CloseBlock ∷ at k mark_is.Else ∷ [])
spelled_spot (done l) = put l end ∷ []

abbrev pub spelled_head : Open → List Lexeme
spelled_head (of_each outer l m w i k t h o) = spelled_for l m w i k t (spelled_test h ++ at o mark_is.OpenBlock ∷ [])
spelled_head (of_choice outer l e o) = at l mark_is.If ∷ (spelled e ++ at o mark_is.OpenBlock ∷ [])
spelled_head (of_else outer l e o first c k p) = spelled_choice l e o first (at c mark_is.CloseBlock ∷ at k mark_is.Else ∷ at p mark_is.OpenBlock ∷ [])

abbrev pub outer_of : Open → Statements
outer_of (of_each outer l m w i k t h o) = outer
outer_of (of_choice outer l e o) = outer
outer_of (of_else outer l e o first c k p) = outer

abbrev pub spelled_blocks : List Open → List Lexeme
spelled_blocks [] = []
spelled_blocks (b ∷ bs) = spelled_blocks bs ++ (spelled_body (outer_of b) ++ spelled_head b)

abbrev pub spelled_draft : Draft → List Lexeme
spelled_draft d = spelled_blocks d.blocks ++ (spelled_body d.body ++ spelled_spot d.spot)

-- ---- in the grammar, as far as it goes

abbrev pub IsFront : Front → Type 0
IsFront (first_cell l) = Unit {0}
IsFront (next_cell l cs k) = AreCells cs

abbrev pub IsUse : Use → Type 0
IsUse (for_cell f) = IsFront f
IsUse (for_total l m w q) = Unit {0}
IsUse (for_test l m w i k t h) = Unit {0}
IsUse (for_choice l) = Unit {0}

-- the text ends in no block
abbrev pub AreNone : List Open → Type 0
AreNone [] = Unit {0}
AreNone (b ∷ bs) = ⊥

abbrev pub IsSpot : List Open → Spot → Type 0
IsSpot bs at_statement = Unit {0}
IsSpot bs (at_title l) = Unit {0}
IsSpot bs (at_title_end l m s) = Unit {0}
IsSpot bs (at_total_name l) = Unit {0}
IsSpot bs (at_total_equals l m w) = Unit {0}
IsSpot bs (at_for_name l) = Unit {0}
IsSpot bs (at_in l m w) = Unit {0}
IsSpot bs (at_table l m w i) = Unit {0}
IsSpot bs (at_where l m w i k t) = Unit {0}
IsSpot bs (in_expression u gs ws a) = IsUse u × AreOpened gs × AreWaiting ws × IsAt a
IsSpot bs (at_width f e c) = IsFront f × IsExpression 0 e
IsSpot bs (at_right f e c m w) = IsFront f × IsExpression 0 e × IsWidth w
IsSpot bs (at_comma l cs) = AreCells cs
IsSpot bs (at_else l e o first c) = IsExpression 0 e × AreStatements first
IsSpot bs (at_else_body l e o first c k) = IsExpression 0 e × AreStatements first
IsSpot bs (done l) = AreNone bs

abbrev pub AreOpen : List Open → Type 0
AreOpen [] = Unit {0}
AreOpen (of_each outer l m w i k t h o ∷ bs) = AreStatements outer × IsTest h × AreOpen bs
AreOpen (of_choice outer l e o ∷ bs) = AreStatements outer × IsExpression 0 e × AreOpen bs
AreOpen (of_else outer l e o first c k p ∷ bs) = AreStatements outer × IsExpression 0 e × AreStatements first × AreOpen bs

abbrev pub IsDraft : Draft → Type 0
IsDraft d = AreOpen d.blocks × AreStatements d.body × IsSpot d.blocks d.spot

-- ---- what is kept of it

abbrev pub bound_in : List Open → List Bound
bound_in [] = []
bound_in (of_each outer l m w i k t h o ∷ bs) = bound_within w t (bound_in bs)
bound_in (of_choice outer l e o ∷ bs) = bound_in bs
bound_in (of_else outer l e o first c k p ∷ bs) = bound_in bs

abbrev pub scope_of : List (List ℕ) → List Bound → Scope
scope_of totals bound = record { totals = totals; bound = bound }

abbrev pub body_of : List (List ℕ) → List Bound → ℕ → Statements → machine.Body
body_of totals bound level ss = record { deeds = kept_body bound level ss; bad = bad_body (scope_of totals bound) level ss }

-- the statements of a first body, inside so many levels
abbrev pub first_kept : List Bound → ℕ → Statements → List Deed
first_kept bound level first = deeds_where (nat_le max_level level) (kept_body bound (suc level) first)

-- the first bad line of an expression that has to be a flag
abbrev pub bad_flag : Scope → ℕ → Expression → ℕ → Option ℕ
bad_flag scope level e l = bad_operand scope level e (is_other (kind_in scope e) kind_is.Flag) l

abbrev pub bad_choice : Scope → ℕ → Expression → ℕ → ℕ → Option ℕ
bad_choice scope level e l o = earlier (bad_flag scope level e l) (bad_level level o)

abbrev pub bad_first : Scope → ℕ → Expression → ℕ → ℕ → Statements → Option ℕ
bad_first scope level e l o first = earlier (bad_choice scope level e l o) (bad_body scope (suc level) first)

abbrev pub block_of : List (List ℕ) → List Bound → ℕ → Open → machine.Block
block_of totals bound level (of_each outer l m w i k t h o) =
    machine.of_each (body_of totals bound level outer) w (table_named t) (kept_test (bound_within w t bound) level h)
    (earlier (earlier (bad_header (scope_of totals bound) l m w k t) (bad_test (scope_of totals (bound_within w t bound)) level h)) (bad_level level o))
block_of totals bound level (of_choice outer l e o) =
    machine.of_choice (body_of totals bound level outer) (kept bound level e) (bad_choice (scope_of totals bound) level e l o)
block_of totals bound level (of_else outer l e o first c k p) =
    machine.of_else (body_of totals bound level outer) (kept bound level e) (first_kept bound level first) (earlier (bad_first (scope_of totals bound) level e l o first) (bad_level level p))

abbrev pub blocks_of : List (List ℕ) → List Open → List machine.Block
blocks_of totals [] = []
blocks_of totals (b ∷ bs) = block_of totals (bound_in bs) (length (blocks_of totals bs)) b ∷ blocks_of totals bs

abbrev pub front_cells : List Bound → ℕ → Front → List MeantCell
front_cells bound level (first_cell l) = []
front_cells bound level (next_cell l cs k) = kept_cells bound level cs

abbrev pub front_bad : Scope → ℕ → Front → Option ℕ
front_bad scope level (first_cell l) = None
front_bad scope level (next_cell l cs k) = bad_cells scope level cs

abbrev pub slot_of : Scope → ℕ → Use → machine.Slot
slot_of scope level (for_cell f) = machine.for_cell (front_cells scope.bound level f) (front_bad scope level f)
slot_of scope level (for_total l m w q) = machine.for_total l w
slot_of scope level (for_test l m w i k t h) = machine.for_test w (table_named t) (bad_header scope l m w k t) h
slot_of scope level (for_choice l) = machine.for_choice l

-- the names that are bound in an expression
abbrev pub bound_for : List Bound → Use → List Bound
bound_for bound (for_cell f) = bound
bound_for bound (for_total l m w q) = bound
bound_for bound (for_test l m w i k t h) = bound_within w t bound
bound_for bound (for_choice l) = bound

abbrev pub place_of : Scope → Scope → ℕ → Spot → machine.Place
place_of scope inner level at_statement = machine.at_statement
place_of scope inner level (at_title l) = machine.at_title
place_of scope inner level (at_title_end l m s) = machine.at_title_end s
place_of scope inner level (at_total_name l) = machine.at_total_name l
place_of scope inner level (at_total_equals l m w) = machine.at_total_equals l w
place_of scope inner level (at_for_name l) = machine.at_for_name l
place_of scope inner level (at_in l m w) = machine.at_in l m w
place_of scope inner level (at_table l m w i) = machine.at_table l m w
place_of scope inner level (at_where l m w i k t) = machine.at_where w (table_named t) (bad_header scope l m w k t)
place_of scope inner level (in_expression u gs ws a) =
    machine.in_expression (slot_of scope level u) (groups_of inner level gs) (pendings_of inner (level_of inner level gs) ws) (point_of inner (level_of inner level gs) a)
place_of scope inner level (at_width f e c) = machine.at_width (front_cells scope.bound level f) (front_bad scope level f) (value_of scope level e)
place_of scope inner level (at_right f e c m w) = machine.at_right (front_cells scope.bound level f) (front_bad scope level f) (value_of scope level e) w
place_of scope inner level (at_comma l cs) = machine.at_comma (kept_cells scope.bound level cs) (bad_cells scope level cs)
place_of scope inner level (at_else l e o first c) = machine.at_else (kept scope.bound level e) (first_kept scope.bound level first) (bad_first scope level e l o first)
place_of scope inner level (at_else_body l e o first c k) = machine.at_else_body (kept scope.bound level e) (first_kept scope.bound level first) (bad_first scope level e l o first)
place_of scope inner level (done l) = machine.done

-- the names that are bound where the reader is
abbrev pub bound_at : List Bound → Spot → List Bound
bound_at bound at_statement = bound
bound_at bound (at_title l) = bound
bound_at bound (at_title_end l m s) = bound
bound_at bound (at_total_name l) = bound
bound_at bound (at_total_equals l m w) = bound
bound_at bound (at_for_name l) = bound
bound_at bound (at_in l m w) = bound
bound_at bound (at_table l m w i) = bound
bound_at bound (at_where l m w i k t) = bound_within w t bound
bound_at bound (in_expression u gs ws a) = bound_for bound u
bound_at bound (at_width f e c) = bound
bound_at bound (at_right f e c m w) = bound
bound_at bound (at_comma l cs) = bound
bound_at bound (at_else l e o first c) = bound
bound_at bound (at_else_body l e o first c k) = bound
bound_at bound (done l) = bound

abbrev pub state_of : List (List ℕ) → Draft → machine.State
state_of totals d = record {
  around = record {
    bound = bound_at (bound_in d.blocks) d.spot;
    blocks = blocks_of totals d.blocks;
    body = body_of totals (bound_in d.blocks) (length (blocks_of totals d.blocks)) d.body;
  };
  place = place_of (scope_of totals (bound_in d.blocks)) (scope_of totals (bound_at (bound_in d.blocks) d.spot)) (length (blocks_of totals d.blocks)) d.spot;
}
