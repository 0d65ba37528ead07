-- The reader's values as those of the definitions.
use Rattle.std.specs.Prelude.{◌≡◌, List, map, reverse, Result, Ok, Err, Option, Some, None, option_map}
use Rattle.ae_rlang.specs.View.{meaning, cells_seen, deeds_seen}
use Rattle.ae_rlang.specs.Token as tokens
use Rattle.ae_rlang.specs.Scope as scope
use Rattle.ae_rlang.specs.Values as values
use Rattle.ae_rlang.specs.Machine as spec
use Rattle.ae_rlang.specs.declared.token.Token.{Token}
use Rattle.ae_rlang.specs.declared.token.Token.TheVariants as token_is
use Rattle.ae_rlang.specs.declared.token.Lexeme.{Lexeme}
use Rattle.ae_rlang.specs.declared.operand.Scope.{Scope}
use Rattle.ae_rlang.specs.declared.operand.Operand.{Operand}
use Rattle.ae_rlang.specs.declared.expression.Pending.{Pending}
use Rattle.ae_rlang.specs.declared.expression.Pending.TheVariants as pending_is
use Rattle.ae_rlang.specs.declared.expression.Group.{Group}
use Rattle.ae_rlang.specs.declared.expression.Point.{Point}
use Rattle.ae_rlang.specs.declared.expression.Point.TheVariants as point_is
use Rattle.ae_rlang.specs.declared.expression.Turn.{Turn}
use Rattle.ae_rlang.specs.declared.expression.Turn.TheVariants as turn_is
use Rattle.ae_rlang.specs.declared.statement.Body.{Body}
use Rattle.ae_rlang.specs.declared.statement.Block.{Block}
use Rattle.ae_rlang.specs.declared.statement.Block.TheVariants as block_is
use Rattle.ae_rlang.specs.declared.statement.Slot.{Slot}
use Rattle.ae_rlang.specs.declared.statement.Slot.TheVariants as slot_is
use Rattle.ae_rlang.specs.declared.statement.Place.{Place}
use Rattle.ae_rlang.specs.declared.statement.Place.TheVariants as place_is
use Rattle.ae_rlang.specs.declared.statement.Around.{Around}
use Rattle.ae_rlang.specs.declared.statement.State.{State}
use Rattle.ae_rlang.specs.declared.statement.Stop.{Stop}
use Rattle.ae_rlang.specs.declared.statement.Stop.TheVariants as stop_is

abbrev pub token_of : Token → tokens.Token
token_of (token_is.Name t) = tokens.name t
token_of (token_is.Number n) = tokens.number n
token_of (token_is.Str t) = tokens.string t
token_of (token_is.Mark m) = tokens.mark m
token_of token_is.End = tokens.end
token_of token_is.Bad = tokens.bad

abbrev pub lexeme_of : Lexeme → tokens.Lexeme
lexeme_of p = record { line = p.line; token = token_of p.token }

abbrev pub lexemes_seen : List Lexeme → List tokens.Lexeme
lexemes_seen ps = map lexeme_of ps

abbrev pub scope_seen : Scope → scope.Scope
scope_seen s = record { totals = s.totals.now; bound = s.bound.now }

abbrev pub value_seen : Operand → values.Value
value_seen v = record { node = meaning v.expr; kind = v.kind; bad = v.bad }

abbrev pub pending_seen : Pending → spec.Pending
pending_seen (pending_is.Side op line left) = spec.side op line (value_seen left)
pending_seen (pending_is.Not line) = spec.no line

abbrev pub pendings_seen : List Pending → List spec.Pending
pendings_seen ps = reverse (map pending_seen ps)

abbrev pub group_seen : Group → spec.Group
group_seen g = record { time = g.time; line = g.line; pendings = pendings_seen g.pendings.items }

abbrev pub groups_seen : List Group → List spec.Group
groups_seen gs = reverse (map group_seen gs)

abbrev pub point_seen : Point → spec.Point
point_seen point_is.Waiting = spec.waiting
point_seen (point_is.Named line name) = spec.named line name
point_seen (point_is.Dotted line name) = spec.dotted line name
point_seen (point_is.Timing line) = spec.timing line
point_seen (point_is.Having v) = spec.having (value_seen v)

-- what a token does to an expression, and the token where the expression had ended
abbrev pub TurnIs : tokens.Token → spec.Turn → Turn → Type 0
TurnIs t given (turn_is.Goes groups pendings point) = given ≡ spec.goes (groups_seen groups.items) (pendings_seen pendings.items) (point_seen point)
TurnIs t given (turn_is.Ended v u) = (given ≡ spec.ended (value_seen v)) × (token_of u ≡ t)
TurnIs t given turn_is.Stuck = given ≡ spec.stuck

abbrev pub body_seen : Body → spec.Body
body_seen b = record { deeds = deeds_seen b.statements.items; bad = b.bad }

abbrev pub block_seen : Block → spec.Block
block_seen (block_is.Each outer name table test line) = spec.of_each (body_seen outer) name table (option_map meaning test) line
block_seen (block_is.Choice outer test line) = spec.of_choice (body_seen outer) (meaning test) line
block_seen (block_is.Else outer test first line) = spec.of_else (body_seen outer) (meaning test) (deeds_seen first.items) line

abbrev pub blocks_seen : List Block → List spec.Block
blocks_seen bs = reverse (map block_seen bs)

abbrev pub slot_seen : Slot → spec.Slot
slot_seen (slot_is.Cell cells line) = spec.for_cell (cells_seen cells.items) line
slot_seen (slot_is.Total line name) = spec.for_total line name
slot_seen (slot_is.Test head word_line) = spec.for_test head.name head.table head.bad word_line
slot_seen (slot_is.Choice line) = spec.for_choice line

abbrev pub place_seen : Place → spec.Place
place_seen place_is.AtStatement = spec.at_statement
place_seen place_is.AtTitle = spec.at_title
place_seen (place_is.AtTitleEnd text) = spec.at_title_end text
place_seen (place_is.AtTotalName line) = spec.at_total_name line
place_seen (place_is.AtTotalEquals line name) = spec.at_total_equals line name
place_seen (place_is.AtForName line) = spec.at_for_name line
place_seen (place_is.AtIn front) = spec.at_in front.line front.name_line front.name
place_seen (place_is.AtTable front) = spec.at_table front.line front.name_line front.name
place_seen (place_is.AtWhere head) = spec.at_where head.name head.table head.bad
place_seen (place_is.InExpression r) =
    spec.in_expression (slot_seen r.slot) (groups_seen r.groups.items) (pendings_seen r.pendings.items) (point_seen r.point)
place_seen (place_is.AtWidth cells line v) = spec.at_width (cells_seen cells.items) line (value_seen v)
place_seen (place_is.AtRight cells line v width) = spec.at_right (cells_seen cells.items) line (value_seen v) width
place_seen (place_is.AtComma cells line) = spec.at_comma (cells_seen cells.items) line
place_seen (place_is.AtElse test first line) = spec.at_else (meaning test) (deeds_seen first.items) line
place_seen (place_is.AtElseBody test first line) = spec.at_else_body (meaning test) (deeds_seen first.items) line
place_seen place_is.Done = spec.done

abbrev pub around_seen : Around → spec.Around
around_seen a = record { bound = a.bound.items; blocks = blocks_seen a.blocks.items; body = body_seen a.body }

abbrev pub state_seen : State → spec.State
state_seen s = record { around = around_seen s.around; place = place_seen s.place }

-- the token is taken or not as the definition says, unless memory ran out
abbrev pub Gives : Result State Stop → Option spec.State → Type 0
Gives (Ok s) given = given ≡ Some (state_seen s)
Gives (Err stop_is.Wrong) given = given ≡ None
Gives (Err stop_is.Memory) given = Unit {0}
