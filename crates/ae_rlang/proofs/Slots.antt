-- What a token does where an expression stands, from what it does to the expression.
use Rattle.std.proofs.Common.{◌≡◌, ◌∙◌, ℕ, List, length, arith, sym, ap, subst, None, Result}
use Rattle.std.proofs.lemmas.Grind.{common_steps}
use Rattle.ae_rlang.specs.Token.{Token, Lexeme}
use Rattle.ae_rlang.specs.Values.{Value}
use Rattle.ae_rlang.specs.Machine.{Pending, Group, Point, Turn, goes, ended, stuck, turn, turned, scope_at, Slot, Around, slot_step, in_expression, moved}
use Rattle.ae_rlang.specs.declared.operand.Bound.{Bound}
use Rattle.ae_rlang.specs.declared.statement.Block.{Block}
use Rattle.ae_rlang.specs.declared.statement.State.{State}
use Rattle.ae_rlang.specs.declared.statement.Stop.{Stop}
use Rattle.ae_rlang.specs.Steps.{Gives, blocks_seen}

pub blocks_length : (bs : List Block) → length (blocks_seen bs) ≡ length bs
blocks_length bs = grind (arith, common_steps)

-- the turn of a token, where the names that are bound and the level were looked up before
pub same_turn : (totals : List (List ℕ)) (around : Around) (bound : List Bound) (level : ℕ) (groups : List Group) (ps : List Pending) (point : Point) (p : Lexeme) (t : Turn)
    → bound ≡ around.bound → length around.blocks ≡ level → turn (record { totals = totals; bound = bound }) level groups ps point p ≡ t → turn (scope_at totals around) (length around.blocks) groups ps point p ≡ t
same_turn totals around bound level groups ps point p t names deep e =
    ap (λ (n : ℕ). turn (scope_at totals around) n groups ps point p) deep ∙ ap (λ (b : List Bound). turn (record { totals = totals; bound = b }) level groups ps point p) (sym names) ∙ e

pub goes_on : (around : Around) (slot : Slot) (p : Lexeme) (t : Turn) (gs : List Group) (ws : List Pending) (pt : Point) (r : Result State Stop)
    → t ≡ goes gs ws pt → Gives r (moved around (in_expression slot gs ws pt)) → Gives r (turned around slot p t)
goes_on around slot p t gs ws pt r e given = subst (λ (x : Turn). Gives r (turned around slot p x)) (sym e) given

pub ends_there : (around : Around) (slot : Slot) (p : Lexeme) (t : Turn) (v : Value) (u : Token) (r : Result State Stop)
    → t ≡ ended v → u ≡ p.token → Gives r (slot_step around slot v p.line u) → Gives r (turned around slot p t)
ends_there around slot p t v u r e same given =
    subst (λ (x : Turn). Gives r (turned around slot p x)) (sym e) (subst (λ (x : Token). Gives r (slot_step around slot v p.line x)) same given)

pub sticks : (around : Around) (slot : Slot) (p : Lexeme) (t : Turn) → t ≡ stuck → turned around slot p t ≡ None
sticks around slot p t e = ap (turned around slot p) e
