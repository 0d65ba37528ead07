-- What is in the grammar is read.
use Rattle.std.proofs.Common.{◌≡◌, ℕ, ◌≤◌, Bool, true, false, cond, leb, ◌&&◌, length, arith, List, [], ◌∷◌, ◌++◌, Option, Some, None, refl, sym, ap, ◌∙◌, append_assoc}
use Rattle.std.proofs.lemmas.Bool.Decides.{nat_tests}
use Rattle.ae_rlang.specs.declared.token.Mark.TheVariants as mark_is
use Rattle.ae_rlang.specs.declared.operator.Kind.TheVariants as kind_is
use Rattle.ae_rlang.specs.Table.{table_named}
use Rattle.ae_rlang.specs.Operator.{earlier, bad_where, is_other}
use Rattle.ae_rlang.specs.Token.{Token, mark, end, Lexeme}
use Rattle.ae_rlang.specs.Token as token
use Rattle.ae_rlang.specs.Report.{Meant, MeantCell, Deed, deeds_of}
use Rattle.ae_rlang.specs.Report as report
use Rattle.ae_rlang.specs.declared.table.Table.{Table}
use Rattle.ae_rlang.specs.Written.{Expression, Cell, cell, right_cell, Cells, one, further, Test, no_test, where_test, Statement, title, columns, total, each, choice, choice_else, Statements, none, more, at, put, spelled, spelled_cell, spelled_cells, spelled_test, spelled_statement, spelled_body}
use Rattle.ae_rlang.specs.Grammar.{IsExpression, IsCell, AreCells, IsTest, IsStatement, AreStatements, IsText}
use Rattle.ae_rlang.specs.declared.operand.Bound.{Bound}
use Rattle.ae_rlang.specs.Meaning.{table_or_any}
use Rattle.ae_rlang.specs.Kept.{kept_cell, kept_cells, kept_test, kept_statement, kept_body}
use Rattle.ae_rlang.specs.Bad.{bad_cell, bad_cells, bad_test, bad_statement, bad_body}
use Rattle.ae_rlang.specs.Values.{Value, value_of}
use Rattle.ae_rlang.specs.Machine.{Pending, Slot, for_cell, for_total, for_test, for_choice, Around, Body, Block, of_each, of_choice, of_else, State, at_statement, at_where, at_width, at_right, at_else, at_else_body, done, waiting, having, moved, inside_deeds, reduced, is_dot, is_else, token_operator, slot_step, right_step, comma_step, statement_step, end_step, without_else, with_cell, with_bound, header_bad, opening_bad, inside, with_deed, empty_body, scope_at, start, step, run}
use Rattle.ae_rlang.proofs.Expressions.{here, reads}

-- the value of an expression that a statement has
abbrev pub value_at : List (List ℕ) → Around → Expression → Value
value_at totals around e = value_of (scope_at totals around) (length around.blocks) e

-- no expression goes on with this token
pub record Ends (p : Lexeme) : Type 0 where
  pub dot : is_dot p.token ≡ false
  pub operator : token_operator p.token ≡ None

-- a whole expression, and the token behind it
at_end : (totals : List (List ℕ)) (around : Around) (slot : Slot) (qs : List Pending) (v w : Value) (p : Lexeme) (rest : List Lexeme) → token_operator p.token ≡ None → reduced 0 qs v ≡ ([], w)
    → run totals (here around slot [] qs (having v)) (p ∷ rest) ≡ run totals (slot_step around slot w p.line p.token) rest
unfolding run step
at_end totals around slot qs v w p rest alone e =
    rw alone (ap (λ (r : List Pending × Value). run totals (slot_step around slot r.1 p.line p.token) rest) e)

pub whole_reads : (e : Expression) (totals : List (List ℕ)) (around : Around) (slot : Slot) (p : Lexeme) (rest : List Lexeme) → IsExpression 0 e → Ends p
    → run totals (here around slot [] [] waiting) (spelled e ++ p ∷ rest) ≡ run totals (slot_step around slot (value_at totals around e) p.line p.token) rest
whole_reads e totals around slot p rest h ends =
    let r = reads e totals around slot [] [] 0 p rest h (omega arith) ends.dot in
    r.3 ∙ at_end totals around slot r.0 r.1 (value_at totals around e) p rest ends.operator (r.2 0 (omega arith))

-- ---- cells

-- a token that ends a cell without `right`
abbrev pub Plain : Token → Type 0
Plain t = (around : Around) (cells : List MeantCell) (line : Option ℕ) (v : Value) (w : ℕ) → right_step around cells line v w t ≡ comma_step around (with_cell cells v w false) (earlier line v.bad) t

at_number_width : (totals : List (List ℕ)) (around : Around) (cells : List MeantCell) (line : Option ℕ) (v : Value) (m w : ℕ) (rest : List Lexeme) → 1 ≤ w → w ≤ 200
    → run totals (moved around (at_width cells line v)) (put m (token.number w) ∷ rest) ≡ run totals (moved around (at_right cells line v w)) rest
unfolding run step
at_number_width totals around cells line v m w rest low high =
    let fits : (leb 1 w && leb w 200) ≡ true = grind (arith, nat_tests) in
    ap (λ (b : Bool). run totals (cond b (moved around (at_right cells line v w)) None) rest) fits

at_plain : (totals : List (List ℕ)) (around : Around) (cells : List MeantCell) (line : Option ℕ) (v : Value) (w : ℕ) (p : Lexeme) (rest : List Lexeme) → Plain p.token
    → run totals (moved around (at_right cells line v w)) (p ∷ rest) ≡ run totals (comma_step around (with_cell cells v w false) (earlier line v.bad) p.token) rest
unfolding run step
at_plain totals around cells line v w p rest plain = ap (λ (s : Option State). run totals s rest) (plain around cells line v w)

at_right_word : (totals : List (List ℕ)) (around : Around) (cells : List MeantCell) (line : Option ℕ) (v : Value) (w r : ℕ) (p : Lexeme) (rest : List Lexeme)
    → run totals (moved around (at_right cells line v w)) (at r mark_is.Right ∷ p ∷ rest) ≡ run totals (comma_step around (with_cell cells v w true) (earlier line v.bad) p.token) rest
unfolding run step
at_right_word totals around cells line v w r p rest = refl

colon_ends : (c : ℕ) → Ends (at c mark_is.Colon)
colon_ends c = record { dot = refl; operator = refl }

semicolon_ends : (c : ℕ) → Ends (at c mark_is.Semicolon)
semicolon_ends c = record { dot = refl; operator = refl }

block_ends : (c : ℕ) → Ends (at c mark_is.OpenBlock)
block_ends c = record { dot = refl; operator = refl }

cell_goes : (c : Cell) (totals : List (List ℕ)) (around : Around) (cells : List MeantCell) (line : Option ℕ) (p : Lexeme) (rest : List Lexeme) → IsCell c → Plain p.token
    → run totals (here around (for_cell cells line) [] [] waiting) (spelled_cell c ++ p ∷ rest)
    ≡ run totals (comma_step around (cells ++ kept_cell around.bound (length around.blocks) c ∷ []) (earlier line (bad_cell (scope_at totals around) (length around.blocks) c)) p.token) rest
cell_goes (cell e c m w) totals around cells line p rest h plain =
    let v = value_at totals around e in
    ap (λ (xs : List Lexeme). run totals (here around (for_cell cells line) [] [] waiting) xs) (append_assoc (spelled e) (at c mark_is.Colon ∷ put m (token.number w) ∷ []) (p ∷ rest))
    ∙ whole_reads e totals around (for_cell cells line) (at c mark_is.Colon) (put m (token.number w) ∷ p ∷ rest) h.0 (colon_ends c)
    ∙ at_number_width totals around cells line v m w (p ∷ rest) h.1.0 h.1.1
    ∙ at_plain totals around cells line v w p rest plain
cell_goes (right_cell e c m w r) totals around cells line p rest h plain =
    let v = value_at totals around e in
    ap (λ (xs : List Lexeme). run totals (here around (for_cell cells line) [] [] waiting) xs) (append_assoc (spelled e) (at c mark_is.Colon ∷ put m (token.number w) ∷ at r mark_is.Right ∷ []) (p ∷ rest))
    ∙ whole_reads e totals around (for_cell cells line) (at c mark_is.Colon) (put m (token.number w) ∷ at r mark_is.Right ∷ p ∷ rest) h.0 (colon_ends c)
    ∙ at_number_width totals around cells line v m w (at r mark_is.Right ∷ p ∷ rest) h.1.0 h.1.1
    ∙ at_right_word totals around cells line v w r p rest

cells_go : (cs : Cells) (totals : List (List ℕ)) (around : Around) (p : Lexeme) (rest : List Lexeme) → AreCells cs → Plain p.token
    → run totals (here around (for_cell [] None) [] [] waiting) (spelled_cells cs ++ p ∷ rest)
    ≡ run totals (comma_step around (kept_cells around.bound (length around.blocks) cs) (bad_cells (scope_at totals around) (length around.blocks) cs) p.token) rest
cells_go (one c) totals around p rest h plain = cell_goes c totals around [] None p rest h plain
cells_go (further cs k c) totals around p rest h plain =
    ap (λ (xs : List Lexeme). run totals (here around (for_cell [] None) [] [] waiting) xs) (append_assoc (spelled_cells cs) (at k mark_is.Comma ∷ spelled_cell c) (p ∷ rest))
    ∙ cells_go cs totals around (at k mark_is.Comma) (spelled_cell c ++ p ∷ rest) h.0 (λ around cells line v w. refl)
    ∙ cell_goes c totals around (kept_cells around.bound (length around.blocks) cs) (bad_cells (scope_at totals around) (length around.blocks) cs) p rest h.1 plain

-- ---- statements

-- the first token of a statement is no `else`
pub record BeginsStatement (ps : List Lexeme) : Type 0 where
  pub first : Lexeme
  pub others : List Lexeme
  pub is : ps ≡ first ∷ others
  pub no_else : is_else first.token ≡ false

pub begins_statement : (s : Statement) → BeginsStatement (spelled_statement s)
begins_statement (title l m s c) = record { first = _; others = _; is = refl; no_else = refl }
begins_statement (columns l cs c) = record { first = _; others = _; is = refl; no_else = refl }
begins_statement (total l m w q e c) = record { first = _; others = _; is = refl; no_else = refl }
begins_statement (each l m w i k t h o body c) = record { first = _; others = _; is = refl; no_else = refl }
begins_statement (choice l e o body c) = record { first = _; others = _; is = refl; no_else = refl }
begins_statement (choice_else l e o first c k p second q) = record { first = _; others = _; is = refl; no_else = refl }

-- around the statements of a block, of which these were read
abbrev pub around_body : List (List ℕ) → List Bound → List Block → Statements → Around
around_body totals bound blocks ss = record {
  bound = bound;
  blocks = blocks;
  body = record { deeds = kept_body bound (length blocks) ss; bad = bad_body (record { totals = totals; bound = bound }) (length blocks) ss };
}

-- around what stands behind a statement
abbrev pub behind_statement : List (List ℕ) → Around → Statement → Around
behind_statement totals around s = with_deed around (kept_statement around.bound (length around.blocks) s) (bad_statement (scope_at totals around) (length around.blocks) s)

-- the head of a `for`
at_for : (totals : List (List ℕ)) (around : Around) (l m : ℕ) (w : List ℕ) (i k : ℕ) (t : List ℕ) (rest : List Lexeme)
    → run totals (moved around at_statement) (at l mark_is.For ∷ put m (token.name w) ∷ at i mark_is.In ∷ put k (token.name t) ∷ rest)
    ≡ run totals (moved (with_bound around w (table_named t)) (at_where w (table_named t) (header_bad totals around.bound l m w k t))) rest
unfolding run step
at_for totals around l m w i k t rest = refl

-- `where`, and the sign that opens the body
at_test : (h : Test) (totals : List (List ℕ)) (around : Around) (w : List ℕ) (table : Option Table) (line : Option ℕ) (o : ℕ) (rest : List Lexeme) → IsTest h
    → run totals (moved around (at_where w table line)) (spelled_test h ++ at o mark_is.OpenBlock ∷ rest)
    ≡ run totals (moved (inside around (of_each around.body w table (kept_test around.bound (length around.blocks) h) (opening_bad around.blocks (earlier line (bad_test (scope_at totals around) (length around.blocks) h)) o))) at_statement) rest
unfolding run step
at_test no_test totals around w table line o rest h = refl
at_test (where_test l e) totals around w table line o rest h = whole_reads e totals around (for_test w table line l) (at o mark_is.OpenBlock) rest h (block_ends o)

-- the sign that closes a block
at_close_each : (totals : List (List ℕ)) (b : Bound) (bound : List Bound) (blocks : List Block) (outer body : Body) (w : List ℕ) (table : Option Table) (test : Option Meant) (line : Option ℕ) (c : ℕ) (rest : List Lexeme)
    → run totals (moved (record { bound = b ∷ bound; blocks = of_each outer w table test line ∷ blocks; body = body }) at_statement) (at c mark_is.CloseBlock ∷ rest)
    ≡ run totals (moved (with_deed (record { bound = bound; blocks = blocks; body = outer }) (report.each w (table_or_any table) test (deeds_of (inside_deeds blocks body))) (earlier line body.bad)) at_statement) rest
unfolding run step
at_close_each totals b bound blocks outer body w table test line c rest = refl

at_close_choice : (totals : List (List ℕ)) (bound : List Bound) (blocks : List Block) (outer body : Body) (test : Meant) (line : Option ℕ) (c : ℕ) (rest : List Lexeme)
    → run totals (moved (record { bound = bound; blocks = of_choice outer test line ∷ blocks; body = body }) at_statement) (at c mark_is.CloseBlock ∷ rest)
    ≡ run totals (moved (record { bound = bound; blocks = blocks; body = outer }) (at_else test (inside_deeds blocks body) (earlier line body.bad))) rest
unfolding run step
at_close_choice totals bound blocks outer body test line c rest = refl

at_close_else : (totals : List (List ℕ)) (bound : List Bound) (blocks : List Block) (outer body : Body) (test : Meant) (first : List Deed) (line : Option ℕ) (c : ℕ) (rest : List Lexeme)
    → run totals (moved (record { bound = bound; blocks = of_else outer test first line ∷ blocks; body = body }) at_statement) (at c mark_is.CloseBlock ∷ rest)
    ≡ run totals (moved (with_deed (record { bound = bound; blocks = blocks; body = outer }) (report.choose test (deeds_of first) (deeds_of (inside_deeds blocks body))) (earlier line body.bad)) at_statement) rest
unfolding run step
at_close_else totals bound blocks outer body test first line c rest = refl

-- `if` without `else`
at_no_else : (totals : List (List ℕ)) (around : Around) (test : Meant) (first : List Deed) (line : Option ℕ) (p : Lexeme) (rest : List Lexeme) → is_else p.token ≡ false
    → run totals (moved around (at_else test first line)) (p ∷ rest) ≡ run totals (moved (with_deed around (report.choose test (deeds_of first) report.no_deeds) line) at_statement) (p ∷ rest)
unfolding run step
at_no_else totals around test first line p rest e =
    ap (λ (b : Bool). run totals (cond b (moved around (at_else_body test first line)) (statement_step (without_else around test first line) p.line p.token)) rest) e

at_else_word : (totals : List (List ℕ)) (around : Around) (test : Meant) (first : List Deed) (line : Option ℕ) (k o : ℕ) (rest : List Lexeme)
    → run totals (moved around (at_else test first line)) (at k mark_is.Else ∷ at o mark_is.OpenBlock ∷ rest)
    ≡ run totals (moved (inside around (of_else around.body test first (opening_bad around.blocks line o))) at_statement) rest
unfolding run step
at_else_word totals around test first line k o rest = refl

at_word : (totals : List (List ℕ)) (around : Around) (l : ℕ) (rest : List Lexeme) → run totals (moved around at_statement) (at l mark_is.If ∷ rest) ≡ run totals (here around (for_choice l) [] [] waiting) rest
unfolding run step
at_word totals around l rest = refl

at_columns : (totals : List (List ℕ)) (around : Around) (l : ℕ) (rest : List Lexeme) → run totals (moved around at_statement) (at l mark_is.Columns ∷ rest) ≡ run totals (here around (for_cell [] None) [] [] waiting) rest
unfolding run step
at_columns totals around l rest = refl

at_total : (totals : List (List ℕ)) (around : Around) (l m : ℕ) (w : List ℕ) (q : ℕ) (rest : List Lexeme)
    → run totals (moved around at_statement) (at l mark_is.Total ∷ put m (token.name w) ∷ at q mark_is.Assign ∷ rest) ≡ run totals (here around (for_total l w) [] [] waiting) rest
unfolding run step
at_total totals around l m w q rest = refl

at_title_words : (totals : List (List ℕ)) (around : Around) (l m : ℕ) (s : List ℕ) (c : ℕ) (rest : List Lexeme)
    → run totals (moved around at_statement) (at l mark_is.Title ∷ put m (token.string s) ∷ at c mark_is.Semicolon ∷ rest) ≡ run totals (moved (with_deed around (report.title s) None) at_statement) rest
unfolding run step
at_title_words totals around l m s c rest = refl

-- the tokens that are left, put together otherwise
regroup : (totals : List (List ℕ)) (s : Option State) (xs ys zs : List Lexeme) → run totals s ((xs ++ ys) ++ zs) ≡ run totals s (xs ++ (ys ++ zs))
regroup totals s xs ys zs = ap (run totals s) (append_assoc xs ys zs)

abbrev pub Goes : List (List ℕ) → Around → List Lexeme → Around → List Lexeme → Type 0
Goes totals around ps after rest = run totals (moved around at_statement) ps ≡ run totals (moved after at_statement) rest

mutual
  pub statement_goes : (s : Statement) (totals : List (List ℕ)) (around : Around) (p : Lexeme) (rest : List Lexeme) → IsStatement s → is_else p.token ≡ false
      → Goes totals around (spelled_statement s ++ p ∷ rest) (behind_statement totals around s) (p ∷ rest)
  statement_goes (title l m s c) totals around p rest h free = at_title_words totals around l m s c (p ∷ rest)
  statement_goes (columns l cs c) totals around p rest h free =
      at_columns totals around l ((spelled_cells cs ++ at c mark_is.Semicolon ∷ []) ++ p ∷ rest)
      ∙ regroup totals (here around (for_cell [] None) [] [] waiting) (spelled_cells cs) (at c mark_is.Semicolon ∷ []) (p ∷ rest)
      ∙ cells_go cs totals around (at c mark_is.Semicolon) (p ∷ rest) h (λ around cells line v w. refl)
  statement_goes (total l m w q e c) totals around p rest h free =
      at_total totals around l m w q ((spelled e ++ at c mark_is.Semicolon ∷ []) ++ p ∷ rest)
      ∙ regroup totals (here around (for_total l w) [] [] waiting) (spelled e) (at c mark_is.Semicolon ∷ []) (p ∷ rest)
      ∙ whole_reads e totals around (for_total l w) (at c mark_is.Semicolon) (p ∷ rest) h (semicolon_ends c)
  statement_goes (each l m w i k t h o body c) totals around p rest g free =
      let table = table_named t in
      let around' = with_bound around w table in
      let line = header_bad totals around.bound l m w k t in
      let place : Option State = moved around' (at_where w table line) in
      let line' = opening_bad around.blocks (earlier line (bad_test (scope_at totals around') (length around.blocks) h)) o in
      let block = of_each around.body w table (kept_test around'.bound (length around.blocks) h) line' in
      let behind : List Lexeme = spelled_body body ++ at c mark_is.CloseBlock ∷ [] in
      at_for totals around l m w i k t ((spelled_test h ++ at o mark_is.OpenBlock ∷ behind) ++ p ∷ rest)
      ∙ regroup totals place (spelled_test h) (at o mark_is.OpenBlock ∷ behind) (p ∷ rest)
      ∙ at_test h totals around' w table line o (behind ++ p ∷ rest) g.0
      ∙ regroup totals (moved (inside around' block) at_statement) (spelled_body body) (at c mark_is.CloseBlock ∷ []) (p ∷ rest)
      ∙ body_goes body totals around'.bound (block ∷ around.blocks) (at c mark_is.CloseBlock) (p ∷ rest) g.1 refl
      ∙ at_close_each totals (record { name = w; table = table }) around.bound around.blocks around.body (around_body totals around'.bound (block ∷ around.blocks) body).body w table (kept_test around'.bound (length around.blocks) h) line' c (p ∷ rest)
  statement_goes (choice l e o body c) totals around p rest g free =
      let v = value_at totals around e in
      let line = opening_bad around.blocks (earlier v.bad (bad_where (is_other v.kind kind_is.Flag) l)) o in
      let block = of_choice around.body v.node line in
      let behind : List Lexeme = spelled_body body ++ at c mark_is.CloseBlock ∷ [] in
      let inner = (around_body totals around.bound (block ∷ around.blocks) body).body in
      at_word totals around l ((spelled e ++ at o mark_is.OpenBlock ∷ behind) ++ p ∷ rest)
      ∙ regroup totals (here around (for_choice l) [] [] waiting) (spelled e) (at o mark_is.OpenBlock ∷ behind) (p ∷ rest)
      ∙ whole_reads e totals around (for_choice l) (at o mark_is.OpenBlock) (behind ++ p ∷ rest) g.0 (block_ends o)
      ∙ regroup totals (moved (inside around block) at_statement) (spelled_body body) (at c mark_is.CloseBlock ∷ []) (p ∷ rest)
      ∙ body_goes body totals around.bound (block ∷ around.blocks) (at c mark_is.CloseBlock) (p ∷ rest) g.1 refl
      ∙ at_close_choice totals around.bound around.blocks around.body inner v.node line c (p ∷ rest)
      ∙ at_no_else totals around v.node (inside_deeds around.blocks inner) (earlier line inner.bad) p rest free
  statement_goes (choice_else l e o first c k q second d) totals around p rest g free =
      let v = value_at totals around e in
      let line = opening_bad around.blocks (earlier v.bad (bad_where (is_other v.kind kind_is.Flag) l)) o in
      let block = of_choice around.body v.node line in
      let inner = (around_body totals around.bound (block ∷ around.blocks) first).body in
      let line' = opening_bad around.blocks (earlier line inner.bad) q in
      let block' = of_else around.body v.node (inside_deeds around.blocks inner) line' in
      let inner' = (around_body totals around.bound (block' ∷ around.blocks) second).body in
      let last : List Lexeme = spelled_body second ++ at d mark_is.CloseBlock ∷ [] in
      let behind : List Lexeme = spelled_body first ++ at c mark_is.CloseBlock ∷ at k mark_is.Else ∷ at q mark_is.OpenBlock ∷ last in
      at_word totals around l ((spelled e ++ at o mark_is.OpenBlock ∷ behind) ++ p ∷ rest)
      ∙ regroup totals (here around (for_choice l) [] [] waiting) (spelled e) (at o mark_is.OpenBlock ∷ behind) (p ∷ rest)
      ∙ whole_reads e totals around (for_choice l) (at o mark_is.OpenBlock) (behind ++ p ∷ rest) g.0 (block_ends o)
      ∙ regroup totals (moved (inside around block) at_statement) (spelled_body first) (at c mark_is.CloseBlock ∷ at k mark_is.Else ∷ at q mark_is.OpenBlock ∷ last) (p ∷ rest)
      ∙ body_goes first totals around.bound (block ∷ around.blocks) (at c mark_is.CloseBlock) (at k mark_is.Else ∷ at q mark_is.OpenBlock ∷ (last ++ p ∷ rest)) g.1 refl
      ∙ at_close_choice totals around.bound around.blocks around.body inner v.node line c (at k mark_is.Else ∷ at q mark_is.OpenBlock ∷ (last ++ p ∷ rest))
      ∙ at_else_word totals around v.node (inside_deeds around.blocks inner) (earlier line inner.bad) k q (last ++ p ∷ rest)
      ∙ regroup totals (moved (inside around block') at_statement) (spelled_body second) (at d mark_is.CloseBlock ∷ []) (p ∷ rest)
      ∙ body_goes second totals around.bound (block' ∷ around.blocks) (at d mark_is.CloseBlock) (p ∷ rest) g.2 refl
      ∙ at_close_else totals around.bound around.blocks around.body inner' v.node (inside_deeds around.blocks inner) line' d (p ∷ rest)

  pub body_goes : (ss : Statements) (totals : List (List ℕ)) (bound : List Bound) (blocks : List Block) (p : Lexeme) (rest : List Lexeme) → AreStatements ss → is_else p.token ≡ false
      → Goes totals (record { bound = bound; blocks = blocks; body = empty_body }) (spelled_body ss ++ p ∷ rest) (around_body totals bound blocks ss) (p ∷ rest)
  body_goes none totals bound blocks p rest h free = refl
  body_goes (more ss s) totals bound blocks p rest h free =
      let begin = begins_statement s in
      regroup totals (moved (record { bound = bound; blocks = blocks; body = empty_body }) at_statement) (spelled_body ss) (spelled_statement s) (p ∷ rest)
      ∙ ap (λ (xs : List Lexeme). run totals (moved (record { bound = bound; blocks = blocks; body = empty_body }) at_statement) (spelled_body ss ++ (xs ++ p ∷ rest))) begin.is
      ∙ body_goes ss totals bound blocks begin.first (begin.others ++ p ∷ rest) h.0 begin.no_else
      ∙ ap (λ (xs : List Lexeme). run totals (moved (around_body totals bound blocks ss) at_statement) (xs ++ p ∷ rest)) (sym begin.is)
      ∙ statement_goes s totals (around_body totals bound blocks ss) p rest h.1 free

at_last : (totals : List (List ℕ)) (around : Around) (l : ℕ) → around.blocks ≡ [] → run totals (moved around at_statement) (put l end ∷ []) ≡ moved around done
unfolding run step
at_last totals around l e = ap (end_step around) e

-- a whole text
pub text_goes : (ss : Statements) (totals : List (List ℕ)) (ps : List Lexeme) → IsText ps ss → run totals (Some start) ps ≡ moved (around_body totals [] [] ss) done
text_goes ss totals ps h =
    ap (run totals (Some start)) h.2 ∙ body_goes ss totals [] [] (put h.1 end) [] h.0 refl ∙ at_last totals (around_body totals [] [] ss) h.1 refl
