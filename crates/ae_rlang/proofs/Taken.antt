-- Each token that the reader takes belongs to a text.
use Rattle.std.proofs.Common.{◌≡◌, ℕ, Bool, true, false, cond, leb, ◌&&◌, length, arith, List, [], ◌∷◌, ◌++◌, Option, Some, None, refl, sym, ap, subst, ◌∙◌, append_assoc}
use Rattle.std.proofs.lemmas.Bool.Decides.{nat_tests}
use Rattle.std.proofs.lemmas.Bool.{and_parts}
use Rattle.std.proofs.lemmas.List.{append-nil}
use Rattle.ae_rlang.specs.declared.token.Mark.TheVariants as mark_is
use Rattle.ae_rlang.specs.Token.{Token, name, number, string, mark, end, Lexeme}
use Rattle.ae_rlang.specs.Report.{MeantCell}
use Rattle.ae_rlang.specs.Written.{Expression, Cell, cell, right_cell, Cells, one, further, no_test, where_test, Statement, title, columns, total, each, choice, choice_else, Statements, none, more, at, put, spelled, spelled_cell, spelled_cells, spelled_test, spelled_statement, spelled_body}
use Rattle.ae_rlang.specs.Grammar.{IsExpression, IsWidth, IsCell, AreCells, AreStatements, IsStatement}
use Rattle.ae_rlang.specs.Operator.{earlier}
use Rattle.ae_rlang.specs.declared.operand.Bound.{Bound}
use Rattle.ae_rlang.specs.Scope.{Scope}
use Rattle.ae_rlang.specs.Table.{table_named}
use Rattle.ae_rlang.specs.Meaning.{bound_within}
use Rattle.ae_rlang.specs.Kept.{kept, kept_cell, kept_cells}
use Rattle.ae_rlang.specs.Bad.{bad_header, bad_cell, bad_cells}
use Rattle.ae_rlang.specs.Values.{Value, value_of}
use Rattle.ae_rlang.specs.Machine.{Group, Pending, Point, Turn, goes, ended, stuck, State, Around, Slot, Place, turn, turned, place_step, slot_step, statement_step, comma_step, step}
use Rattle.ae_rlang.specs.Machine as machine
use Rattle.ae_rlang.proofs.Drafts.{begins, Front, first_cell, next_cell, Use, for_cell, for_total, for_test, for_choice, Spot, at_statement, at_title, at_title_end, at_total_name, at_total_equals, at_for_name, at_in, at_table, at_where, in_expression, at_width, at_right, at_comma, at_else, at_else_body, done, Open, of_each, of_choice, of_else, Draft, spelled_open, spelled_use, spelled_front, spelled_for, spelled_spot, spelled_head, outer_of, spelled_blocks, spelled_draft, IsFront, IsUse, IsSpot, AreOpen, IsDraft, bound_in, bound_for, scope_of, body_of, blocks_of, groups_of, pendings_of, point_of, level_of, front_cells, first_kept, front_bad, slot_of, bad_first, state_of}
use Rattle.ae_rlang.proofs.Turns.{grow, IsSound, turn_sound}

-- what the reader has come to, behind these tokens
pub record Reached (totals : List (List ℕ)) (front : List Lexeme) (s : State) : Type 0 where
  pub draft : Draft
  pub is_draft : IsDraft draft
  pub same : state_of totals draft ≡ s
  pub spelling : spelled_draft draft ≡ front

abbrev pub Leads : List (List ℕ) → List Lexeme → Option State → Type 0
Leads totals front None = Unit {0}
Leads totals front (Some s) = Reached totals front s

-- ---- lists of tokens

-- a statement is whole
finish : (a b s c : List Lexeme) (p : Lexeme) → s ≡ c ++ p ∷ [] → a ++ ((b ++ s) ++ []) ≡ (a ++ (b ++ c)) ++ p ∷ []
finish a b s c p e =
    ap (λ (xs : List Lexeme). a ++ xs) (append-nil (b ++ s) ∙ ap (λ (xs : List Lexeme). b ++ xs) e) ∙ grow a b c p

-- a block begins
open_up : (a b h c : List Lexeme) (p : Lexeme) → h ≡ c ++ p ∷ [] → (a ++ (b ++ h)) ++ [] ≡ (a ++ (b ++ c)) ++ p ∷ []
open_up a b h c p e = append-nil (a ++ (b ++ h)) ∙ ap (λ (xs : List Lexeme). a ++ (b ++ xs)) e ∙ grow a b c p

-- a block ends
close_down : (a b h i s : List Lexeme) (p : Lexeme) → s ≡ h ++ (i ++ p ∷ []) → a ++ ((b ++ s) ++ []) ≡ ((a ++ (b ++ h)) ++ (i ++ [])) ++ p ∷ []
close_down a b h i s p e =
    ap (λ (xs : List Lexeme). a ++ xs) (append-nil (b ++ s) ∙ ap (λ (xs : List Lexeme). b ++ xs) e ∙ sym (append_assoc b h (i ++ p ∷ [])))
    ∙ sym (append_assoc a (b ++ h) (i ++ p ∷ [])) ∙ sym (append_assoc (a ++ (b ++ h)) i (p ∷ []))
    ∙ ap (λ (xs : List Lexeme). ((a ++ (b ++ h)) ++ xs) ++ p ∷ []) (sym (append-nil i))

-- a block ends, and its statement may go on
close_part : (a b h i c : List Lexeme) (p : Lexeme) → c ≡ h ++ (i ++ p ∷ []) → a ++ (b ++ c) ≡ ((a ++ (b ++ h)) ++ (i ++ [])) ++ p ∷ []
close_part a b h i c p e =
    ap (λ (xs : List Lexeme). a ++ xs) (ap (λ (xs : List Lexeme). b ++ xs) e ∙ sym (append_assoc b h (i ++ p ∷ [])))
    ∙ sym (append_assoc a (b ++ h) (i ++ p ∷ [])) ∙ sym (append_assoc (a ++ (b ++ h)) i (p ∷ []))
    ∙ ap (λ (xs : List Lexeme). ((a ++ (b ++ h)) ++ xs) ++ p ∷ []) (sym (append-nil i))

pub else_found : (t : Token) → machine.is_else t ≡ true → t ≡ mark mark_is.Else
else_found (mark mark_is.Else) e = refl
else_found other e = absurd cc

-- the cells with one more
abbrev with_front : Front → Cell → Cells
with_front (first_cell l) c = one c
with_front (next_cell l cs k) c = further cs k c

abbrev line_of_front : Front → ℕ
line_of_front (first_cell l) = l
line_of_front (next_cell l cs k) = l

module _ (totals : List (List ℕ)) where
  -- ---- the end of a block

  close_sound : (bs : List Open) (ss : Statements) (c : ℕ) → AreOpen bs → AreStatements ss
      → Leads totals ((spelled_blocks bs ++ (spelled_body ss ++ [])) ++ at c mark_is.CloseBlock ∷ [])
      (machine.close_step (bound_in bs) (blocks_of totals bs) (body_of totals (bound_in bs) (length (blocks_of totals bs)) ss))
  close_sound [] ss c hb hs = tt
  close_sound (of_each outer l m w i k t h o ∷ bs) ss c hb hs = record {
    draft = record { blocks = bs; body = more outer (each l m w i k t h o ss c); spot = at_statement };
    is_draft = (hb.2, (hb.0, (hb.1, hs)), tt);
    same = refl;
    spelling = close_down (spelled_blocks bs) (spelled_body outer) (spelled_head (of_each outer l m w i k t h o)) (spelled_body ss) (spelled_statement (each l m w i k t h o ss c)) (at c mark_is.CloseBlock)
        (ap (spelled_for l m w i k t) (sym (append_assoc (spelled_test h) (at o mark_is.OpenBlock ∷ []) (spelled_body ss ++ at c mark_is.CloseBlock ∷ []))));
  }
  close_sound (of_choice outer l e o ∷ bs) ss c hb hs = record {
    draft = record { blocks = bs; body = outer; spot = at_else l e o ss c };
    is_draft = (hb.2, hb.0, (hb.1, hs));
    same = refl;
    spelling = close_part (spelled_blocks bs) (spelled_body outer) (spelled_head (of_choice outer l e o)) (spelled_body ss) (spelled_spot (at_else l e o ss c)) (at c mark_is.CloseBlock)
        (ap (λ (xs : List Lexeme). at l mark_is.If ∷ xs) (sym (append_assoc (spelled e) (at o mark_is.OpenBlock ∷ []) (spelled_body ss ++ at c mark_is.CloseBlock ∷ []))));
  }
  close_sound (of_else outer l e o first d k p ∷ bs) ss c hb hs =
      let marks : List Lexeme = at d mark_is.CloseBlock ∷ at k mark_is.Else ∷ at p mark_is.OpenBlock ∷ [] in
      let last : List Lexeme = spelled_body ss ++ at c mark_is.CloseBlock ∷ [] in
      record {
        draft = record { blocks = bs; body = more outer (choice_else l e o first d k p ss c); spot = at_statement };
        is_draft = (hb.3, (hb.0, (hb.1, hb.2, hs)), tt);
        same = refl;
        spelling = close_down (spelled_blocks bs) (spelled_body outer) (spelled_head (of_else outer l e o first d k p)) (spelled_body ss) (spelled_statement (choice_else l e o first d k p ss c)) (at c mark_is.CloseBlock)
            (ap (λ (xs : List Lexeme). at l mark_is.If ∷ (spelled e ++ at o mark_is.OpenBlock ∷ xs)) (sym (append_assoc (spelled_body first) marks last))
            ∙ ap (λ (xs : List Lexeme). at l mark_is.If ∷ xs) (sym (append_assoc (spelled e) (at o mark_is.OpenBlock ∷ (spelled_body first ++ marks)) last)));
      }

  -- ---- within the same block

  abbrev level_at : List Open → ℕ
  level_at bs = length (blocks_of totals bs)

  abbrev around_at : List Open → Statements → List Bound → Around
  around_at bs ss bound = record { bound = bound; blocks = blocks_of totals bs; body = body_of totals (bound_in bs) (level_at bs) ss }

  abbrev front : List Open → Statements → List Lexeme → List Lexeme
  front bs ss before = spelled_blocks bs ++ (spelled_body ss ++ before)

  go : (bs : List Open) (ss : Statements) (before : List Lexeme) (spot : Spot) (p : Lexeme) → AreOpen bs → AreStatements ss → IsSpot bs spot → spelled_spot spot ≡ before ++ p ∷ []
      → Reached totals (front bs ss before ++ p ∷ []) (state_of totals (record { blocks = bs; body = ss; spot = spot }))
  go bs ss before spot p hb hs hp e = record {
    draft = record { blocks = bs; body = ss; spot = spot };
    is_draft = (hb, hs, hp);
    same = refl;
    spelling = ap (λ (xs : List Lexeme). spelled_blocks bs ++ (spelled_body ss ++ xs)) e ∙ grow (spelled_blocks bs) (spelled_body ss) before p;
  }

  whole : (bs : List Open) (ss : Statements) (before : List Lexeme) (s : Statement) (p : Lexeme) → AreOpen bs → AreStatements ss → IsStatement s → spelled_statement s ≡ before ++ p ∷ []
      → Reached totals (front bs ss before ++ p ∷ []) (state_of totals (record { blocks = bs; body = more ss s; spot = at_statement }))
  whole bs ss before s p hb hs h e = record {
    draft = record { blocks = bs; body = more ss s; spot = at_statement };
    is_draft = (hb, (hs, h), tt);
    same = refl;
    spelling = finish (spelled_blocks bs) (spelled_body ss) (spelled_statement s) before p e;
  }

  begun : (bs : List Open) (before : List Lexeme) (b : Open) (p : Lexeme) → AreOpen (b ∷ bs) → spelled_head b ≡ before ++ p ∷ []
      → Reached totals (front bs (outer_of b) before ++ p ∷ []) (state_of totals (record { blocks = b ∷ bs; body = none; spot = at_statement }))
  begun bs before b p hb e = record {
    draft = record { blocks = b ∷ bs; body = none; spot = at_statement };
    is_draft = (hb, tt, tt);
    same = refl;
    spelling = open_up (spelled_blocks bs) (spelled_body (outer_of b)) (spelled_head b) before p e;
  }

  end_sound : (bs : List Open) (ss : Statements) (l : ℕ) → AreOpen bs → AreStatements ss
      → Leads totals (front bs ss [] ++ put l end ∷ []) (machine.end_step (around_at bs ss (bound_in bs)) (blocks_of totals bs))
  end_sound [] ss l hb hs = go [] ss [] (done l) (put l end) hb hs tt refl
  end_sound (b ∷ bs) ss l hb hs = tt

  statement_sound : (bs : List Open) (ss : Statements) (l : ℕ) (t : Token) → AreOpen bs → AreStatements ss
      → Leads totals (front bs ss [] ++ put l t ∷ []) (statement_step (around_at bs ss (bound_in bs)) l t)
  statement_sound bs ss l (mark mark_is.Title) hb hs = go bs ss [] (at_title l) (at l mark_is.Title) hb hs tt refl
  statement_sound bs ss l (mark mark_is.Columns) hb hs = go bs ss [] (in_expression (for_cell (first_cell l)) [] [] begins) (at l mark_is.Columns) hb hs (tt, tt, tt, tt) refl
  statement_sound bs ss l (mark mark_is.Total) hb hs = go bs ss [] (at_total_name l) (at l mark_is.Total) hb hs tt refl
  statement_sound bs ss l (mark mark_is.For) hb hs = go bs ss [] (at_for_name l) (at l mark_is.For) hb hs tt refl
  statement_sound bs ss l (mark mark_is.If) hb hs = go bs ss [] (in_expression (for_choice l) [] [] begins) (at l mark_is.If) hb hs (tt, tt, tt, tt) refl
  statement_sound bs ss l (mark mark_is.CloseBlock) hb hs = close_sound bs ss l hb hs
  statement_sound bs ss l end hb hs = end_sound bs ss l hb hs
  statement_sound bs ss l other hb hs = tt

  title_sound : (bs : List Open) (ss : Statements) (l m : ℕ) (t : Token) → AreOpen bs → AreStatements ss
      → Leads totals (front bs ss (spelled_spot (at_title l)) ++ put m t ∷ []) (machine.title_step (around_at bs ss (bound_in bs)) t)
  title_sound bs ss l m (string s) hb hs = go bs ss (spelled_spot (at_title l)) (at_title_end l m s) (put m (string s)) hb hs tt refl
  title_sound bs ss l m other hb hs = tt

  title_end_sound : (bs : List Open) (ss : Statements) (l m : ℕ) (s : List ℕ) (c : ℕ) (t : Token) → AreOpen bs → AreStatements ss
      → Leads totals (front bs ss (spelled_spot (at_title_end l m s)) ++ put c t ∷ []) (machine.title_end_step (around_at bs ss (bound_in bs)) s t)
  title_end_sound bs ss l m s c (mark mark_is.Semicolon) hb hs = whole bs ss (spelled_spot (at_title_end l m s)) (title l m s c) (at c mark_is.Semicolon) hb hs tt refl
  title_end_sound bs ss l m s c other hb hs = tt

  total_name_sound : (bs : List Open) (ss : Statements) (l m : ℕ) (t : Token) → AreOpen bs → AreStatements ss
      → Leads totals (front bs ss (spelled_spot (at_total_name l)) ++ put m t ∷ []) (machine.total_name_step (around_at bs ss (bound_in bs)) l t)
  total_name_sound bs ss l m (name w) hb hs = go bs ss (spelled_spot (at_total_name l)) (at_total_equals l m w) (put m (name w)) hb hs tt refl
  total_name_sound bs ss l m other hb hs = tt

  total_equals_sound : (bs : List Open) (ss : Statements) (l m : ℕ) (w : List ℕ) (q : ℕ) (t : Token) → AreOpen bs → AreStatements ss
      → Leads totals (front bs ss (spelled_spot (at_total_equals l m w)) ++ put q t ∷ []) (machine.total_equals_step (around_at bs ss (bound_in bs)) l w t)
  total_equals_sound bs ss l m w q (mark mark_is.Assign) hb hs =
      go bs ss (spelled_spot (at_total_equals l m w)) (in_expression (for_total l m w q) [] [] begins) (at q mark_is.Assign) hb hs (tt, tt, tt, tt) refl
  total_equals_sound bs ss l m w q other hb hs = tt

  for_name_sound : (bs : List Open) (ss : Statements) (l m : ℕ) (t : Token) → AreOpen bs → AreStatements ss
      → Leads totals (front bs ss (spelled_spot (at_for_name l)) ++ put m t ∷ []) (machine.for_name_step (around_at bs ss (bound_in bs)) l m t)
  for_name_sound bs ss l m (name w) hb hs = go bs ss (spelled_spot (at_for_name l)) (at_in l m w) (put m (name w)) hb hs tt refl
  for_name_sound bs ss l m other hb hs = tt

  in_sound : (bs : List Open) (ss : Statements) (l m : ℕ) (w : List ℕ) (i : ℕ) (t : Token) → AreOpen bs → AreStatements ss
      → Leads totals (front bs ss (spelled_spot (at_in l m w)) ++ put i t ∷ []) (machine.in_step (around_at bs ss (bound_in bs)) l m w t)
  in_sound bs ss l m w i (mark mark_is.In) hb hs = go bs ss (spelled_spot (at_in l m w)) (at_table l m w i) (at i mark_is.In) hb hs tt refl
  in_sound bs ss l m w i other hb hs = tt

  table_sound : (bs : List Open) (ss : Statements) (l m : ℕ) (w : List ℕ) (i k : ℕ) (t : Token) → AreOpen bs → AreStatements ss
      → Leads totals (front bs ss (spelled_spot (at_table l m w i)) ++ put k t ∷ []) (machine.table_step totals (around_at bs ss (bound_in bs)) l m w k t)
  table_sound bs ss l m w i k (name t) hb hs = go bs ss (spelled_spot (at_table l m w i)) (at_where l m w i k t) (put k (name t)) hb hs tt refl
  table_sound bs ss l m w i k other hb hs = tt

  where_sound : (bs : List Open) (ss : Statements) (l m : ℕ) (w : List ℕ) (i k : ℕ) (t : List ℕ) (o : ℕ) (u : Token) → AreOpen bs → AreStatements ss
      → Leads totals (front bs ss (spelled_spot (at_where l m w i k t)) ++ put o u ∷ [])
      (machine.where_step (around_at bs ss (bound_within w t (bound_in bs))) w (table_named t) (bad_header (scope_of totals (bound_in bs)) l m w k t) o u)
  where_sound bs ss l m w i k t o (mark mark_is.Where) hb hs =
      go bs ss (spelled_spot (at_where l m w i k t)) (in_expression (for_test l m w i k t o) [] [] begins) (at o mark_is.Where) hb hs (tt, tt, tt, tt) refl
  where_sound bs ss l m w i k t o (mark mark_is.OpenBlock) hb hs =
      begun bs (spelled_spot (at_where l m w i k t)) (of_each ss l m w i k t no_test o) (at o mark_is.OpenBlock) (hs, tt, hb) refl
  where_sound bs ss l m w i k t o other hb hs = tt

  comma_sound : (bs : List Open) (ss : Statements) (l : ℕ) (cs : Cells) (k : ℕ) (t : Token) → AreOpen bs → AreStatements ss → AreCells cs
      → Leads totals (front bs ss (spelled_spot (at_comma l cs)) ++ put k t ∷ [])
      (comma_step (around_at bs ss (bound_in bs)) (kept_cells (bound_in bs) (level_at bs) cs) (bad_cells (scope_of totals (bound_in bs)) (level_at bs) cs) t)
  comma_sound bs ss l cs k (mark mark_is.Comma) hb hs hc =
      go bs ss (spelled_spot (at_comma l cs)) (in_expression (for_cell (next_cell l cs k)) [] [] begins) (at k mark_is.Comma) hb hs (hc, tt, tt, tt)
      (ap (λ (xs : List Lexeme). at l mark_is.Columns ∷ xs) (append-nil (spelled_cells cs ++ at k mark_is.Comma ∷ [])))
  comma_sound bs ss l cs k (mark mark_is.Semicolon) hb hs hc = whole bs ss (spelled_spot (at_comma l cs)) (columns l cs k) (at k mark_is.Semicolon) hb hs hc refl
  comma_sound bs ss l cs k other hb hs hc = tt

  -- the tokens of the cells before one, and of that
  with_front_spelled : (f : Front) (c : Cell) → spelled_front f ++ spelled_cell c ≡ at (line_of_front f) mark_is.Columns ∷ spelled_cells (with_front f c)
  with_front_spelled (first_cell l) c = refl
  with_front_spelled (next_cell l cs k) c = ap (λ (xs : List Lexeme). at l mark_is.Columns ∷ xs) (append_assoc (spelled_cells cs) (at k mark_is.Comma ∷ []) (spelled_cell c))

  with_front_kept : (bound : List Bound) (level : ℕ) (f : Front) (c : Cell) → front_cells bound level f ++ kept_cell bound level c ∷ [] ≡ kept_cells bound level (with_front f c)
  with_front_kept bound level (first_cell l) c = refl
  with_front_kept bound level (next_cell l cs k) c = refl

  with_front_bad : (scope : Scope) (level : ℕ) (f : Front) (c : Cell) → earlier (front_bad scope level f) (bad_cell scope level c) ≡ bad_cells scope level (with_front f c)
  with_front_bad scope level (first_cell l) c = refl
  with_front_bad scope level (next_cell l cs k) c = refl

  with_front_good : (f : Front) (c : Cell) → IsFront f → IsCell c → AreCells (with_front f c)
  with_front_good (first_cell l) c hf hc = hc
  with_front_good (next_cell l cs k) c hf hc = (hf, hc)

  -- a cell without `right`, and the token behind it
  plain_sound : (bs : List Open) (ss : Statements) (f : Front) (e : Expression) (c m w k : ℕ) (t : Token) → AreOpen bs → AreStatements ss → IsFront f → IsExpression 0 e → IsWidth w
      → Leads totals (front bs ss (spelled_spot (at_right f e c m w)) ++ put k t ∷ [])
      (comma_step (around_at bs ss (bound_in bs)) (machine.with_cell (front_cells (bound_in bs) (level_at bs) f) (value_of (scope_of totals (bound_in bs)) (level_at bs) e) w false)
      (earlier (front_bad (scope_of totals (bound_in bs)) (level_at bs) f) (value_of (scope_of totals (bound_in bs)) (level_at bs) e).bad) t)
  plain_sound bs ss f e c m w k t hb hs hf he hw =
      subst (λ (xs : List Lexeme). Leads totals (front bs ss xs ++ put k t ∷ []) (comma_step (around_at bs ss (bound_in bs)) (front_cells (bound_in bs) (level_at bs) f ++ kept_cell (bound_in bs) (level_at bs) (cell e c m w) ∷ []) (earlier (front_bad (scope_of totals (bound_in bs)) (level_at bs) f) (bad_cell (scope_of totals (bound_in bs)) (level_at bs) (cell e c m w))) t))
      (sym (with_front_spelled f (cell e c m w)))
      (subst (λ (cells : List MeantCell). Leads totals (front bs ss (at (line_of_front f) mark_is.Columns ∷ spelled_cells (with_front f (cell e c m w))) ++ put k t ∷ []) (comma_step (around_at bs ss (bound_in bs)) cells (earlier (front_bad (scope_of totals (bound_in bs)) (level_at bs) f) (bad_cell (scope_of totals (bound_in bs)) (level_at bs) (cell e c m w))) t))
      (sym (with_front_kept (bound_in bs) (level_at bs) f (cell e c m w)))
      (subst (λ (line : Option ℕ). Leads totals (front bs ss (at (line_of_front f) mark_is.Columns ∷ spelled_cells (with_front f (cell e c m w))) ++ put k t ∷ []) (comma_step (around_at bs ss (bound_in bs)) (kept_cells (bound_in bs) (level_at bs) (with_front f (cell e c m w))) line t))
      (sym (with_front_bad (scope_of totals (bound_in bs)) (level_at bs) f (cell e c m w)))
      (comma_sound bs ss (line_of_front f) (with_front f (cell e c m w)) k t hb hs (with_front_good f (cell e c m w) hf (he, hw)))))

  right_sound : (bs : List Open) (ss : Statements) (f : Front) (e : Expression) (c m w k : ℕ) (t : Token) → AreOpen bs → AreStatements ss → IsFront f → IsExpression 0 e → IsWidth w
      → Leads totals (front bs ss (spelled_spot (at_right f e c m w)) ++ put k t ∷ [])
      (machine.right_step (around_at bs ss (bound_in bs)) (front_cells (bound_in bs) (level_at bs) f) (front_bad (scope_of totals (bound_in bs)) (level_at bs) f) (value_of (scope_of totals (bound_in bs)) (level_at bs) e) w t)
  right_sound bs ss (first_cell l) e c m w k (mark mark_is.Right) hb hs hf he hw =
      go bs ss (spelled_spot (at_right (first_cell l) e c m w)) (at_comma l (one (right_cell e c m w k))) (at k mark_is.Right) hb hs (he, hw)
      (ap (λ (xs : List Lexeme). at l mark_is.Columns ∷ xs) (sym (append_assoc (spelled e) (at c mark_is.Colon ∷ put m (number w) ∷ []) (at k mark_is.Right ∷ []))))
  right_sound bs ss (next_cell l cs q) e c m w k (mark mark_is.Right) hb hs hf he hw =
      go bs ss (spelled_spot (at_right (next_cell l cs q) e c m w)) (at_comma l (further cs q (right_cell e c m w k))) (at k mark_is.Right) hb hs (hf, (he, hw))
      (ap (λ (xs : List Lexeme). at l mark_is.Columns ∷ (spelled_cells cs ++ at q mark_is.Comma ∷ xs)) (sym (append_assoc (spelled e) (at c mark_is.Colon ∷ put m (number w) ∷ []) (at k mark_is.Right ∷ [])))
      ∙ ap (λ (xs : List Lexeme). at l mark_is.Columns ∷ xs) (sym (append_assoc (spelled_cells cs) (at q mark_is.Comma ∷ []) ((spelled e ++ at c mark_is.Colon ∷ put m (number w) ∷ []) ++ at k mark_is.Right ∷ [])))
      ∙ ap (λ (xs : List Lexeme). at l mark_is.Columns ∷ xs) (sym (append_assoc (spelled_cells cs ++ at q mark_is.Comma ∷ []) (spelled e ++ at c mark_is.Colon ∷ put m (number w) ∷ []) (at k mark_is.Right ∷ []))))
  right_sound bs ss f e c m w k other hb hs hf he hw = plain_sound bs ss f e c m w k other hb hs hf he hw

  width_by : (bs : List Open) (ss : Statements) (f : Front) (e : Expression) (c m w : ℕ) (b : Bool) → (leb 1 w && leb w 200) ≡ b → AreOpen bs → AreStatements ss → IsFront f → IsExpression 0 e
      → Leads totals (front bs ss (spelled_spot (at_width f e c)) ++ put m (number w) ∷ [])
      (cond b (machine.moved (around_at bs ss (bound_in bs)) (machine.at_right (front_cells (bound_in bs) (level_at bs) f) (front_bad (scope_of totals (bound_in bs)) (level_at bs) f) (value_of (scope_of totals (bound_in bs)) (level_at bs) e) w)) None)
  width_by bs ss f e c m w true t hb hs hf he =
      let parts = and_parts (leb 1 w) (leb w 200) t in
      let fits : IsWidth w = (grind (arith, nat_tests, parts.0), grind (arith, nat_tests, parts.1)) in
      go bs ss (spelled_spot (at_width f e c)) (at_right f e c m w) (put m (number w)) hb hs (hf, he, fits)
      (ap (λ (xs : List Lexeme). spelled_front f ++ xs) (sym (append_assoc (spelled e) (at c mark_is.Colon ∷ []) (put m (number w) ∷ []))) ∙ sym (append_assoc (spelled_front f) (spelled e ++ at c mark_is.Colon ∷ []) (put m (number w) ∷ [])))
  width_by bs ss f e c m w false t hb hs hf he = tt

  width_sound : (bs : List Open) (ss : Statements) (f : Front) (e : Expression) (c m : ℕ) (t : Token) → AreOpen bs → AreStatements ss → IsFront f → IsExpression 0 e
      → Leads totals (front bs ss (spelled_spot (at_width f e c)) ++ put m t ∷ [])
      (machine.width_step (around_at bs ss (bound_in bs)) (front_cells (bound_in bs) (level_at bs) f) (front_bad (scope_of totals (bound_in bs)) (level_at bs) f) (value_of (scope_of totals (bound_in bs)) (level_at bs) e) t)
  width_sound bs ss f e c m (number w) hb hs hf he = width_by bs ss f e c m w (leb 1 w && leb w 200) refl hb hs hf he
  width_sound bs ss f e c m other hb hs hf he = tt

  -- ---- expressions

  slot_sound : (bs : List Open) (ss : Statements) (u : Use) (e : Expression) (k : ℕ) (t : Token) → AreOpen bs → AreStatements ss → IsUse u → IsExpression 0 e
      → Leads totals (front bs ss (spelled_use u ++ spelled e) ++ put k t ∷ [])
      (slot_step (around_at bs ss (bound_for (bound_in bs) u)) (slot_of (scope_of totals (bound_in bs)) (level_at bs) u) (value_of (scope_of totals (bound_for (bound_in bs) u)) (level_at bs) e) k t)
  slot_sound bs ss (for_cell f) e k (mark mark_is.Colon) hb hs hu he =
      go bs ss (spelled_front f ++ spelled e) (at_width f e k) (at k mark_is.Colon) hb hs (hu, he) (sym (append_assoc (spelled_front f) (spelled e) (at k mark_is.Colon ∷ [])))
  slot_sound bs ss (for_cell f) e k other hb hs hu he = tt
  slot_sound bs ss (for_total l m w q) e k (mark mark_is.Semicolon) hb hs hu he =
      whole bs ss (spelled_use (for_total l m w q) ++ spelled e) (total l m w q e k) (at k mark_is.Semicolon) hb hs he refl
  slot_sound bs ss (for_total l m w q) e k other hb hs hu he = tt
  slot_sound bs ss (for_test l m w i n t h) e k (mark mark_is.OpenBlock) hb hs hu he =
      begun bs (spelled_use (for_test l m w i n t h) ++ spelled e) (of_each ss l m w i n t (where_test h e) k) (at k mark_is.OpenBlock) (hs, he, hb) refl
  slot_sound bs ss (for_test l m w i n t h) e k other hb hs hu he = tt
  slot_sound bs ss (for_choice l) e k (mark mark_is.OpenBlock) hb hs hu he =
      begun bs (spelled_use (for_choice l) ++ spelled e) (of_choice ss l e k) (at k mark_is.OpenBlock) (hs, he, hb) refl
  slot_sound bs ss (for_choice l) e k other hb hs hu he = tt

  turned_sound : (bs : List Open) (ss : Statements) (u : Use) (before : List Lexeme) (p : Lexeme) (x : Turn) → AreOpen bs → AreStatements ss → IsUse u
      → IsSound (scope_of totals (bound_for (bound_in bs) u)) (level_at bs) before p x
      → Leads totals (front bs ss (spelled_use u ++ before) ++ p ∷ []) (turned (around_at bs ss (bound_for (bound_in bs) u)) (slot_of (scope_of totals (bound_in bs)) (level_at bs) u) p x)
  turned_sound bs ss u before p (goes groups ps point) hb hs hu g =
      record {
        draft = record { blocks = bs; body = ss; spot = in_expression u g.gs g.ws g.spot };
        is_draft = (hb, hs, (hu, g.are_opened, g.are_waiting, g.is_at));
        same =
            ap (λ (x : List Group). record { around = around_at bs ss (bound_for (bound_in bs) u); place = machine.in_expression (slot_of (scope_of totals (bound_in bs)) (level_at bs) u) x (pendings_of (scope_of totals (bound_for (bound_in bs) u)) (level_of (scope_of totals (bound_for (bound_in bs) u)) (level_at bs) g.gs) g.ws) (point_of (scope_of totals (bound_for (bound_in bs) u)) (level_of (scope_of totals (bound_for (bound_in bs) u)) (level_at bs) g.gs) g.spot) }) g.groups_are
            ∙ ap (λ (x : List Pending). record { around = around_at bs ss (bound_for (bound_in bs) u); place = machine.in_expression (slot_of (scope_of totals (bound_in bs)) (level_at bs) u) groups x (point_of (scope_of totals (bound_for (bound_in bs) u)) (level_of (scope_of totals (bound_for (bound_in bs) u)) (level_at bs) g.gs) g.spot) }) g.waiting_are
            ∙ ap (λ (x : Point). record { around = around_at bs ss (bound_for (bound_in bs) u); place = machine.in_expression (slot_of (scope_of totals (bound_in bs)) (level_at bs) u) groups ps x }) g.point_is;
        spelling =
            ap (λ (xs : List Lexeme). spelled_blocks bs ++ (spelled_body ss ++ xs)) (ap (λ (xs : List Lexeme). spelled_use u ++ xs) g.spelling ∙ sym (append_assoc (spelled_use u) before (p ∷ [])))
            ∙ grow (spelled_blocks bs) (spelled_body ss) (spelled_use u ++ before) p;
      }
  turned_sound bs ss u before p (ended v) hb hs hu h =
      subst (λ (xs : List Lexeme). Leads totals (front bs ss (spelled_use u ++ xs) ++ p ∷ []) (slot_step (around_at bs ss (bound_for (bound_in bs) u)) (slot_of (scope_of totals (bound_in bs)) (level_at bs) u) v p.line p.token)) h.spelling
      (subst (λ (x : Value). Leads totals (front bs ss (spelled_use u ++ spelled h.made) ++ p ∷ []) (slot_step (around_at bs ss (bound_for (bound_in bs) u)) (slot_of (scope_of totals (bound_in bs)) (level_at bs) u) x p.line p.token)) h.value_is
      (slot_sound bs ss u h.made p.line p.token hb hs hu h.is_expression))
  turned_sound bs ss u before p stuck hb hs hu h = tt

  -- ---- `else`

  else_by : (bs : List Open) (ss : Statements) (l : ℕ) (e : Expression) (o : ℕ) (first : Statements) (c : ℕ) (p : Lexeme) (b : Bool) → machine.is_else p.token ≡ b → AreOpen bs → AreStatements ss → IsExpression 0 e → AreStatements first
      → Leads totals (front bs ss (spelled_spot (at_else l e o first c)) ++ p ∷ [])
      (cond b (machine.moved (around_at bs ss (bound_in bs)) (machine.at_else_body (kept (bound_in bs) (level_at bs) e) (first_kept (bound_in bs) (level_at bs) first) (bad_first (scope_of totals (bound_in bs)) (level_at bs) e l o first)))
      (statement_step (machine.without_else (around_at bs ss (bound_in bs)) (kept (bound_in bs) (level_at bs) e) (first_kept (bound_in bs) (level_at bs) first) (bad_first (scope_of totals (bound_in bs)) (level_at bs) e l o first)) p.line p.token))
  else_by bs ss l e o first c p true t hb hs he hf =
      let k : p ≡ at p.line mark_is.Else = ap (λ (t : Token). put p.line t) (else_found p.token t) in
      go bs ss (spelled_spot (at_else l e o first c)) (at_else_body l e o first c p.line) p hb hs (he, hf)
      (ap (λ (xs : List Lexeme). at l mark_is.If ∷ (spelled e ++ at o mark_is.OpenBlock ∷ xs)) (sym (append_assoc (spelled_body first) (at c mark_is.CloseBlock ∷ []) (at p.line mark_is.Else ∷ [])))
      ∙ ap (λ (xs : List Lexeme). at l mark_is.If ∷ xs) (sym (append_assoc (spelled e) (at o mark_is.OpenBlock ∷ (spelled_body first ++ at c mark_is.CloseBlock ∷ [])) (at p.line mark_is.Else ∷ [])))
      ∙ ap (λ (q : Lexeme). spelled_spot (at_else l e o first c) ++ q ∷ []) (sym k))
  else_by bs ss l e o first c p false t hb hs he hf =
      subst (λ (xs : List Lexeme). Leads totals ((spelled_blocks bs ++ xs) ++ p ∷ []) (statement_step (machine.without_else (around_at bs ss (bound_in bs)) (kept (bound_in bs) (level_at bs) e) (first_kept (bound_in bs) (level_at bs) first) (bad_first (scope_of totals (bound_in bs)) (level_at bs) e l o first)) p.line p.token))
      (append-nil (spelled_body ss ++ spelled_statement (choice l e o first c)))
      (statement_sound bs (more ss (choice l e o first c)) p.line p.token hb (hs, (he, hf)))

  else_body_sound : (bs : List Open) (ss : Statements) (l : ℕ) (e : Expression) (o : ℕ) (first : Statements) (c k q : ℕ) (t : Token) → AreOpen bs → AreStatements ss → IsExpression 0 e → AreStatements first
      → Leads totals (front bs ss (spelled_spot (at_else_body l e o first c k)) ++ put q t ∷ [])
      (machine.else_body_step (around_at bs ss (bound_in bs)) (kept (bound_in bs) (level_at bs) e) (first_kept (bound_in bs) (level_at bs) first) (bad_first (scope_of totals (bound_in bs)) (level_at bs) e l o first) q t)
  else_body_sound bs ss l e o first c k q (mark mark_is.OpenBlock) hb hs he hf =
      let marks : List Lexeme = at c mark_is.CloseBlock ∷ at k mark_is.Else ∷ [] in
      begun bs (spelled_spot (at_else_body l e o first c k)) (of_else ss l e o first c k q) (at q mark_is.OpenBlock) (hs, he, hf, hb)
      (ap (λ (xs : List Lexeme). at l mark_is.If ∷ (spelled e ++ at o mark_is.OpenBlock ∷ xs)) (sym (append_assoc (spelled_body first) marks (at q mark_is.OpenBlock ∷ [])))
      ∙ ap (λ (xs : List Lexeme). at l mark_is.If ∷ xs) (sym (append_assoc (spelled e) (at o mark_is.OpenBlock ∷ (spelled_body first ++ marks)) (at q mark_is.OpenBlock ∷ []))))
  else_body_sound bs ss l e o first c k q other hb hs he hf = tt

  -- ---- any token

  spot_sound : (bs : List Open) (ss : Statements) (spot : Spot) (p : Lexeme) → AreOpen bs → AreStatements ss → IsSpot bs spot
      → Leads totals (front bs ss (spelled_spot spot) ++ p ∷ []) (place_step totals (state_of totals (record { blocks = bs; body = ss; spot = spot })).around (state_of totals (record { blocks = bs; body = ss; spot = spot })).place p)
  spot_sound bs ss at_statement p hb hs h = statement_sound bs ss p.line p.token hb hs
  spot_sound bs ss (at_title l) p hb hs h = title_sound bs ss l p.line p.token hb hs
  spot_sound bs ss (at_title_end l m s) p hb hs h = title_end_sound bs ss l m s p.line p.token hb hs
  spot_sound bs ss (at_total_name l) p hb hs h = total_name_sound bs ss l p.line p.token hb hs
  spot_sound bs ss (at_total_equals l m w) p hb hs h = total_equals_sound bs ss l m w p.line p.token hb hs
  spot_sound bs ss (at_for_name l) p hb hs h = for_name_sound bs ss l p.line p.token hb hs
  spot_sound bs ss (at_in l m w) p hb hs h = in_sound bs ss l m w p.line p.token hb hs
  spot_sound bs ss (at_table l m w i) p hb hs h = table_sound bs ss l m w i p.line p.token hb hs
  spot_sound bs ss (at_where l m w i k t) p hb hs h = where_sound bs ss l m w i k t p.line p.token hb hs
  spot_sound bs ss (in_expression u gs ws a) p hb hs h =
      turned_sound bs ss u (spelled_open gs ws a) p
      (turn (scope_of totals (bound_for (bound_in bs) u)) (level_at bs) (groups_of (scope_of totals (bound_for (bound_in bs) u)) (level_at bs) gs)
      (pendings_of (scope_of totals (bound_for (bound_in bs) u)) (level_of (scope_of totals (bound_for (bound_in bs) u)) (level_at bs) gs) ws)
      (point_of (scope_of totals (bound_for (bound_in bs) u)) (level_of (scope_of totals (bound_for (bound_in bs) u)) (level_at bs) gs) a) p)
      hb hs h.0 (turn_sound (scope_of totals (bound_for (bound_in bs) u)) (level_at bs) gs ws a p h.1 h.2 h.3)
  spot_sound bs ss (at_width f e c) p hb hs h = width_sound bs ss f e c p.line p.token hb hs h.0 h.1
  spot_sound bs ss (at_right f e c m w) p hb hs h = right_sound bs ss f e c m w p.line p.token hb hs h.0 h.1 h.2
  spot_sound bs ss (at_comma l cs) p hb hs h = comma_sound bs ss l cs p.line p.token hb hs h
  spot_sound bs ss (at_else l e o first c) p hb hs h = else_by bs ss l e o first c p (machine.is_else p.token) refl hb hs h.0 h.1
  spot_sound bs ss (at_else_body l e o first c k) p hb hs h = else_body_sound bs ss l e o first c k p.line p.token hb hs h.0 h.1
  spot_sound bs ss (done l) p hb hs h = tt

  -- one token more
  pub step_sound : (front : List Lexeme) (s : State) (p : Lexeme) → Reached totals front s → Leads totals (front ++ p ∷ []) (step totals s p)
  unfolding step
  step_sound front s p r =
      subst (λ (x : State). Leads totals (front ++ p ∷ []) (place_step totals x.around x.place p)) r.same
      (subst (λ (xs : List Lexeme). Leads totals (xs ++ p ∷ []) (place_step totals (state_of totals r.draft).around (state_of totals r.draft).place p)) r.spelling
      (spot_sound r.draft.blocks r.draft.body r.draft.spot p r.is_draft.0 r.is_draft.1 r.is_draft.2))

  -- nothing is read
  pub reached_none : Reached totals [] machine.start
  reached_none = record { draft = record { blocks = []; body = none; spot = at_statement }; is_draft = (tt, tt, tt); same = refl; spelling = refl }

  run_none : (front ps : List Lexeme) → Leads totals front (machine.run totals None ps)
  unfolding machine.run
  run_none front [] = tt
  run_none front (p ∷ ps) = tt

  pub run_sound : (ps : List Lexeme) (front : List Lexeme) (s : State) → Reached totals front s → Leads totals (front ++ ps) (machine.run totals (Some s) ps)
  unfolding machine.run
  run_sound [] front s r = subst (λ (xs : List Lexeme). Reached totals xs s) (sym (append-nil front)) r
  run_sound (p ∷ ps) front s r = by_step (step totals s p) (step_sound front s p r) (λ (t : State) (h : Reached totals (front ++ p ∷ []) t). run_sound ps (front ++ p ∷ []) t h) where
    by_step : (x : Option State) → Leads totals (front ++ p ∷ []) x → ((t : State) → Reached totals (front ++ p ∷ []) t → Leads totals ((front ++ p ∷ []) ++ ps) (machine.run totals (Some t) ps)) → Leads totals (front ++ p ∷ ps) (machine.run totals x ps)
    by_step None h again = run_none (front ++ p ∷ ps) ps
    by_step (Some t) h again = subst (λ (xs : List Lexeme). Leads totals xs (machine.run totals (Some t) ps)) (append_assoc front (p ∷ []) ps) (again t h)
