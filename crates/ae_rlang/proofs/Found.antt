-- What the reader answers, where its tokens are those of the bytes.
use Rattle.std.proofs.Common.{◌≡◌, ℕ, true, false, length, arith, List, [], ◌∷◌, ◌++◌, Option, Some, None, refl, sym, ap, subst, ◌∙◌, append_assoc}
use Rattle.ae_rlang.specs.Token.{Token, end, bad, Lexeme}
use Rattle.ae_rlang.specs.Written.{Statements, put, spelled_body}
use Rattle.ae_rlang.specs.Report.{deeds_of}
use Rattle.ae_rlang.specs.Scope.{totals_in}
use Rattle.ae_rlang.specs.Values.{Value}
use Rattle.ae_rlang.specs.Reads.{whole_scope, IsWritten, IsReport, IsWrong, IsBad}
use Rattle.ae_rlang.specs.Scan.{is_last, Leads, AllGo, AreScanned}
use Rattle.ae_rlang.specs.Machine.{Pending, Group, Point, waiting, named, dotted, timing, having, turned, having_turn, Block, Slot, for_cell, for_total, for_test, for_choice, Around, Place, at_statement, at_title, at_title_end, at_total_name, at_total_equals, at_for_name, at_in, at_table, at_where, in_expression, at_width, at_right, at_comma, at_else, at_else_body, done, State, start, moved, end_step, place_step, slot_step, step, run}
use Rattle.ae_rlang.proofs.AllKept.{body-meant}
use Rattle.ae_rlang.proofs.Statements.{around_body}
use Rattle.ae_rlang.proofs.Whole.{run_append, text_found, taken_goes_further, stopped_ends}
use Rattle.ae_rlang.proofs.Scanning.{leads_begins, leads_front}

-- ---- the last token ends the text, or isn't taken

done_here : (around : Around) (s : State) → moved around done ≡ Some s → s.place ≡ done
done_here around s e = let same : s ≡ record { around = around; place = done } = cc in ap (λ (x : State). x.place) same

end_done : (around : Around) (blocks : List Block) (s : State) → end_step around blocks ≡ Some s → s.place ≡ done
end_done around [] s e = done_here around s e
end_done around (b ∷ blocks) s e = absurd cc

slot_stops : (around : Around) (slot : Slot) (v : Value) (l : ℕ) (t : Token) (s : State) → is_last t ≡ true → slot_step around slot v l t ≡ Some s → ⊥
slot_stops around (for_cell cells line) v l end s h e = cc
slot_stops around (for_total t w) v l end s h e = cc
slot_stops around (for_test w table line t) v l end s h e = cc
slot_stops around (for_choice t) v l end s h e = cc
slot_stops around (for_cell cells line) v l bad s h e = cc
slot_stops around (for_total t w) v l bad s h e = cc
slot_stops around (for_test w table line t) v l bad s h e = cc
slot_stops around (for_choice t) v l bad s h e = cc
slot_stops around slot v l other s h e = cc

having_stops : (around : Around) (slot : Slot) (groups : List Group) (ps : List Pending) (v : Value) (l : ℕ) (t : Token) (s : State) → is_last t ≡ true
    → turned around slot (put l t) (having_turn (length around.blocks) groups ps v (put l t)) ≡ Some s → ⊥
having_stops around slot [] ps v l end s h e = slot_stops around slot _ l end s h e
having_stops around slot [] ps v l bad s h e = slot_stops around slot _ l bad s h e
having_stops around slot (g ∷ gs) ps v l end s h e = cc
having_stops around slot (g ∷ gs) ps v l bad s h e = cc
having_stops around slot groups ps v l other s h e = cc

expression_stops : (totals : List (List ℕ)) (around : Around) (slot : Slot) (groups : List Group) (ps : List Pending) (point : Point) (l : ℕ) (t : Token) (s : State) → is_last t ≡ true
    → place_step totals around (in_expression slot groups ps point) (put l t) ≡ Some s → ⊥
expression_stops totals around slot groups ps waiting l end s h e = cc
expression_stops totals around slot groups ps waiting l bad s h e = cc
expression_stops totals around slot groups ps (named m w) l end s h e = having_stops around slot groups ps _ l end s h e
expression_stops totals around slot groups ps (named m w) l bad s h e = having_stops around slot groups ps _ l bad s h e
expression_stops totals around slot groups ps (dotted m w) l end s h e = cc
expression_stops totals around slot groups ps (dotted m w) l bad s h e = cc
expression_stops totals around slot groups ps (timing m) l end s h e = cc
expression_stops totals around slot groups ps (timing m) l bad s h e = cc
expression_stops totals around slot groups ps (having v) l end s h e = having_stops around slot groups ps v l end s h e
expression_stops totals around slot groups ps (having v) l bad s h e = having_stops around slot groups ps v l bad s h e
expression_stops totals around slot groups ps point l other s h e = cc

by_place : (totals : List (List ℕ)) (around : Around) (place : Place) (l : ℕ) (t : Token) (s : State) → is_last t ≡ true → place_step totals around place (put l t) ≡ Some s → s.place ≡ done
by_place totals around at_statement l end s h e = end_done around around.blocks s e
by_place totals around (at_else test first line) l end s h e = end_done _ around.blocks s e
by_place totals around (in_expression slot groups ps point) l t s h e = absurd (expression_stops totals around slot groups ps point l t s h e)
by_place totals around at_title l end s h e = absurd cc
by_place totals around (at_title_end t) l end s h e = absurd cc
by_place totals around (at_total_name m) l end s h e = absurd cc
by_place totals around (at_total_equals m w) l end s h e = absurd cc
by_place totals around (at_for_name m) l end s h e = absurd cc
by_place totals around (at_in m n w) l end s h e = absurd cc
by_place totals around (at_table m n w) l end s h e = absurd cc
by_place totals around (at_where w table line) l end s h e = absurd cc
by_place totals around (at_width cells line v) l end s h e = absurd cc
by_place totals around (at_right cells line v w) l end s h e = absurd cc
by_place totals around (at_comma cells line) l end s h e = absurd cc
by_place totals around (at_else_body test first line) l end s h e = absurd cc
by_place totals around done l end s h e = absurd cc
by_place totals around at_statement l bad s h e = absurd cc
by_place totals around (at_else test first line) l bad s h e = absurd cc
by_place totals around at_title l bad s h e = absurd cc
by_place totals around (at_title_end t) l bad s h e = absurd cc
by_place totals around (at_total_name m) l bad s h e = absurd cc
by_place totals around (at_total_equals m w) l bad s h e = absurd cc
by_place totals around (at_for_name m) l bad s h e = absurd cc
by_place totals around (at_in m n w) l bad s h e = absurd cc
by_place totals around (at_table m n w) l bad s h e = absurd cc
by_place totals around (at_where w table line) l bad s h e = absurd cc
by_place totals around (at_width cells line v) l bad s h e = absurd cc
by_place totals around (at_right cells line v w) l bad s h e = absurd cc
by_place totals around (at_comma cells line) l bad s h e = absurd cc
by_place totals around (at_else_body test first line) l bad s h e = absurd cc
by_place totals around done l bad s h e = absurd cc
by_place totals around place l other s h e = absurd cc

pub last_ends : (totals : List (List ℕ)) (s t : State) (p : Lexeme) → is_last p.token ≡ true → step totals s p ≡ Some t → t.place ≡ done
unfolding step
last_ends totals s t p h e = by_place totals s.around s.place p.line p.token t h e

-- ---- all tokens were taken

ends_one : (totals : List (List ℕ)) (x : Option State) (p : Lexeme) (t : State) → is_last p.token ≡ true → run totals x (p ∷ []) ≡ Some t → t.place ≡ done
unfolding run
ends_one totals None p t h e = absurd cc
ends_one totals (Some s) p t h e = last_ends totals s t p h e

pub record Found (totals : List (List ℕ)) (bytes : List ℕ) (ps : List Lexeme) (s : State) : Type 0 where
  pub statements : Statements
  pub is_written : IsWritten bytes statements ps
  pub around : s.around ≡ around_body totals [] [] statements

pub written_found : (totals : List (List ℕ)) (bytes : List ℕ) (ps : List Lexeme) (s : State) → AreScanned bytes ps → run totals (Some start) ps ≡ Some s → Found totals bytes ps s
written_found totals bytes ps s scan e =
    let split : run totals (run totals (Some start) scan.front) (scan.last ∷ []) ≡ Some s = sym (run_append totals (Some start) scan.front (scan.last ∷ [])) ∙ ap (run totals (Some start)) (sym scan.are) ∙ e in
    let ended = ends_one totals (run totals (Some start) scan.front) scan.last s scan.ends split in
    let t = text_found totals ps s e ended in
    record {
      statements = t.statements;
      is_written = record { tokens_are = leads_begins bytes 0 bytes ps scan.after (omega arith) scan.leads; is_text = t.is_text };
      around = t.around;
    }

-- nothing is bad
pub report_found : (bytes : List ℕ) (ps : List Lexeme) (s : State) → AreScanned bytes ps → run (totals_in false ps) (Some start) ps ≡ Some s → s.around.body.bad ≡ None → IsReport bytes (deeds_of s.around.body.deeds)
report_found bytes ps s scan e free =
    let f = written_found (totals_in false ps) bytes ps s scan e in
    let none = ap (λ (x : Around). x.body.bad) (sym f.around) ∙ free in
    (f.statements, ps, f.is_written, none, ap (λ (x : Around). deeds_of x.body.deeds) f.around ∙ ap deeds_of (body-meant f.statements (whole_scope ps) 0 none))

-- a token is bad
pub bad_found : (bytes : List ℕ) (ps : List Lexeme) (s : State) (line : ℕ) → AreScanned bytes ps → run (totals_in false ps) (Some start) ps ≡ Some s → s.around.body.bad ≡ Some line → IsBad bytes line
bad_found bytes ps s line scan e is =
    let f = written_found (totals_in false ps) bytes ps s scan e in
    (f.statements, ps, f.is_written, ap (λ (x : Around). x.body.bad) (sym f.around) ∙ is)

-- ---- a token wasn't taken

no_last : (front : List Lexeme) (p : Lexeme) (more all : List Lexeme) (last : Lexeme) → front ++ p ∷ more ≡ all ++ last ∷ [] → AllGo all → AllGo front
no_last [] p more all last e go = tt
no_last (f ∷ []) p more [] last e go = absurd cc
no_last (f ∷ g ∷ front) p more [] last e go = absurd cc
no_last (f ∷ front) p more (a ∷ all) last e go =
    let head : f ≡ a = cc in
    let tail : front ++ p ∷ more ≡ all ++ last ∷ [] = cc in
    (ap (λ (x : Lexeme). is_last x.token) head ∙ go.0, no_last front p more all last tail go.1)

last_goes : (xs : List Lexeme) (p : Lexeme) → AllGo (xs ++ p ∷ []) → is_last p.token ≡ false
last_goes [] p go = go.0
last_goes (x ∷ xs) p go = last_goes xs p go.1

pub wrong_found : (totals : List (List ℕ)) (bytes : List ℕ) (front : List Lexeme) (p : Lexeme) (more : List Lexeme) (s : State) → AreScanned bytes (front ++ p ∷ more)
    → run totals (Some start) front ≡ Some s → step totals s p ≡ None → IsWrong bytes p.line
wrong_found totals bytes front p more s scan e stopped =
    let row : front ++ p ∷ more ≡ (front ++ p ∷ []) ++ more = sym (append_assoc front (p ∷ []) more) in
    let l = leads_front bytes bytes (front ++ p ∷ []) more scan.after (subst (λ (xs : List Lexeme). Leads bytes bytes xs scan.after) row scan.leads) in (
      front,
      p,
      record {
        tokens_are = leads_begins bytes 0 bytes (front ++ p ∷ []) l.0 (omega arith) l.1;
        can_go_on = taken_goes_further totals front s e (never (no_last front p more scan.front scan.last scan.are scan.go));
        cannot_stand = stopped_ends totals front s p e stopped;
        line_is = refl;
      },
    ) where
      never : AllGo front → s.place ≡ done → ⊥
      never go is =
          let t = text_found totals front s e is in
          let goes = last_goes (spelled_body t.statements) (put t.is_text.1 end) (subst AllGo t.is_text.2 go) in
          let never_so : true ≡ false = goes in cc
