-- The reader against the grammar, on tokens.
use Rattle.std.proofs.Common.{◌≡◌, ℕ, List, [], ◌∷◌, ◌++◌, Option, Some, None, refl, sym, ap, subst, ◌∙◌, append_assoc}
use Rattle.std.proofs.lemmas.List.{append-nil}
use Rattle.ae_rlang.specs.Token.{Lexeme}
use Rattle.ae_rlang.specs.Written.{Statements}
use Rattle.ae_rlang.specs.Grammar.{AreStatements, IsText}
use Rattle.ae_rlang.specs.Reads.{GoesOn}
use Rattle.ae_rlang.specs.Machine.{Around, done, State, start, moved, step, run}
use Rattle.ae_rlang.proofs.Drafts as draft
use Rattle.ae_rlang.proofs.Drafts.{Open, Spot, Draft, IsSpot, AreOpen, spelled_draft, state_of}
use Rattle.ae_rlang.proofs.Statements.{around_body, text_goes}
use Rattle.ae_rlang.proofs.Taken.{Reached, Leads, reached_none, run_sound}
use Rattle.ae_rlang.proofs.Closing.{place_closes}

pub run_none : (totals : List (List ℕ)) (ps : List Lexeme) → run totals None ps ≡ None
unfolding run
run_none totals [] = refl
run_none totals (p ∷ ps) = refl

pub run_append : (totals : List (List ℕ)) (s : Option State) (xs ys : List Lexeme) → run totals s (xs ++ ys) ≡ run totals (run totals s xs) ys
unfolding run
run_append totals s [] ys = refl
run_append totals None (x ∷ xs) ys = sym (run_none totals ys)
run_append totals (Some s) (x ∷ xs) ys = run_append totals (step totals s x) xs ys

pub run_one : (totals : List (List ℕ)) (s : Option State) (front : List Lexeme) (t : State) (p : Lexeme) → run totals s front ≡ Some t → run totals s (front ++ p ∷ []) ≡ step totals t p
unfolding run
run_one totals s front t p e = run_append totals s front (p ∷ []) ∙ ap (λ (x : Option State). run totals x (p ∷ [])) e

-- what is done goes no further
pub done_stops : (totals : List (List ℕ)) (around : Around) (ps : List Lexeme) (t : State) → run totals (moved around done) ps ≡ Some t → ps ≡ []
unfolding run step
done_stops totals around [] t e = refl
done_stops totals around (p ∷ ps) t e = absurd (let never : None ≡ Some t = sym (run_none totals ps) ∙ e in cc)

-- ---- what has ended is a text

pub record Text (totals : List (List ℕ)) (ps : List Lexeme) (s : State) : Type 0 where
  pub statements : Statements
  pub is_text : IsText ps statements
  pub around : s.around ≡ around_body totals [] [] statements

by_blocks : (totals : List (List ℕ)) (bs : List Open) (ss : Statements) (l : ℕ) (ps : List Lexeme) (s : State) → AreStatements ss → draft.AreNone bs
    → state_of totals (record { blocks = bs; body = ss; spot = draft.done l }) ≡ s → spelled_draft (record { blocks = bs; body = ss; spot = draft.done l }) ≡ ps → Text totals ps s
by_blocks totals [] ss l ps s hs hb same spells = record { statements = ss; is_text = (hs, l, sym spells); around = ap (λ (x : State). x.around) (sym same) }
by_blocks totals (b ∷ bs) ss l ps s hs hb same spells = absurd hb

by_spot : (totals : List (List ℕ)) (bs : List Open) (ss : Statements) (spot : Spot) (ps : List Lexeme) (s : State) → AreStatements ss → IsSpot bs spot
    → state_of totals (record { blocks = bs; body = ss; spot = spot }) ≡ s → spelled_draft (record { blocks = bs; body = ss; spot = spot }) ≡ ps
    → (state_of totals (record { blocks = bs; body = ss; spot = spot })).place ≡ done → Text totals ps s
by_spot totals bs ss draft.at_statement ps s hs hp same spells is = absurd cc
by_spot totals bs ss (draft.at_title l) ps s hs hp same spells is = absurd cc
by_spot totals bs ss (draft.at_title_end l m t) ps s hs hp same spells is = absurd cc
by_spot totals bs ss (draft.at_total_name l) ps s hs hp same spells is = absurd cc
by_spot totals bs ss (draft.at_total_equals l m w) ps s hs hp same spells is = absurd cc
by_spot totals bs ss (draft.at_for_name l) ps s hs hp same spells is = absurd cc
by_spot totals bs ss (draft.at_in l m w) ps s hs hp same spells is = absurd cc
by_spot totals bs ss (draft.at_table l m w i) ps s hs hp same spells is = absurd cc
by_spot totals bs ss (draft.at_where l m w i k t) ps s hs hp same spells is = absurd cc
by_spot totals bs ss (draft.in_expression u gs ws a) ps s hs hp same spells is = absurd cc
by_spot totals bs ss (draft.at_width f e c) ps s hs hp same spells is = absurd cc
by_spot totals bs ss (draft.at_right f e c m w) ps s hs hp same spells is = absurd cc
by_spot totals bs ss (draft.at_comma l cs) ps s hs hp same spells is = absurd cc
by_spot totals bs ss (draft.at_else l e o first c) ps s hs hp same spells is = absurd cc
by_spot totals bs ss (draft.at_else_body l e o first c k) ps s hs hp same spells is = absurd cc
by_spot totals bs ss (draft.done l) ps s hs hp same spells is = by_blocks totals bs ss l ps s hs hp same spells

pub run_reaches : (totals : List (List ℕ)) (ps : List Lexeme) (s : State) → run totals (Some start) ps ≡ Some s → Reached totals ps s
run_reaches totals ps s e = subst (Leads totals ps) e (run_sound totals ps [] start (reached_none totals))

pub text_found : (totals : List (List ℕ)) (ps : List Lexeme) (s : State) → run totals (Some start) ps ≡ Some s → s.place ≡ done → Text totals ps s
text_found totals ps s e is =
    let r = run_reaches totals ps s e in
    by_spot totals r.draft.blocks r.draft.body r.draft.spot ps s r.is_draft.1 r.is_draft.2 r.same r.spelling (ap (λ (x : State). x.place) r.same ∙ is)

-- ---- what was taken goes on

pub taken_goes_on : (totals : List (List ℕ)) (front : List Lexeme) (s : State) → run totals (Some start) front ≡ Some s → GoesOn front
taken_goes_on totals front s e =
    let c = place_closes s.place totals s.around in
    let all : run totals (Some start) (front ++ c.more) ≡ moved c.last done = run_append totals (Some start) front c.more ∙ ap (λ (x : Option State). run totals x c.more) e ∙ c.runs in
    let t = text_found totals (front ++ c.more) (record { around = c.last; place = done }) all refl in
    (c.more, t.statements, t.is_text)

-- and further, where it hasn't ended
pub taken_goes_further : (totals : List (List ℕ)) (front : List Lexeme) (s : State) → run totals (Some start) front ≡ Some s → (s.place ≡ done → ⊥) → (other : Lexeme) × GoesOn (front ++ other ∷ [])
unfolding run
taken_goes_further totals front s e never =
    let c = place_closes s.place totals s.around in
    by_more c.more c.last c.runs where
      by_more : (more : List Lexeme) (last : Around) → run totals (Some s) more ≡ moved last done → (other : Lexeme) × GoesOn (front ++ other ∷ [])
      by_more [] last runs = absurd (never (let same : Some s ≡ moved last done = runs in let is : s ≡ record { around = last; place = done } = cc in ap (λ (x : State). x.place) is))
      by_more (q ∷ qs) last runs =
          let all : run totals (Some start) (front ++ q ∷ qs) ≡ moved last done = run_append totals (Some start) front (q ∷ qs) ∙ ap (λ (x : Option State). run totals x (q ∷ qs)) e ∙ runs in
          let t = text_found totals (front ++ q ∷ qs) (record { around = last; place = done }) all refl in
          (q, (qs, t.statements, subst (λ (ps : List Lexeme). IsText ps t.statements) (sym (append_assoc front (q ∷ []) qs)) t.is_text))

-- where a token wasn't taken no text goes on
pub stopped_ends : (totals : List (List ℕ)) (front : List Lexeme) (s : State) (p : Lexeme) → run totals (Some start) front ≡ Some s → step totals s p ≡ None → GoesOn (front ++ p ∷ []) → ⊥
stopped_ends totals front s p e stopped (more, ss, is_text) =
    let read = text_goes ss totals ((front ++ p ∷ []) ++ more) is_text in
    let failed : run totals (Some start) ((front ++ p ∷ []) ++ more) ≡ None =
    run_append totals (Some start) (front ++ p ∷ []) more ∙ ap (λ (x : Option State). run totals x more) (run_one totals (Some start) front s p e ∙ stopped) ∙ run_none totals more in
    let never : None ≡ moved (around_body totals [] [] ss) done = sym failed ∙ read in
    cc

state_same : (s t : State) → Some s ≡ Some t → s ≡ t
state_same s t e = cc

around_same : (a b : Around) → moved a done ≡ moved b done → a ≡ b
around_same a b e = ap (λ (x : State). x.around) (state_same (record { around = a; place = done }) (record { around = b; place = done }) e)

-- of two texts of which one begins the other both have the same statements
pub one_text : (totals : List (List ℕ)) (xs more : List Lexeme) (ss tt' : Statements) → IsText xs ss → IsText (xs ++ more) tt' → (more ≡ []) × (around_body totals [] [] ss ≡ around_body totals [] [] tt')
one_text totals xs more ss tt' h g =
    let first = text_goes ss totals xs h in
    let second = text_goes tt' totals (xs ++ more) g in
    let on : run totals (moved (around_body totals [] [] ss) done) more ≡ moved (around_body totals [] [] tt') done =
    ap (λ (x : Option State). run totals x more) (sym first) ∙ sym (run_append totals (Some start) xs more) ∙ second in
    let nothing = done_stops totals (around_body totals [] [] ss) more (record { around = around_body totals [] [] tt'; place = done }) on in
    let same : moved (around_body totals [] [] ss) done ≡ moved (around_body totals [] [] tt') done =
    sym first ∙ ap (run totals (Some start)) (sym (append-nil xs) ∙ ap (λ (zs : List Lexeme). xs ++ zs) (sym nothing)) ∙ second in
    (nothing, around_same (around_body totals [] [] ss) (around_body totals [] [] tt') same)
