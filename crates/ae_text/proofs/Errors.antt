-- A text that is read has no error line, and no text has two.
use Rattle.std.proofs.Common.{◌≡◌, ℕ, inl, inr, length, arith, List, [], ◌∷◌, ◌++◌, Result, Ok, refl, sym, ap, subst, ◌∙◌, append_assoc}
use Rattle.std.proofs.lemmas.List.{append-nil}
use Rattle.ae_text.specs.Tree.{Node, list, fields, Members}
use Rattle.ae_text.specs.Tree as tree
use Rattle.ae_text.specs.Token.{Placed}
use Rattle.ae_text.specs.WellFormed.{max_depth}
use Rattle.ae_text.specs.Grammar.{IsSentence, ReadsFields, Reads, line_of}
use Rattle.ae_text.specs.Wrong.{GoesOn, IsWrongAt, IsSyntax, IsTooDeep, IsError}
use Rattle.ae_text.specs.Pushdown.{State, Fault, done, start, run}
use Rattle.ae_text.proofs.Complete.{members_list, sentence_goes, Fresh-nil}
use Rattle.ae_text.proofs.Viable.{run-append}
use Rattle.ae_text.proofs.Tokens.{begins_leads}
use Rattle.ae_text.proofs.Shaped.{shaped}
use Rattle.ae_text.proofs.Whole.{leads_prefix, sentence_run, done_stops}

-- what begins a part of a row, and isn't the whole of it, begins what stands before its last token
before_last : (all front : List Placed) (p x : Placed) (xs : List Placed) → front ++ p ∷ [] ≡ all ++ x ∷ xs → (more : List Placed) × (front ≡ all ++ more)
before_last [] front p x xs e = (front, refl)
before_last (a ∷ []) [] p x xs e = absurd cc
before_last (a ∷ b ∷ all) [] p x xs e = absurd cc
before_last (a ∷ all) (f ∷ front) p x xs e =
    let head : f ≡ a = cc in
    let tail : front ++ p ∷ [] ≡ all ++ x ∷ xs = cc in
    let o = before_last all front p x xs tail in
    (o.0, rw head (ap (λ (ys : List Placed). a ∷ ys) o.1))

last_same : (front other : List Placed) (p q : Placed) → front ++ p ∷ [] ≡ other ++ q ∷ [] → p ≡ q
last_same [] [] p q e = cc
last_same [] (b ∷ []) p q e = absurd cc
last_same [] (b ∷ c ∷ other) p q e = absurd cc
last_same (a ∷ []) [] p q e = absurd cc
last_same (a ∷ c ∷ front) [] p q e = absurd cc
last_same (a ∷ front) (b ∷ other) p q e = let tail : front ++ p ∷ [] ≡ other ++ q ∷ [] = cc in last_same front other p q tail

-- what begins a row that goes on goes on
pub goes_before : (depth : ℕ) (front more : List Placed) → GoesOn depth (front ++ more) → GoesOn depth front
goes_before depth front more (rest, ms, places, sentence, names_differ, nests) =
    (more ++ rest, ms, places, subst (λ (ps : List Placed). IsSentence ps ms places) (append_assoc front more rest) sentence, names_differ, nests)

sentence_ends : (bytes : List ℕ) (ms : Members) (lines : List ℕ) (h : ReadsFields bytes ms lines) (more : List Placed) (other : Placed) → GoesOn max_depth ((h.all ++ more) ++ other ∷ []) → ⊥
sentence_ends bytes ms lines h more other (rest, others, places, sentence, names_differ, nests) =
    let tail : List Placed = (more ++ other ∷ []) ++ rest in
    let row : ((h.all ++ more) ++ other ∷ []) ++ rest ≡ h.all ++ tail =
    ap (λ (ps : List Placed). ps ++ rest) (append_assoc h.all more (other ∷ [])) ∙ append_assoc h.all (more ++ other ∷ []) rest in
    let last : State = record { outer = []; place = done (members_list ms); starts = h.places } in
    let end : State = record { outer = []; place = done (members_list others); starts = places } in
    let read : run max_depth (Ok start) (((h.all ++ more) ++ other ∷ []) ++ rest) ≡ Ok end = sentence_goes others max_depth [] [] (((h.all ++ more) ++ other ∷ []) ++ rest) places sentence (shaped others max_depth names_differ nests) (Fresh-nil others) in
    let on : run max_depth (Ok last) tail ≡ Ok end =
    ap (λ (r : Result State Fault). run max_depth r tail) (sym (sentence_run bytes ms lines h)) ∙ sym (run-append max_depth (Ok start) h.all tail) ∙ ap (run max_depth (Ok start)) (sym row) ∙ read in
    let nothing : tail ≡ [] = (done_stops last refl tail end on).0 in
    not_nothing more nothing where
      not_nothing : (more : List Placed) → (more ++ other ∷ []) ++ rest ≡ [] → ⊥
      not_nothing [] e = cc
      not_nothing (m ∷ more) e = cc

-- a text in the grammar has no wrong token
pub never_wrong : (bytes : List ℕ) (ms : Members) (lines : List ℕ) (line : ℕ) (front : List Placed) (p : Placed) → ReadsFields bytes ms lines → IsWrongAt bytes line front p → ⊥
never_wrong bytes ms lines line front p h w =
    let l = begins_leads (length bytes) 0 bytes h.all (omega arith) h.tokens_are in
    let g = begins_leads (length bytes) 0 bytes (front ++ p ∷ []) (omega arith) w.tokens_are in
    elim (leads_prefix (length bytes) bytes (front ++ p ∷ []) h.all g.0 l.0 g.1 l.1) [
      | inl m ↦ w.cannot_stand (m.0, ms, h.places, subst (λ (ps : List Placed). IsSentence ps ms h.places) m.1 h.sentence, h.names_differ, h.nests)
      | inr m ↦ by_more m.0 m.1
    ] where
      by_more : (more : List Placed) → front ++ p ∷ [] ≡ h.all ++ more → ⊥
      by_more [] e =
          let row : h.all ≡ (front ++ p ∷ []) ++ [] = sym (append-nil h.all) ∙ sym e ∙ sym (append-nil (front ++ p ∷ [])) in
          w.cannot_stand ([], ms, h.places, subst (λ (ps : List Placed). IsSentence ps ms h.places) row h.sentence, h.names_differ, h.nests)
      by_more (x ∷ more) e =
          let o = before_last h.all front p x more e in
          sentence_ends bytes ms lines h o.0 w.can_go_on.0 (subst (λ (ps : List Placed). GoesOn max_depth (ps ++ w.can_go_on.0 ∷ [])) o.1 w.can_go_on.1)

-- of two wrong tokens none stands after the other
not_behind : (bytes : List ℕ) (a b : ℕ) (front other : List Placed) (p q : Placed) → IsWrongAt bytes a front p → IsWrongAt bytes b other q → (more : List Placed) → other ++ q ∷ [] ≡ (front ++ p ∷ []) ++ more
    → front ++ p ∷ [] ≡ other ++ q ∷ []
not_behind bytes a b front other p q w v [] e = sym (e ∙ append-nil (front ++ p ∷ []))
not_behind bytes a b front other p q w v (x ∷ more) e =
    let o = before_last (front ++ p ∷ []) other q x more e in
    let goes : GoesOn max_depth (((front ++ p ∷ []) ++ o.0) ++ v.can_go_on.0 ∷ []) = subst (λ (ps : List Placed). GoesOn max_depth (ps ++ v.can_go_on.0 ∷ [])) o.1 v.can_go_on.1 in
    absurd (w.cannot_stand (goes_before max_depth (front ++ p ∷ []) o.0 (goes_before max_depth ((front ++ p ∷ []) ++ o.0) (v.can_go_on.0 ∷ []) goes)))

pub one_wrong : (bytes : List ℕ) (a b : ℕ) (front other : List Placed) (p q : Placed) → IsWrongAt bytes a front p → IsWrongAt bytes b other q → front ++ p ∷ [] ≡ other ++ q ∷ []
one_wrong bytes a b front other p q w v =
    let l = begins_leads (length bytes) 0 bytes (front ++ p ∷ []) (omega arith) w.tokens_are in
    let g = begins_leads (length bytes) 0 bytes (other ++ q ∷ []) (omega arith) v.tokens_are in
    elim (leads_prefix (length bytes) bytes (front ++ p ∷ []) (other ++ q ∷ []) l.0 g.0 l.1 g.1) [
      | inl m ↦ not_behind bytes a b front other p q w v m.0 m.1
      | inr m ↦ sym (not_behind bytes b a other front q p v w m.0 m.1)
    ]

wrong_line : (bytes : List ℕ) (a b : ℕ) (front other : List Placed) (p q : Placed) → IsWrongAt bytes a front p → IsWrongAt bytes b other q → a ≡ b
wrong_line bytes a b front other p q w v =
    let same : p ≡ q = last_same front other p q (one_wrong bytes a b front other p q w v) in
    w.line_is ∙ ap (λ (r : Placed). line_of bytes r.at) same ∙ sym v.line_is

pub one_line : (bytes : List ℕ) (line other : ℕ) → IsError bytes line → IsError bytes other → line ≡ other
one_line bytes line other (inl e) (inl f) = wrong_line bytes line other e.0 f.0 e.1 f.1 e.2 f.2
one_line bytes line other (inl e) (inr f) = wrong_line bytes line other e.0 f.0 e.1 f.1 e.2 f.2
one_line bytes line other (inr e) (inl f) = wrong_line bytes line other e.0 f.0 e.1 f.1 e.2 f.2
one_line bytes line other (inr e) (inr f) = wrong_line bytes line other e.0 f.0 e.1 f.1 e.2 f.2

pub one_kind : (bytes : List ℕ) (line other : ℕ) → IsSyntax bytes line → IsTooDeep bytes other → ⊥
one_kind bytes line other e f =
    let row = one_wrong bytes line other e.0 f.0 e.1 f.1 e.2 f.2 in
    e.3 f.3 (subst (λ (ps : List Placed). GoesOn f.3 ps) (sym row) f.4)

pub never_both : (bytes : List ℕ) (v : Node) (lines : List ℕ) (line : ℕ) → Reads bytes v lines → IsError bytes line → ⊥
never_both bytes (tree.word w) lines line h e = h
never_both bytes (tree.number n) lines line h e = h
never_both bytes (tree.str s) lines line h e = h
never_both bytes (list js) lines line h e = h
never_both bytes (fields ms) lines line h (inl e) = never_wrong bytes ms lines line e.0 e.1 h e.2
never_both bytes (fields ms) lines line h (inr e) = never_wrong bytes ms lines line e.0 e.1 h e.2
