-- Bytes are at most one report, and have at most one line that they are refused with, and never both.
use Rattle.std.proofs.Common.{◌≡◌, inl, inr, ℕ, false, arith, List, [], ◌∷◌, ◌++◌, Some, None, refl, sym, ap, subst, ◌∙◌, append_assoc}
use Rattle.std.proofs.lemmas.List.{append-nil}
use Rattle.ae_rlang.specs.Token.{Lexeme}
use Rattle.ae_rlang.specs.Report.{Deeds, deeds_of}
use Rattle.ae_rlang.specs.Written.{Statements}
use Rattle.ae_rlang.specs.Grammar.{IsText}
use Rattle.ae_rlang.specs.Scope.{totals_in}
use Rattle.ae_rlang.specs.Bad.{bad_body}
use Rattle.ae_rlang.specs.Reads.{whole_scope, IsWritten, IsReport, GoesOn, IsWrongAt, IsWrong, IsRefused}
use Rattle.ae_rlang.specs.Machine.{Around}
use Rattle.ae_rlang.proofs.AllKept.{body-meant}
use Rattle.ae_rlang.proofs.Statements.{around_body}
use Rattle.ae_rlang.proofs.Whole.{one_text}
use Rattle.ae_rlang.proofs.Scanning.{begins_leads, leads_prefix}

-- two ways to write the same bytes have the same tokens, and say the same
pub record SameText (totals : List (List ℕ)) (ps qs : List Lexeme) (ss others : Statements) : Type 0 where
  pub tokens : ps ≡ qs
  pub said : around_body totals [] [] ss ≡ around_body totals [] [] others

pub one_written : (totals : List (List ℕ)) (bytes : List ℕ) (ss others : Statements) (ps qs : List Lexeme) → IsWritten bytes ss ps → IsWritten bytes others qs → SameText totals ps qs ss others
one_written totals bytes ss others ps qs h g =
    let l = begins_leads bytes 0 bytes ps (omega arith) h.tokens_are in
    let k = begins_leads bytes 0 bytes qs (omega arith) g.tokens_are in
    elim (leads_prefix bytes bytes ps qs l.0 k.0 l.1 k.1) [
      | inl m ↦
          let o = one_text totals ps m.0 ss others h.is_text (subst (λ (xs : List Lexeme). IsText xs others) m.1 g.is_text) in
          record { tokens = sym (m.1 ∙ ap (λ (xs : List Lexeme). ps ++ xs) o.0 ∙ append-nil ps); said = o.1 }
      | inr m ↦
          let o = one_text totals qs m.0 others ss g.is_text (subst (λ (xs : List Lexeme). IsText xs ss) m.1 h.is_text) in
          record { tokens = m.1 ∙ ap (λ (xs : List Lexeme). qs ++ xs) o.0 ∙ append-nil qs; said = sym o.1 }
    ]

pub one_report : (bytes : List ℕ) (a b : Deeds) → IsReport bytes a → IsReport bytes b → a ≡ b
one_report bytes a b (ss, ps, h, free, a_is) (others, qs, g, gfree, b_is) =
    let o = one_written [] bytes ss others ps qs h g in
    a_is ∙ ap deeds_of (sym (body-meant ss (whole_scope ps) 0 free)) ∙ ap (λ (x : Around). deeds_of x.body.deeds) o.said
    ∙ ap deeds_of (body-meant others (whole_scope qs) 0 gfree) ∙ sym b_is

same_bad : (bytes : List ℕ) (ss others : Statements) (ps qs : List Lexeme) → IsWritten bytes ss ps → IsWritten bytes others qs → bad_body (whole_scope ps) 0 ss ≡ bad_body (whole_scope qs) 0 others
same_bad bytes ss others ps qs h g =
    let o = one_written (totals_in false ps) bytes ss others ps qs h g in
    ap (λ (x : Around). x.body.bad) o.said ∙ ap (λ (xs : List Lexeme). bad_body (whole_scope xs) 0 others) o.tokens

-- what begins a part of a row, and isn't the whole of it, begins what stands before its last token
before_last : (all front : List Lexeme) (p x : Lexeme) (xs : List Lexeme) → front ++ p ∷ [] ≡ all ++ x ∷ xs → (more : List Lexeme) × (front ≡ all ++ more)
before_last [] front p x xs e = (front, refl)
before_last (a ∷ []) [] p x xs e = absurd cc
before_last (a ∷ b ∷ all) [] p x xs e = absurd cc
before_last (a ∷ all) (f ∷ front) p x xs e =
    let head : f ≡ a = cc in
    let tail : front ++ p ∷ [] ≡ all ++ x ∷ xs = cc in
    let o = before_last all front p x xs tail in
    (o.0, rw head (ap (λ (ys : List Lexeme). a ∷ ys) o.1))

last_same : (front other : List Lexeme) (p q : Lexeme) → front ++ p ∷ [] ≡ other ++ q ∷ [] → p ≡ q
last_same [] [] p q e = cc
last_same [] (b ∷ []) p q e = absurd cc
last_same [] (b ∷ c ∷ other) p q e = absurd cc
last_same (a ∷ []) [] p q e = absurd cc
last_same (a ∷ c ∷ front) [] p q e = absurd cc
last_same (a ∷ front) (b ∷ other) p q e = let tail : front ++ p ∷ [] ≡ other ++ q ∷ [] = cc in last_same front other p q tail

goes_before : (front more : List Lexeme) → GoesOn (front ++ more) → GoesOn front
goes_before front more (rest, ss, is_text) = (more ++ rest, ss, subst (λ (ps : List Lexeme). IsText ps ss) (append_assoc front more rest) is_text)

not_nothing : (more rest : List Lexeme) (other : Lexeme) → (more ++ other ∷ []) ++ rest ≡ [] → ⊥
not_nothing [] rest other e = cc
not_nothing (m ∷ more) rest other e = cc

-- nothing goes on behind a whole text
text_ends : (ps : List Lexeme) (ss : Statements) (more : List Lexeme) (other : Lexeme) → IsText ps ss → GoesOn ((ps ++ more) ++ other ∷ []) → ⊥
text_ends ps ss more other h (rest, others, is_text) =
    let row : ((ps ++ more) ++ other ∷ []) ++ rest ≡ ps ++ ((more ++ other ∷ []) ++ rest) =
    ap (λ (xs : List Lexeme). xs ++ rest) (append_assoc ps more (other ∷ [])) ∙ append_assoc ps (more ++ other ∷ []) rest in
    let o = one_text [] ps ((more ++ other ∷ []) ++ rest) ss others h (subst (λ (xs : List Lexeme). IsText xs others) row is_text) in
    not_nothing more rest other o.0

pub never_wrong : (bytes : List ℕ) (ss : Statements) (ps : List Lexeme) (line : ℕ) (front : List Lexeme) (p : Lexeme) → IsWritten bytes ss ps → IsWrongAt bytes line front p → ⊥
never_wrong bytes ss ps line front p h w =
    let l = begins_leads bytes 0 bytes ps (omega arith) h.tokens_are in
    let g = begins_leads bytes 0 bytes (front ++ p ∷ []) (omega arith) w.tokens_are in
    elim (leads_prefix bytes bytes (front ++ p ∷ []) ps g.0 l.0 g.1 l.1) [
      | inl m ↦ w.cannot_stand (m.0, ss, subst (λ (xs : List Lexeme). IsText xs ss) m.1 h.is_text)
      | inr m ↦ by_more m.0 m.1
    ] where
      by_more : (more : List Lexeme) → front ++ p ∷ [] ≡ ps ++ more → ⊥
      by_more [] e = w.cannot_stand ([], ss, subst (λ (xs : List Lexeme). IsText xs ss) (sym (append-nil ps) ∙ sym e ∙ sym (append-nil (front ++ p ∷ []))) h.is_text)
      by_more (x ∷ more) e =
          let o = before_last ps front p x more e in
          text_ends ps ss o.0 w.can_go_on.0 h.is_text (subst (λ (xs : List Lexeme). GoesOn (xs ++ w.can_go_on.0 ∷ [])) o.1 w.can_go_on.1)

-- of two wrong tokens none stands after the other
not_behind : (bytes : List ℕ) (a b : ℕ) (front other : List Lexeme) (p q : Lexeme) → IsWrongAt bytes a front p → IsWrongAt bytes b other q → (more : List Lexeme) → other ++ q ∷ [] ≡ (front ++ p ∷ []) ++ more
    → front ++ p ∷ [] ≡ other ++ q ∷ []
not_behind bytes a b front other p q w v [] e = sym (e ∙ append-nil (front ++ p ∷ []))
not_behind bytes a b front other p q w v (x ∷ more) e =
    let o = before_last (front ++ p ∷ []) other q x more e in
    let goes : GoesOn (((front ++ p ∷ []) ++ o.0) ++ v.can_go_on.0 ∷ []) = subst (λ (ps : List Lexeme). GoesOn (ps ++ v.can_go_on.0 ∷ [])) o.1 v.can_go_on.1 in
    absurd (w.cannot_stand (goes_before (front ++ p ∷ []) o.0 (goes_before ((front ++ p ∷ []) ++ o.0) (v.can_go_on.0 ∷ []) goes)))

one_wrong : (bytes : List ℕ) (a b : ℕ) (front other : List Lexeme) (p q : Lexeme) → IsWrongAt bytes a front p → IsWrongAt bytes b other q → front ++ p ∷ [] ≡ other ++ q ∷ []
one_wrong bytes a b front other p q w v =
    let l = begins_leads bytes 0 bytes (front ++ p ∷ []) (omega arith) w.tokens_are in
    let g = begins_leads bytes 0 bytes (other ++ q ∷ []) (omega arith) v.tokens_are in
    elim (leads_prefix bytes bytes (front ++ p ∷ []) (other ++ q ∷ []) l.0 g.0 l.1 g.1) [
      | inl m ↦ not_behind bytes a b front other p q w v m.0 m.1
      | inr m ↦ sym (not_behind bytes b a other front q p v w m.0 m.1)
    ]

wrong_line : (bytes : List ℕ) (a b : ℕ) → IsWrong bytes a → IsWrong bytes b → a ≡ b
wrong_line bytes a b (front, p, w) (other, q, v) =
    w.line_is ∙ ap (λ (r : Lexeme). r.line) (last_same front other p q (one_wrong bytes a b front other p q w v)) ∙ sym v.line_is

pub never_both : (bytes : List ℕ) (report : Deeds) (line : ℕ) → IsReport bytes report → IsRefused bytes line → ⊥
never_both bytes report line (ss, ps, h, free, is) (inl (front, p, w)) = never_wrong bytes ss ps line front p h w
never_both bytes report line (ss, ps, h, free, is) (inr (others, qs, g, bad)) = let never : None ≡ Some line = sym free ∙ same_bad bytes ss others ps qs h g ∙ bad in cc

some_same : (a b : ℕ) → Some a ≡ Some b → a ≡ b
some_same a b e = cc

pub one_line : (bytes : List ℕ) (line other : ℕ) → IsRefused bytes line → IsRefused bytes other → line ≡ other
one_line bytes line other (inl w) (inl v) = wrong_line bytes line other w v
one_line bytes line other (inl (front, p, w)) (inr (others, qs, g, bad)) = absurd (never_wrong bytes others qs line front p g w)
one_line bytes line other (inr (ss, ps, h, bad)) (inl (front, p, w)) = absurd (never_wrong bytes ss ps other front p h w)
one_line bytes line other (inr (ss, ps, h, bad)) (inr (others, qs, g, worse)) = some_same line other (sym bad ∙ same_bad bytes ss others ps qs h g ∙ worse)
