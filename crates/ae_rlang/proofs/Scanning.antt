-- The scanner's tokens are those of the definition.
use Rattle.std.proofs.Common.{◌≡◌, ◌⊎◌, inl, inr, ℕ, ◌+◌, ◌-◌, Bool, true, false, cond, eqb, length, take, drop, arith, List, [], ◌∷◌, ◌++◌, Option, Some, None, refl, sym, ap, subst, ◌∙◌}
use Rattle.std.proofs.lemmas.List.{length-append, take-append-drop, drop_at}
use Rattle.std.proofs.lemmas.Slice.Eq.{bytes_eq-Decides}
use Rattle.std.specs.List.{find, starts_with}
use Rattle.std.specs.Str.{bytes_eq}
use Rattle.ae_text.specs.Token as text
use Rattle.ae_text.specs.Token.{IsGap}
use Rattle.ae_text.specs.Grammar.{line_of}
use Rattle.ae_text.specs.Scan.{after_one, gapless, skipped, token_at}
use Rattle.ae_text.proofs.Gaps.{gap_found, gap_skips}
use Rattle.ae_text.proofs.Tokens.{token_found, stands_reads}
use Rattle.ae_rlang.specs.declared.token.Mark.{Mark}
use Rattle.ae_rlang.specs.declared.token.Mark.TheVariants as mark_is
use Rattle.ae_rlang.specs.Token.{Token, mark, Lexeme, spelling, signs, sign_at, from_text, Stands, Begins}
use Rattle.ae_rlang.specs.Scan.{by_sign, report_token, next_lexeme, behind_lexeme, Leads}

abbrev Read : Type 0
Read = Token × List ℕ

no_gap_before : (m : Mark) (after : List ℕ) → after_one (spelling m ++ after) ≡ None
unfolding after_one
no_gap_before mark_is.Title after = refl
no_gap_before mark_is.Columns after = refl
no_gap_before mark_is.Right after = refl
no_gap_before mark_is.Total after = refl
no_gap_before mark_is.For after = refl
no_gap_before mark_is.In after = refl
no_gap_before mark_is.Where after = refl
no_gap_before mark_is.If after = refl
no_gap_before mark_is.Else after = refl
no_gap_before mark_is.Or after = refl
no_gap_before mark_is.And after = refl
no_gap_before mark_is.Not after = refl
no_gap_before mark_is.True after = refl
no_gap_before mark_is.False after = refl
no_gap_before mark_is.Time after = refl
no_gap_before mark_is.Equal after = refl
no_gap_before mark_is.Assign after = refl
no_gap_before mark_is.AtMost after = refl
no_gap_before mark_is.Less after = refl
no_gap_before mark_is.Unequal after = refl
no_gap_before mark_is.Semicolon after = refl
no_gap_before mark_is.Comma after = refl
no_gap_before mark_is.OpenList after = refl
no_gap_before mark_is.CloseList after = refl
no_gap_before mark_is.OpenBlock after = refl
no_gap_before mark_is.CloseBlock after = refl
no_gap_before mark_is.OpenGroup after = refl
no_gap_before mark_is.CloseGroup after = refl
no_gap_before mark_is.Dot after = refl
no_gap_before mark_is.Colon after = refl
no_gap_before mark_is.Plus after = refl
no_gap_before mark_is.Minus after = refl

-- what stands there is read
reads_stand : (s after : List ℕ) (t : Token) → Stands s after t → (report_token (s ++ after) ≡ (t, after)) × (after_one (s ++ after) ≡ None)
unfolding report_token
reads_stand s after t (inl (m, is, spells, token)) =
    let cut : drop (length (spelling m)) (spelling m ++ after) ≡ after = drop_at (spelling m) after (length (spelling m)) refl in (
      ap (by_sign (s ++ after)) is ∙ ap (λ (xs : List ℕ). (mark m, drop (length (spelling m)) (xs ++ after))) spells ∙ ap (λ (xs : List ℕ). (mark m, xs)) cut ∙ ap (λ (u : Token). (u, after)) (sym token),
      ap (λ (xs : List ℕ). after_one (xs ++ after)) spells ∙ no_gap_before m after,
    )
reads_stand s after t (inr (u, is, stands, token)) =
    let r = stands_reads s after u stands in
    (ap (by_sign (s ++ after)) is ∙ ap (λ (x : text.Token × List ℕ). (from_text x.0, x.1)) r.0 ∙ ap (λ (v : Token). (v, after)) (sym token), r.1)

-- ---- each token that is read stands there

find_holds : {X : Type 0} (test : X → Bool) (xs : List X) (x : X) → find test xs ≡ Some x → test x ≡ true
find_holds test [] x e = absurd cc
find_holds test (y ∷ ys) x e = by_test (test y) refl e (λ g. find_holds test ys x g) where
  by_test : (b : Bool) → test y ≡ b → cond b (Some y) (find test ys) ≡ Some x → (find test ys ≡ Some x → test x ≡ true) → test x ≡ true
  by_test true t e again = let same : y ≡ x = cc in ap test (sym same) ∙ t
  by_test false t e again = again e

same_bytes : (a b : List ℕ) → bytes_eq a b ≡ true → a ≡ b
same_bytes a b e = grind (arith, bytes_eq-Decides a b)

pub sign_spelled : (bytes : List ℕ) (m : Mark) → sign_at bytes ≡ Some m → bytes ≡ spelling m ++ drop (length (spelling m)) bytes
sign_spelled bytes m e =
    let front : spelling m ≡ take (length (spelling m)) bytes = same_bytes (spelling m) (take (length (spelling m)) bytes) (find_holds (λ (k : Mark). starts_with (λ a b. eqb a b) bytes (spelling k)) signs m e) in
    sym (take-append-drop (length (spelling m)) bytes) ∙ ap (λ (xs : List ℕ). xs ++ drop (length (spelling m)) bytes) (sym front)

abbrev Found : List ℕ → Read → Type 0
Found bytes r = (s : List ℕ) × (bytes ≡ s ++ r.1) × Stands s r.1 r.0

stand_found : (bytes : List ℕ) → after_one bytes ≡ None → Found bytes (report_token bytes)
unfolding report_token
stand_found bytes stop = by_kind (sign_at bytes) refl where
  by_kind : (o : Option Mark) → sign_at bytes ≡ o → Found bytes (by_sign bytes o)
  by_kind (Some m) e =
      let cut = sign_spelled bytes m e in
      (spelling m, cut, inl (m, ap sign_at (sym cut) ∙ e, refl, refl))
  by_kind None e =
      let t = token_found bytes stop in
      (t.0, t.1, inr ((token_at bytes).0, ap sign_at (sym t.1) ∙ e, t.2, refl))

-- ---- the tokens of the whole

pub leads_begins : (bytes : List ℕ) (from : ℕ) (rest : List ℕ) (ps : List Lexeme) (after : List ℕ) → from + length rest ≡ length bytes → Leads bytes rest ps after → Begins bytes from rest ps
leads_begins bytes from rest [] after len h = tt
leads_begins bytes from rest (p ∷ ps) after len h =
    let g = gap_found (length rest) rest (omega arith) in
    let f = stand_found (gapless rest) g.3 in
    let whole : length rest ≡ length g.0 + length (gapless rest) = ap length g.1 ∙ length-append g.0 (gapless rest) in
    let at : length bytes - length (gapless rest) ≡ from + length g.0 = omega (arith, len, whole) in
    let split : length (gapless rest) ≡ length f.0 + length (behind_lexeme rest) = ap length f.1 ∙ length-append f.0 (behind_lexeme rest) in (
      g.0,
      f.0,
      behind_lexeme rest,
      g.1 ∙ ap (λ (xs : List ℕ). g.0 ++ xs) f.1,
      g.2,
      ap (λ (q : Lexeme). q.line) h.0 ∙ ap (line_of bytes) at,
      subst (λ (q : Lexeme). Stands f.0 (behind_lexeme rest) q.token) (sym h.0) f.2,
      leads_begins bytes (from + length g.0 + length f.0) (behind_lexeme rest) ps after (omega (arith, len, whole, split)) h.1,
    )

pub begins_leads : (bytes : List ℕ) (from : ℕ) (rest : List ℕ) (ps : List Lexeme) → from + length rest ≡ length bytes → Begins bytes from rest ps → (after : List ℕ) × Leads bytes rest ps after
begins_leads bytes from rest [] len h = (rest, refl)
begins_leads bytes from rest (p ∷ ps) len (gap, s, after, e, g, line, here, others) =
    let r = reads_stand s after p.token here in
    let bare : gapless rest ≡ s ++ after = ap (λ (xs : List ℕ). skipped (length xs) xs) e ∙ gap_skips g (s ++ after) (length (gap ++ (s ++ after))) r.1 (omega arith) in
    let read : report_token (gapless rest) ≡ (p.token, after) = ap report_token bare ∙ r.0 in
    let parts : length rest ≡ length gap + (length s + length after) = ap length e ∙ length-append gap (s ++ after) ∙ ap (λ (n : ℕ). length gap + n) (length-append s after) in
    let place : length bytes - length (gapless rest) ≡ from + length gap = omega (arith, ap length bare, length-append s after, parts, len) in
    let is : p ≡ next_lexeme bytes rest = rw (ap (line_of bytes) place ∙ sym line, ap (λ (x : Read). x.0) read) refl in
    let then : behind_lexeme rest ≡ after = ap (λ (x : Read). x.1) read in
    let o = begins_leads bytes (from + length gap + length s) after ps (omega (arith, parts, len)) others in
    (o.0, (is, subst (λ (xs : List ℕ). Leads bytes xs ps o.0) (sym then) o.1))

-- one token more
pub leads_more : (bytes rest : List ℕ) (front : List Lexeme) (after : List ℕ) → Leads bytes rest front after → Leads bytes rest (front ++ next_lexeme bytes after ∷ []) (behind_lexeme after)
leads_more bytes rest [] after e = (ap (next_lexeme bytes) (sym e), ap behind_lexeme e)
leads_more bytes rest (p ∷ ps) after h = (h.0, leads_more bytes (behind_lexeme rest) ps after h.1)

-- of two fronts of the tokens one begins the other
pub leads_prefix : (bytes rest : List ℕ) (xs ys : List Lexeme) (r q : List ℕ) → Leads bytes rest xs r → Leads bytes rest ys q → ((more : List Lexeme) × (ys ≡ xs ++ more)) ⊎ ((more : List Lexeme) × (xs ≡ ys ++ more))
leads_prefix bytes rest [] ys r q h g = inl (ys, refl)
leads_prefix bytes rest (x ∷ xs) [] r q h g = inr (x ∷ xs, refl)
leads_prefix bytes rest (x ∷ xs) (y ∷ ys) r q h g =
    let same : y ≡ x = g.0 ∙ sym h.0 in
    elim (leads_prefix bytes (behind_lexeme rest) xs ys r q h.1 g.1) [
      | inl m ↦ inl (m.0, rw same (ap (λ (zs : List Lexeme). x ∷ zs) m.1))
      | inr m ↦ inr (m.0, rw same (ap (λ (zs : List Lexeme). x ∷ zs) m.1))
    ]

-- the front of what leads somewhere
pub leads_front : (bytes rest : List ℕ) (front more : List Lexeme) (after : List ℕ) → Leads bytes rest (front ++ more) after → (between : List ℕ) × Leads bytes rest front between
leads_front bytes rest [] more after h = (rest, refl)
leads_front bytes rest (p ∷ ps) more after h = let o = leads_front bytes (behind_lexeme rest) ps more after h.1 in (o.0, (h.0, o.1))
