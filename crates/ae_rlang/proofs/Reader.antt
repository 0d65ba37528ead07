-- The loops of the reader, a step at a time.
use Rattle.std.proofs.Common.{◌≡◌, inl, inr, ◌∙◌, ℕ, zero, suc, if◌then◌else◌, slice_index_or, ◌+◌, ◌≤◌, ◌<◌, length, take, drop, arith, Bool, true, false, not, List, [], ◌∷◌, ◌++◌, Some, None, Result, Ok, Err, IfOk, refl, sym, ap, subst, append_assoc}
use Rattle.std.proofs.lemmas.List.{length-append, append-nil}
use Rattle.std.proofs.lemmas.Grind.{common_steps}
use Rattle.ae_text.specs.Token as text
use Rattle.ae_text.specs.Scan.{is_moving}
use Rattle.ae_text.specs.Grammar.{line_ends}
use Rattle.ae_rlang.specs.declared.token.Mark.{Mark}
use Rattle.ae_rlang.specs.declared.token.Mark.TheVariants as mark_is
use Rattle.ae_rlang.specs.Token.{Token, name, number, string, mark, end, bad, Lexeme, spelling, sign_at, from_text}
use Rattle.ae_rlang.specs.Scope.{total_named, is_total, totals_in}
use Rattle.ae_rlang.specs.declared.token.Lexeme.{Lexeme as Found}
use Rattle.ae_rlang.specs.declared.read.ReadReportError.TheVariants.{Bad, Memory}
use Rattle.ae_rlang.specs.declared.read.ReadReportError.{ReadReportError}
use Rattle.ae_rlang.specs.declared.report.Report.{Report}
use Rattle.ae_rlang.specs.View.{deeds}
use Rattle.ae_rlang.specs.Answering.{StopsAt, IsRead, IsRefusedWith}
use Rattle.ae_rlang.specs.Steps.{lexeme_of, lexemes_seen, token_of}
use Rattle.ae_rlang.specs.Scan.{Leads, AllGo, AreScanned, is_last, next_lexeme, behind_lexeme}
use Rattle.ae_rlang.specs.Scanned.{GoesWhile, IsScanning, IsTaking}
use Rattle.ae_rlang.specs.Machine.{State, start, step, run}
use Rattle.ae_rlang.proofs.Scanning.{sign_spelled, leads_more}
use Rattle.ae_rlang.proofs.Whole.{run_one}
use Rattle.ae_rlang.proofs.Refused.{one_report, never_both, one_line}
use Rattle.ae_rlang.proofs.Found.{report_found, bad_found, wrong_found}
use Rattle.ae_rlang.specs.Report.{Deeds, deeds_of}
use Rattle.ae_rlang.specs.Reads.{IsReport, IsWrong, IsRefused}

-- ---- tokens

some_length : (m : Mark) → 1 ≤ length (spelling m)
some_length mark_is.Title = omega arith
some_length mark_is.Columns = omega arith
some_length mark_is.Right = omega arith
some_length mark_is.Total = omega arith
some_length mark_is.For = omega arith
some_length mark_is.In = omega arith
some_length mark_is.Where = omega arith
some_length mark_is.If = omega arith
some_length mark_is.Else = omega arith
some_length mark_is.Or = omega arith
some_length mark_is.And = omega arith
some_length mark_is.Not = omega arith
some_length mark_is.True = omega arith
some_length mark_is.False = omega arith
some_length mark_is.Time = omega arith
some_length mark_is.Equal = omega arith
some_length mark_is.Assign = omega arith
some_length mark_is.AtMost = omega arith
some_length mark_is.Less = omega arith
some_length mark_is.Unequal = omega arith
some_length mark_is.Semicolon = omega arith
some_length mark_is.Comma = omega arith
some_length mark_is.OpenList = omega arith
some_length mark_is.CloseList = omega arith
some_length mark_is.OpenBlock = omega arith
some_length mark_is.CloseBlock = omega arith
some_length mark_is.OpenGroup = omega arith
some_length mark_is.CloseGroup = omega arith
some_length mark_is.Dot = omega arith
some_length mark_is.Colon = omega arith
some_length mark_is.Plus = omega arith
some_length mark_is.Minus = omega arith

-- behind a sign less is left
pub sign_shorter : (bytes : List ℕ) (m : Mark) → sign_at bytes ≡ Some m → length (drop (length (spelling m)) bytes) < length bytes
sign_shorter bytes m e =
    let all : length bytes ≡ length (spelling m) + length (drop (length (spelling m)) bytes) = ap length (sign_spelled bytes m e) ∙ length-append (spelling m) (drop (length (spelling m)) bytes) in
    omega (arith, all, some_length m)

-- what isn't the last token of a report isn't that of a text
pub going_moves : (t : text.Token) → is_last (from_text t) ≡ false → is_moving t ≡ true
going_moves (text.word w) e = refl
going_moves (text.number n) e = refl
going_moves (text.string s) e = refl
going_moves (text.sign b) e = absurd cc
going_moves text.end e = absurd cc
going_moves text.bad e = absurd cc

-- ---- the scanner's loop

all_go_more : (ps : List Lexeme) (q : Lexeme) → AllGo ps → is_last q.token ≡ false → AllGo (ps ++ q ∷ [])
all_go_more [] q go e = (e, tt)
all_go_more (p ∷ ps) q go e = (go.0, all_go_more ps q go.1 e)

goes_more : (ps : List Lexeme) (q : Lexeme) (b : Bool) → AllGo ps → is_last q.token ≡ b → GoesWhile (not b) (ps ++ q ∷ [])
goes_more ps q true go e = (ps, q, refl, go, e)
goes_more ps q false go e = all_go_more ps q go e

pub scanning_none : (bytes : List ℕ) → IsScanning bytes [] bytes 0 0 true
scanning_none bytes = record { leads = refl; counted = refl; within = omega arith; goes = tt }

pub scanning_more : (bytes : List ℕ) (ps : List Lexeme) (rest : List ℕ) (from ends : ℕ) (q : Lexeme) (after : List ℕ) (at counted : ℕ) → IsScanning bytes ps rest from ends true
    → q ≡ next_lexeme bytes rest → after ≡ behind_lexeme rest → counted ≡ line_ends (take at bytes) → length after ≤ length rest
    → IsScanning bytes (ps ++ q ∷ []) after at counted (not (is_last q.token))
scanning_more bytes ps rest from ends q after at counted h is behind lines within = record {
  leads = subst (λ (xs : List ℕ). Leads bytes bytes (ps ++ q ∷ []) xs) (sym behind) (subst (λ (x : Lexeme). Leads bytes bytes (ps ++ x ∷ []) (behind_lexeme rest)) (sym is) (leads_more bytes bytes ps rest h.leads));
  counted = lines;
  within = omega (arith, within, h.within);
  goes = goes_more ps q (is_last q.token) h.goes refl;
}

pub scanned_all : (bytes : List ℕ) (ps : List Lexeme) (rest : List ℕ) (from ends : ℕ) (more : Bool) → more ≡ false → IsScanning bytes ps rest from ends more → AreScanned bytes ps
scanned_all bytes ps rest from ends true e h = absurd cc
scanned_all bytes ps rest from ends false e h = record { front = h.goes.0; last = h.goes.1; after = rest; are = h.goes.2; leads = h.leads; go = h.goes.3; ends = h.goes.4 }

-- less is left, or nothing more is looked for
pub measure_falls : (n m : ℕ) (last more : Bool) → more ≡ true → n ≤ m → (last ≡ false → n < m) → n + (if not last then 1 else 0) < m + (if more then 1 else 0)
measure_falls n m last false e within shorter = absurd cc
measure_falls n m true true e within shorter = omega (arith, within)
measure_falls n m false true e within shorter = omega (arith, shorter refl)

seen_more : (xs : List Found) (x : Found) → lexemes_seen (xs ++ x ∷ []) ≡ lexemes_seen xs ++ lexeme_of x ∷ []
seen_more [] x = refl
seen_more (y ∷ ys) x = ap (λ (qs : List Lexeme). lexeme_of y ∷ qs) (seen_more ys x)

pub scanning_pushed : (bytes : List ℕ) (found : List Found) (rest : List ℕ) (from ends : ℕ) (more : Bool) (x : Found) (after : List ℕ) (at counted : ℕ) (pushed : List Found) (last : Bool)
    → IsScanning bytes (lexemes_seen found) rest from ends more → more ≡ true
    → lexeme_of x ≡ next_lexeme bytes rest → after ≡ behind_lexeme rest → counted ≡ line_ends (take at bytes) → length after ≤ length rest
    → pushed ≡ found ++ x ∷ [] → last ≡ is_last (token_of x.token)
    → IsScanning bytes (lexemes_seen pushed) after at counted (not last)
scanning_pushed bytes found rest from ends more x after at counted pushed last h going is behind lines within all ended =
    let so = subst (λ (b : Bool). IsScanning bytes (lexemes_seen found) rest from ends b) going h in
    let one = scanning_more bytes (lexemes_seen found) rest from ends (lexeme_of x) after at counted so is behind lines within in
    let same : lexemes_seen found ++ lexeme_of x ∷ [] ≡ lexemes_seen pushed = sym (seen_more found x) ∙ ap lexemes_seen (sym all) in
    subst (λ (b : Bool). IsScanning bytes (lexemes_seen pushed) after at counted (not b)) (sym ended)
    (subst (λ (qs : List Lexeme). IsScanning bytes qs after at counted (not (is_last (token_of x.token)))) same one)

-- ---- the loop over the tokens for the totals

named_first : (behind : Bool) (t : Token) (others : List (List ℕ)) → total_named behind t others ≡ total_named behind t [] ++ others
named_first true (name w) others = refl
named_first true (number n) others = refl
named_first true (string s) others = refl
named_first true (mark m) others = refl
named_first true end others = refl
named_first true bad others = refl
named_first false t others = refl

pub totals_more : (ts : List (List ℕ)) (behind : Bool) (p : Lexeme) (ps : List Lexeme) → ts ++ totals_in behind (p ∷ ps) ≡ (ts ++ total_named behind p.token []) ++ totals_in (is_total p.token) ps
totals_more ts behind p ps =
    ap (λ (xs : List (List ℕ)). ts ++ xs) (named_first behind p.token (totals_in (is_total p.token) ps))
    ∙ sym (append_assoc ts (total_named behind p.token []) (totals_in (is_total p.token) ps))

-- the token at a place, and those behind it
seen_at : (xs : List Found) (i : ℕ) (x : Found) → i < length xs → x ≡ slice_index_or xs i x → drop i xs ≡ x ∷ drop (suc i) xs
seen_at [] i x less is = absurd (omega (arith, less))
seen_at (y ∷ ys) zero x less is = ap (λ (z : Found). z ∷ ys) (sym is)
seen_at (y ∷ ys) (suc i) x less is = seen_at ys i x (omega (arith, less)) is

pub totals_pushed : (all : List Found) (ts : List (List ℕ)) (behind : Bool) (i : ℕ) (x : Found) (pushed : List (List ℕ)) (next : Bool)
    → totals_in false (lexemes_seen all) ≡ ts ++ totals_in behind (lexemes_seen (drop i all)) → i < length all → x ≡ slice_index_or all i x
    → pushed ≡ ts ++ total_named behind (token_of x.token) [] → next ≡ is_total (token_of x.token)
    → totals_in false (lexemes_seen all) ≡ pushed ++ totals_in next (lexemes_seen (drop (i + 1) all))
totals_pushed all ts behind i x pushed next h less is made said =
    let one : suc i ≡ i + 1 = omega arith in
    h ∙ ap (λ (xs : List Found). ts ++ totals_in behind (lexemes_seen xs)) (seen_at all i x less is)
    ∙ totals_more ts behind (lexeme_of x) (lexemes_seen (drop (suc i) all))
    ∙ ap (λ (us : List (List ℕ)). us ++ totals_in (is_total (token_of x.token)) (lexemes_seen (drop (suc i) all))) (sym made)
    ∙ ap (λ (b : Bool). pushed ++ totals_in b (lexemes_seen (drop (suc i) all))) (sym said)
    ∙ ap (λ (n : ℕ). pushed ++ totals_in next (lexemes_seen (drop n all))) one

pub totals_all : (all : List Found) (ts : List (List ℕ)) (behind : Bool) (i : ℕ) → totals_in false (lexemes_seen all) ≡ ts ++ totals_in behind (lexemes_seen (drop i all)) → length all ≤ i
    → ts ≡ totals_in false (lexemes_seen all)
totals_all all ts behind i h over =
    let none : drop i all ≡ [] = grind (arith, common_steps) in
    sym (h ∙ ap (λ (xs : List Found). ts ++ totals_in behind (lexemes_seen xs)) none ∙ append-nil ts)

-- ---- the loop that takes the tokens

pub parsed_more : (totals : List (List ℕ)) (all rest rest' : List Found) (s t : State) (x : Found) → IsTaking totals all rest s → rest ≡ x ∷ rest' → step totals s (lexeme_of x) ≡ Some t → IsTaking totals all rest' t
parsed_more totals all rest rest' s t x h is e = record {
  front = h.front ++ lexeme_of x ∷ [];
  whole = h.whole ∙ ap (λ (xs : List Found). h.front ++ lexemes_seen xs) is ∙ sym (append_assoc h.front (lexeme_of x ∷ []) (lexemes_seen rest'));
  runs = run_one totals (Some start) h.front s (lexeme_of x) h.runs ∙ e;
}

pub parsed_all : (totals : List (List ℕ)) (all : List Found) (rest : List Found) (s : State) → IsTaking totals all rest s → rest ≡ [] → run totals (Some start) (lexemes_seen all) ≡ Some s
parsed_all totals all rest s h is =
    ap (run totals (Some start)) (h.whole ∙ ap (λ (xs : List Found). h.front ++ lexemes_seen xs) is ∙ append-nil h.front) ∙ h.runs

pub parsed_none : (totals : List (List ℕ)) (all : List Found) → IsTaking totals all all start
unfolding run
parsed_none totals all = record { front = []; whole = refl; runs = refl }

pub parsed_stops : (totals : List (List ℕ)) (all rest rest' : List Found) (s : State) (x : Found) (line : ℕ) → IsTaking totals all rest s → rest ≡ x ∷ rest' → step totals s (lexeme_of x) ≡ None → line ≡ x.line
    → StopsAt totals (lexemes_seen all) (Bad line)
parsed_stops totals all rest rest' s x line h is e at =
    (h.front, lexeme_of x, lexemes_seen rest', s, h.whole ∙ ap (λ (xs : List Found). h.front ++ lexemes_seen xs) is, h.runs, e, at)

-- ---- what was read

pub taken_report : (bytes : List ℕ) (ps : List Found) (totals : List (List ℕ)) (s : State) → AreScanned bytes (lexemes_seen ps) → totals ≡ totals_in false (lexemes_seen ps)
    → run totals (Some start) (lexemes_seen ps) ≡ Some s → s.around.body.bad ≡ None → IsReport bytes (deeds_of s.around.body.deeds)
taken_report bytes ps totals s scan same e free =
    report_found bytes (lexemes_seen ps) s scan (ap (λ (ts : List (List ℕ)). run ts (Some start) (lexemes_seen ps)) (sym same) ∙ e) free

pub taken_bad : (bytes : List ℕ) (ps : List Found) (totals : List (List ℕ)) (s : State) (line : ℕ) → AreScanned bytes (lexemes_seen ps) → totals ≡ totals_in false (lexemes_seen ps)
    → run totals (Some start) (lexemes_seen ps) ≡ Some s → s.around.body.bad ≡ Some line → IsRefused bytes line
taken_bad bytes ps totals s line scan same e is =
    inr (bad_found bytes (lexemes_seen ps) s line scan (ap (λ (ts : List (List ℕ)). run ts (Some start) (lexemes_seen ps)) (sym same) ∙ e) is)

pub stopped_wrong : (bytes : List ℕ) (ps : List Found) (totals : List (List ℕ)) (line : ℕ) → AreScanned bytes (lexemes_seen ps) → StopsAt totals (lexemes_seen ps) (Bad line) → IsRefused bytes line
stopped_wrong bytes ps totals line scan (front, p, more, s, are, e, stopped, at) =
    inl (subst (λ (n : ℕ). IsWrong bytes n) (sym at) (wrong_found totals bytes front p more s (subst (λ (qs : List Lexeme). AreScanned bytes qs) are scan) e stopped))

pub nothing_left : (xs : List Found) → length xs ≡ 0 → xs ≡ []
nothing_left [] e = refl
nothing_left (x ∷ xs) e = absurd (omega (arith, e))

-- where a token wasn't taken
pub stops_only : (bytes : List ℕ) (ps : List Found) (totals : List (List ℕ)) (e : ReadReportError) → AreScanned bytes (lexemes_seen ps) → StopsAt totals (lexemes_seen ps) e
    → (report : Deeds) → IsReport bytes report → IsRead report (Err e)
stops_only bytes ps totals (Bad line) scan stops report h = never_both bytes report line h (stopped_wrong bytes ps totals line scan stops)
stops_only bytes ps totals Memory scan stops report h = tt

pub stops_refused : (bytes : List ℕ) (ps : List Found) (totals : List (List ℕ)) (e : ReadReportError) → AreScanned bytes (lexemes_seen ps) → StopsAt totals (lexemes_seen ps) e
    → (line : ℕ) → e ≡ Bad line → IsRefused bytes line
stops_refused bytes ps totals (Bad other) scan stops line is =
    let same : other ≡ line = cc in subst (λ (n : ℕ). IsRefused bytes n) same (stopped_wrong bytes ps totals other scan stops)
stops_refused bytes ps totals Memory scan stops line is = absurd cc

pub stops_only_refused : (bytes : List ℕ) (ps : List Found) (totals : List (List ℕ)) (e : ReadReportError) → AreScanned bytes (lexemes_seen ps) → StopsAt totals (lexemes_seen ps) e
    → (line : ℕ) → IsRefused bytes line → IsRefusedWith line (Err e)
stops_only_refused bytes ps totals (Bad other) scan stops line h = one_line bytes line other h (stopped_wrong bytes ps totals other scan stops)
stops_only_refused bytes ps totals Memory scan stops line h = tt

-- what the reader answers once all tokens were taken
pub record IsAnswered (bytes : List ℕ) (r : Result Report ReadReportError) : Type 0 where
  pub good : IfOk r (λ (x : Report). IsReport bytes (deeds x.statements))
  pub bad : (line : ℕ) → r ≡ Err (Bad line) → IsRefused bytes line

pub answered : (bytes : List ℕ) (ps : List Found) (totals : List (List ℕ)) (s : State) (r : Result Report ReadReportError) → AreScanned bytes (lexemes_seen ps) → totals ≡ totals_in false (lexemes_seen ps)
    → run totals (Some start) (lexemes_seen ps) ≡ Some s → IfOk r (λ (x : Report). s.around.body.bad ≡ None) → IfOk r (λ (x : Report). deeds x.statements ≡ deeds_of s.around.body.deeds)
    → ((line : ℕ) → r ≡ Err (Bad line) → s.around.body.bad ≡ Some line) → IsAnswered bytes r
answered bytes ps totals s (Ok x) scan same e free said worse = record {
  good = subst (λ (d : Deeds). IsReport bytes d) (sym said) (taken_report bytes ps totals s scan same e free);
  bad = λ line is. taken_bad bytes ps totals s line scan same e (worse line is);
}
answered bytes ps totals s (Err x) scan same e free said worse = record {
  good = tt;
  bad = λ line is. taken_bad bytes ps totals s line scan same e (worse line is);
}

pub answered_only : (bytes : List ℕ) (r : Result Report ReadReportError) → IsAnswered bytes r → (report : Deeds) → IsReport bytes report → IsRead report r
answered_only bytes (Ok x) a report h = one_report bytes (deeds x.statements) report a.good h
answered_only bytes (Err (Bad line)) a report h = never_both bytes report line h (a.bad line refl)
answered_only bytes (Err Memory) a report h = tt

pub answered_only_refused : (bytes : List ℕ) (r : Result Report ReadReportError) → IsAnswered bytes r → (line : ℕ) → IsRefused bytes line → IsRefusedWith line r
answered_only_refused bytes (Ok x) a line h = never_both bytes (deeds x.statements) line a.good h
answered_only_refused bytes (Err (Bad other)) a line h = one_line bytes line other h (a.bad other refl)
answered_only_refused bytes (Err Memory) a line h = tt
