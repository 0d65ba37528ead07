-- All bytes are a report, or have a line that they are refused with; so there is always an answer.
use Rattle.std.proofs.Common.{◌≡◌, ◌⊎◌, ◌∙◌, inl, inr, refl, sym, ap, subst, ℕ, zero, suc, ◌+◌, ◌≤◌, ◌<◌, arith, Bool, true, false, not, length, List, [], ◌∷◌, ◌++◌, append_assoc, Option, Some, None, Result, Ok, Err}
use Rattle.std.proofs.lemmas.List.{length-append}
use Rattle.ae_base.specs.Limits.{most_attribute_bytes}
use Rattle.ae_base.specs.declared.refusal.Refusal.TheVariants.{BadReport, Limit, NoAttributes, NoProject, ReportNumber, WrongProject}
use Rattle.ae_base.specs.declared.words.Which.TheVariants.{AttributeBytes}
use Rattle.ae_outside.specs.declared.dir.Content.{Content}
use Rattle.ae_outside.specs.declared.dir.Content.TheVariants.{Absent, Bytes, TooLong}
use Rattle.ae_text.specs.Scan.{after_one, gapless, is_moving, token_at}
use Rattle.ae_text.specs.Token as text
use Rattle.ae_text.specs.WellFormed.{is_word}
use Rattle.ae_text.proofs.Gaps.{gap_found}
use Rattle.ae_text.proofs.Tokens.{token_found}
use Rattle.ae_types.specs.Observation.{Observation}
use Rattle.ae_rlang.specs.declared.token.Mark.{Mark}
use Rattle.ae_rlang.specs.Machine.{State, run, start, step}
use Rattle.ae_rlang.specs.Reads.{IsReport, IsRefused}
use Rattle.ae_rlang.specs.Report.{Deeds, deeds_of}
use Rattle.ae_rlang.specs.Scan.{AreScanned, behind_lexeme, by_sign, is_last, next_lexeme, report_token}
use Rattle.ae_rlang.specs.Scanned.{IsScanning}
use Rattle.ae_rlang.specs.Scope.{totals_in}
use Rattle.ae_rlang.specs.Token.{Lexeme, sign_at}
use Rattle.ae_rlang.proofs.Found.{bad_found, report_found, wrong_found}
use Rattle.ae_rlang.proofs.Reader.{going_moves, scanned_all, scanning_more, scanning_none, sign_shorter}
use Rattle.ae_rlang.proofs.Whole.{run_one}
use Rattle.ae_report.specs.Out.{out}
use Rattle.ae_reporting.specs.Laws.{BytesAreReportOrRefused, HasAnswer}
use Rattle.ae_reporting.specs.Reports.{Answer, Asked, Prints, Reports, bad, is_asked, no_file, no_project, of_bytes, of_no_bytes, other_project, out_of_range, printed, too_long}

-- ---- a token takes bytes, but the last one

-- after a token of a text that takes bytes less is left
after_token : (s after : List ℕ) (t : text.Token) → text.Stands s after t → is_moving t ≡ true → length after < length (s ++ after)
after_token (b ∷ s) after t stands moves = omega (arith, length-append s after)
after_token [] after (text.word w) stands moves = absurd (no_word w stands.0 stands.1)
  where
    no_word : (w : List ℕ) → [] ≡ w → is_word w ≡ true → ⊥
    no_word [] e h = cc
    no_word (b ∷ w) e h = cc
after_token [] after (text.number n) stands moves = absurd (stands.0.0 refl)
after_token [] after (text.string w) stands moves = absurd (let e : [] ≡ 34 ∷ (stands.0 ++ 34 ∷ []) = stands.1 in cc)
after_token [] after (text.sign b) stands moves = absurd (let e : [] ≡ b ∷ [] = stands.0 in cc)
after_token [] after text.end stands moves = absurd cc
after_token [] after text.bad stands moves = absurd cc

-- what is left after a token, where no blank or comment stands before it
record Leaves (bytes : List ℕ) (last : Bool) (rest : List ℕ) : Type 0 where
  pub within : length rest ≤ length bytes
  pub shorter : last ≡ false → length rest < length bytes

token_leaves : (bytes : List ℕ) → after_one bytes ≡ None → Leaves bytes (is_last (report_token bytes).0) (report_token bytes).1
unfolding report_token
token_leaves bytes stop = by_kind (sign_at bytes) refl
  where
    by_kind : (o : Option Mark) → sign_at bytes ≡ o → Leaves bytes (is_last (by_sign bytes o).0) (by_sign bytes o).1
    by_kind (Some m) e = let less = sign_shorter bytes m e in record { within = omega (arith, less); shorter = λ going. less }
    by_kind None e =
        let f = token_found bytes stop in
        let parts : length bytes ≡ length f.0 + length (token_at bytes).1 = ap length f.1 ∙ length-append f.0 (token_at bytes).1 in record {
          within = omega (arith, parts);
          shorter = λ going. let less = after_token f.0 (token_at bytes).1 (token_at bytes).0 f.2 (going_moves (token_at bytes).0 going) in omega (arith, less, ap length f.1);
        }

lexeme_leaves : (bytes rest : List ℕ) → Leaves rest (is_last (next_lexeme bytes rest).token) (behind_lexeme rest)
lexeme_leaves bytes rest =
    let g = gap_found (length rest) rest (omega arith) in
    let whole : length rest ≡ length g.0 + length (gapless rest) = ap length g.1 ∙ length-append g.0 (gapless rest) in
    let left = token_leaves (gapless rest) g.3 in record {
      within = omega (arith, whole, left.within);
      shorter = λ going. let less = left.shorter going in omega (arith, whole, less);
    }

-- ---- so all bytes have tokens

abbrev Scanned : List ℕ → Type 0
Scanned bytes = (ps : List Lexeme) × AreScanned bytes ps

scan_next : (bytes : List ℕ) (ps : List Lexeme) (rest : List ℕ) → IsScanning bytes ps rest 0 0 true → (last : Bool) → is_last (next_lexeme bytes rest).token ≡ last
    → (last ≡ false → IsScanning bytes (ps ++ next_lexeme bytes rest ∷ []) (behind_lexeme rest) 0 0 true → Scanned bytes) → Scanned bytes
scan_next bytes ps rest scanning last is again =
    by_last last refl (subst (λ (b : Bool). IsScanning bytes (ps ++ next_lexeme bytes rest ∷ []) (behind_lexeme rest) 0 0 (not b)) is
    (scanning_more bytes ps rest 0 0 (next_lexeme bytes rest) (behind_lexeme rest) 0 0 scanning refl refl refl (lexeme_leaves bytes rest).within))
  where
    by_last : (b : Bool) → last ≡ b → IsScanning bytes (ps ++ next_lexeme bytes rest ∷ []) (behind_lexeme rest) 0 0 (not last) → Scanned bytes
    by_last true e more = (ps ++ next_lexeme bytes rest ∷ [], scanned_all bytes (ps ++ next_lexeme bytes rest ∷ []) (behind_lexeme rest) 0 0 (not last) (ap not e) more)
    by_last false e more = again e (subst (λ (b : Bool). IsScanning bytes (ps ++ next_lexeme bytes rest ∷ []) (behind_lexeme rest) 0 0 (not b)) e more)

scan_on : (n : ℕ) (bytes : List ℕ) (ps : List Lexeme) (rest : List ℕ) → length rest < n → IsScanning bytes ps rest 0 0 true → Scanned bytes
scan_on zero bytes ps rest less scanning = absurd (omega (arith, less))
scan_on (suc n) bytes ps rest less scanning =
    scan_next bytes ps rest scanning (is_last (next_lexeme bytes rest).token) refl
    (λ going more. let falls = (lexeme_leaves bytes rest).shorter going in scan_on n bytes (ps ++ next_lexeme bytes rest ∷ []) (behind_lexeme rest) (omega (arith, less, falls)) more)

scanned : (bytes : List ℕ) → Scanned bytes
scanned bytes = scan_on (suc (length bytes)) bytes [] bytes (omega arith) (scanning_none bytes)

-- ---- which are taken, or one isn't

abbrev HasLine : List ℕ → Type 0
HasLine bytes = (line : ℕ) × IsRefused bytes line

module _ (totals : List (List ℕ)) (bytes : List ℕ) where
  by_step : (front : List Lexeme) (p : Lexeme) (more : List Lexeme) (s : State) → AreScanned bytes (front ++ p ∷ more) → run totals (Some start) front ≡ Some s
      → ((t : State) → step totals s p ≡ Some t → run totals (Some t) more ≡ None → HasLine bytes) → (o : Option State) → step totals s p ≡ o → run totals o more ≡ None → HasLine bytes
  by_step front p more s scan e again (Some t) is none = again t is none
  by_step front p more s scan e again None is none = (p.line, inl (wrong_found totals bytes front p more s scan e is))

  stops : (front more : List Lexeme) (s : State) → AreScanned bytes (front ++ more) → run totals (Some start) front ≡ Some s → run totals (Some s) more ≡ None → HasLine bytes
  unfolding run
  stops front [] s scan e none = absurd cc
  stops front (p ∷ more) s scan e none =
      by_step front p more s scan e
      (λ t is rest. stops (front ++ p ∷ []) more t (subst (λ (ps : List Lexeme). AreScanned bytes ps) (sym (append_assoc front (p ∷ []) more)) scan) (run_one totals (Some start) front s p e ∙ is) rest)
      (step totals s p) refl none

  starts : run totals (Some start) [] ≡ Some start
  unfolding run
  starts = refl

abbrev ReportOrLine : List ℕ → Type 0
ReportOrLine bytes = ((report : Deeds) × IsReport bytes report) ⊎ HasLine bytes

module _ (bytes : List ℕ) (ps : List Lexeme) (scan : AreScanned bytes ps) where
  by_bad : (s : State) → run (totals_in false ps) (Some start) ps ≡ Some s → (o : Option ℕ) → s.around.body.bad ≡ o → ReportOrLine bytes
  by_bad s e None free = inl (deeds_of s.around.body.deeds, report_found bytes ps s scan e free)
  by_bad s e (Some line) is = inr (line, inr (bad_found bytes ps s line scan e is))

  by_run : (o : Option State) → run (totals_in false ps) (Some start) ps ≡ o → ReportOrLine bytes
  by_run (Some s) e = by_bad s e s.around.body.bad refl
  by_run None e = inr (stops (totals_in false ps) bytes [] ps start scan (starts (totals_in false ps) bytes) e)

pub every_report : BytesAreReportOrRefused
every_report bytes = let all = scanned bytes in by_run bytes all.0 all.1 (run (totals_in false all.0) (Some start) all.0) refl

-- ---- there is an answer

has_lines : (o : Observation) (bytes : List ℕ) (report : Deeds) → IsReport bytes report → (result : Result (List ℕ) ℕ) → out report o ≡ result → (answer : Answer) × Prints o bytes answer
has_lines o bytes report is (Ok lines) e = (Ok lines, printed report lines is e)
has_lines o bytes report is (Err line) e = (Err (ReportNumber line), out_of_range report line is e)

has_prints : (o : Observation) (bytes : List ℕ) → (answer : Answer) × Prints o bytes answer
has_prints o bytes = elim (every_report bytes) [
  | inl found ↦ has_lines o bytes found.0 found.1 (out found.0 o) refl
  | inr wrong ↦ (Err (BadReport wrong.0), bad wrong.0 wrong.1)
]

of_content : (o : Observation) (asked : Asked) → is_asked asked o ≡ true → (content : Content) → (answer : Answer) × Reports (Some o) asked content answer
of_content o asked is Absent = (Err (NoAttributes asked.path), of_no_bytes o (NoAttributes asked.path) (record { stands_so = refl; is_asked_for = is }) (no_file refl))
of_content o asked is TooLong = (Err (Limit AttributeBytes most_attribute_bytes), of_no_bytes o (Limit AttributeBytes most_attribute_bytes) (record { stands_so = refl; is_asked_for = is }) (too_long refl))
of_content o asked is (Bytes bytes) =
    let p = has_prints o bytes in
    (p.0, of_bytes o bytes p.0 (record { stands_so = refl; is_asked_for = is }) refl p.1)

by_name : (o : Observation) (asked : Asked) (content : Content) → (b : Bool) → is_asked asked o ≡ b → (answer : Answer) × Reports (Some o) asked content answer
by_name o asked content true is = of_content o asked is content
by_name o asked content false is = (Err WrongProject, other_project o refl is)

pub has_answer : HasAnswer
has_answer None asked content = (Err NoProject, no_project refl)
has_answer (Some o) asked content = by_name o asked content (is_asked asked o) refl
