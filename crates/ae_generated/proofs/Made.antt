-- Lines that are made well, and texts of them.
use Rattle.std.specs.Prelude.{◌≡◌, ◌≢◌, ◌≤◌, ◌<◌, ◌+◌, ◌*◌, ◌-◌, ◌==◌, ℕ, Bool, true, false, List, [], ◌∷◌, ◌++◌, length, take, if◌then◌else◌, All, Contains}
use Rattle.std.specs.List.{list_all, concat}
use Rattle.std.proofs.Common.{refl, sym, ap, subst, ◌∙◌, arith, append_assoc, length-append, get_or}
use Rattle.std.proofs.Math.Seq.{take-append_seam}
use Rattle.std.proofs.lemmas.Bool.{and_parts, eqb-true}
use Rattle.std.proofs.lemmas.List.{get_or_push}
use Rattle.std.proofs.lemmas.List.Elements.{All-cons, All-contains}
use Rattle.std.proofs.lemmas.List.Folds.{list_all_at}
use Rattle.ae_lines.specs.Line.{IsLine, Means, Said, says, asks, wrong, said}
use Rattle.ae_lines.specs.Tokens.{is_plain}
use Rattle.ae_lines.specs.declared.line.Line.{Line}
use Rattle.ae_lines.specs.declared.line.Line.TheVariants.{Do}
use Rattle.ae_reader.specs.Cut.{lines_of, ends_with, without_last, without_return, content_of, most_bytes, most_in_line}
use Rattle.ae_reader.proofs.CutLemmas.{NoEnd, lines_first}
use Rattle.ae_words.proofs.FirstBad.{one_command}
use Rattle.ae_words.specs.declared.command.Command.{Command}
use Rattle.ae_words.specs.declared.table.Function.TheVariants as function
use Rattle.ae_lines.specs.Script.{AreLines, IsScript}

-- a line of the generator: plain bytes and a line end, not many, that say something which is no test
pub record IsMade (line : List ℕ) : Type 0 where
  pub content : List ℕ
  pub ended : line ≡ content ++ 10 ∷ []
  pub plain : list_all is_plain content ≡ true
  pub short : length content < 2000
  pub line_says : Line
  pub means : IsLine content line_says
  pub no_test : (command : Command) → line_says ≡ Do command → command.function ≢ function.Test

-- all lines are
pub data AreMade : List (List ℕ) → Type 0 where
  no_lines : AreMade []
  one_more : {line : List ℕ} {lines : List (List ℕ)} → IsMade line → AreMade lines → AreMade (line ∷ lines)

pub made_append : {lines others : List (List ℕ)} → AreMade lines → AreMade others → AreMade (lines ++ others)
made_append no_lines others = others
made_append (one_more made all) others = one_more made (made_append all others)

each_made : (lines : List (List ℕ)) → AreMade lines → All IsMade lines
each_made [] no_lines = λ k d lt. absurd (omega arith)
each_made (line ∷ lines) (one_more made all) = All-cons IsMade line lines made (each_made lines all)

-- ---- its content

not_plain : (b k : ℕ) → is_plain k ≡ false → is_plain b ≡ true → (b == k) ≡ false
not_plain b k none is = at (b == k) refl
  where
    at : (x : Bool) → (b == k) ≡ x → (b == k) ≡ false
    at true same = absurd (let plain : is_plain k ≡ true = subst (λ (c : ℕ). is_plain c ≡ true) (eqb-true b k same) is in cc)
    at false other = other

no_end : (text : List ℕ) → list_all is_plain text ≡ true → NoEnd text
no_end [] all = tt
no_end (b ∷ bs) all =
    let parts = and_parts (is_plain b) (list_all is_plain bs) all in
    (not_plain b 10 refl parts.0, no_end bs parts.1)

no_return : (text : List ℕ) → list_all is_plain text ≡ true → ends_with 13 text ≡ false
no_return [] all = refl
no_return (b ∷ bs) all = at (get_or (b ∷ bs) (length (b ∷ bs) - 1) 0 == 13) refl
  where
    at : (x : Bool) → (get_or (b ∷ bs) (length (b ∷ bs) - 1) 0 == 13) ≡ x → x ≡ false
    at true same =
        let last : is_plain (get_or (b ∷ bs) (length (b ∷ bs) - 1) 0) ≡ false = ap is_plain (eqb-true _ 13 same) in
        let none : list_all is_plain (b ∷ bs) ≡ false = list_all_at is_plain (b ∷ bs) (length (b ∷ bs) - 1) 0 (omega arith) last in
        absurd (cc (none, all))
    at false other = refl

content_is : (text : List ℕ) → list_all is_plain text ≡ true → content_of (text ++ 10 ∷ []) ≡ text
content_is text all =
    let line : List ℕ = text ++ 10 ∷ [] in
    let before_end : length line - 1 ≡ length text = omega (arith, length-append text (10 ∷ [])) in
    let at_end : get_or line (length line - 1) 0 ≡ 10 = get_or_push text 10 0 (length line - 1) (sym before_end) in
    let front : without_last line ≡ text = ap (λ (m : ℕ). take m line) before_end ∙ take-append_seam text (10 ∷ []) in
    ap (λ (b : ℕ). if b == 10 then without_return (without_last line) else line) at_end
    ∙ ap without_return front
    ∙ ap (λ (b : Bool). if b then without_last text else text) (no_return text all)

made_content : (line : List ℕ) (made : IsMade line) → content_of line ≡ made.content
made_content line made = ap content_of made.ended ∙ content_is made.content made.plain

made_length : (line : List ℕ) (made : IsMade line) → length line ≤ 2000
made_length line made =
    let ended : length line ≡ length (made.content ++ 10 ∷ []) = ap (λ (l : List ℕ). length l) made.ended in
    let short : length made.content < 2000 = made.short in
    omega (arith, length-append made.content (10 ∷ []))

-- ---- a text of such lines

lines_made : (lines : List (List ℕ)) → AreMade lines → lines_of (concat lines) ≡ lines
lines_made [] no_lines = refl
lines_made (line ∷ lines) (one_more made all) =
    ap (λ (l : List ℕ). lines_of (l ++ concat lines)) made.ended
    ∙ ap lines_of (append_assoc made.content (10 ∷ []) (concat lines))
    ∙ lines_first made.content (concat lines) 10 (no_end made.content made.plain) refl
    ∙ ap (λ (l : List ℕ). l ∷ lines_of (concat lines)) (sym made.ended)
    ∙ ap (λ (ls : List (List ℕ)). line ∷ ls) (lines_made lines all)

lines_good : (at : ℕ) (lines : List (List ℕ)) → AreMade lines → at + 2000 * length lines ≤ most_bytes → (told : List Line) × AreLines at lines told
lines_good at [] no_lines fits = ([], tt)
lines_good at (line ∷ lines) (one_more made all) fits =
    let size : length line ≤ 2000 = made_length line made in
    let content : content_of line ≡ made.content = made_content line made in
    let short : length (content_of line) ≤ most_in_line = (let is : length (content_of line) ≡ length made.content = ap (λ (l : List ℕ). length l) content in let few : length made.content < 2000 = made.short in omega arith) in
    let rest = lines_good (at + length line) lines all (omega arith) in (
      made.line_says ∷ rest.0,
      (
        record { within = record { in_script = omega arith; in_line = short }; said = subst (λ (l : List ℕ). IsLine l made.line_says) (sym content) made.means },
        rest.1,
      ),
    )

pub made_script : (lines : List (List ℕ)) → AreMade lines → 2000 * length lines ≤ most_bytes → IsScript (concat lines)
made_script lines all fits =
    let good = lines_good 0 lines all (omega arith) in
    (good.0, subst (λ (ls : List (List ℕ)). AreLines 0 ls good.0) (sym (lines_made lines all)) good.1)

-- a line says one thing
one_meaning : (s : Said) (a b : Line) → Means s a → Means s b → a ≡ b
one_meaning (says other) a b first second = first ∙ sym second
one_meaning (asks words) a b first second = first.1 ∙ ap Do (one_command words first.0 second.0 first.2.is second.2.is) ∙ sym second.1
one_meaning wrong a b first second = absurd first

pub made_no_test : (lines : List (List ℕ)) → AreMade lines → (line : List ℕ) (command : Command) → Contains (lines_of (concat lines)) line → IsLine (content_of line) (Do command) → command.function ≢ function.Test
made_no_test lines all line command there is =
    let made = All-contains IsMade lines line (each_made lines all) (subst (λ (ls : List (List ℕ)). Contains ls line) (lines_made lines all) there) in
    let same : IsLine made.content (Do command) = subst (λ (l : List ℕ). IsLine l (Do command)) (made_content line made) is in
    made.no_test command (one_meaning (said made.content) made.line_says (Do command) made.means same)
