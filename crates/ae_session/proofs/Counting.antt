-- The builds of a script, counted line by line.
use Rattle.std.specs.Prelude.{◌++◌}
use Rattle.std.proofs.Common.{◌≡◌, ◌+◌, ◌∙◌, ℕ, List, [], ◌∷◌, append-nil, refl, sym, ap, subst, arith}
use Rattle.ae_reader.specs.Cut.{lines_of}
use Rattle.ae_lines.specs.Line.{IsLine, Means, Said, says, asks, wrong, said}
use Rattle.ae_reader.specs.Reader.{IsNext}
use Rattle.ae_lines.specs.declared.line.Line.{Line}
use Rattle.ae_lines.specs.declared.line.Line.TheVariants.{Do}
use Rattle.ae_words.specs.declared.command.Command.{Command}
use Rattle.ae_words.proofs.FirstBad.{one_command}
use Rattle.ae_lines.specs.Script.{IsBad, AreLines}
use Rattle.ae_script.specs.Ends.{HasRead}
use Rattle.ae_session.specs.Summary.{HasBuilds, IsCounted, builds, builds_in}

-- a text says one line
means_once : (s : Said) (a b : Line) → Means s a → Means s b → a ≡ b
means_once (says line) a b is_a is_b = is_a ∙ sym is_b
means_once (asks words) a b is_a is_b = is_a.1 ∙ ap (λ (c : Command). Do c) (one_command words is_a.0 is_b.0 is_a.2.is is_b.2.is) ∙ sym is_b.1
means_once wrong a b is_a is_b = absurd is_a

-- so many builds were counted, and the rest has the others
abbrev pub Counted : (script : List ℕ) → (at count : ℕ) → (rest : List ℕ) → Type 0
Counted script at count rest =
    (lines : List (List ℕ)) (all : List Line) → HasRead script lines all [] → (later : List Line) × AreLines at (lines_of rest) later × (count + builds later ≡ builds all)

counted_first : (script : List ℕ) → Counted script 0 0 script
counted_first script lines all read = (all, subst (λ (ls : List (List ℕ)). AreLines 0 ls all) (sym (read.cut ∙ append-nil lines)) read.are, omega arith)

pub counted_begin : (script unread : List ℕ) (at : ℕ) → at ≡ 0 → unread ≡ [] → Counted script at 0 (unread ++ script)
counted_begin script unread at begun none = subst (λ (n : ℕ). Counted script n 0 (unread ++ script)) (sym begun) (subst (λ (u : List ℕ). Counted script 0 0 (u ++ script)) (sym none) (counted_first script))

counted_more : (script rest rest_new text : List ℕ) (at at_new count : ℕ) (line : Line) → Counted script at count rest → IsNext at at_new rest rest_new text → IsLine text line
    → Counted script at_new (count + builds_in line) rest_new
counted_more script rest rest_new text at at_new count line so next is lines all read =
    let was = so lines all read in
    go was.0 (subst (λ (ls : List (List ℕ)). AreLines at ls was.0) next.cut was.1) was.2
  where
    go : (later : List Line) → AreLines at (next.line ∷ lines_of rest_new) later → count + builds later ≡ builds all → (more : List Line) × AreLines at_new (lines_of rest_new) more × (count + builds_in line + builds more ≡ builds all)
    go [] are sum = absurd are
    go (s ∷ more) are sum =
        let same : s ≡ line = means_once (said text) s line (subst (λ (t : List ℕ). IsLine t s) (sym next.content) are.0.said) is in
        let one : builds_in s ≡ builds_in line = ap builds_in same in
        (more, subst (λ (n : ℕ). AreLines n (lines_of rest_new) more) (sym next.on) are.1, omega (arith, one, sum))

pub counted_on : (script rest rest_new : List ℕ) (at at_new count more : ℕ) → Counted script at count rest → IsCounted at at_new rest rest_new more → Counted script at_new (count + more) rest_new
counted_on script rest rest_new at at_new count more so next =
    subst (λ (n : ℕ). Counted script at_new (count + n) rest_new) (sym next.is) (counted_more script rest rest_new next.text at at_new count next.line so next.next next.says)

pub counted_all : (script rest : List ℕ) (at count : ℕ) → Counted script at count rest → ((line : List ℕ) (more : List (List ℕ)) → lines_of rest ≡ line ∷ more → IsBad at line) → HasBuilds script count
counted_all script rest at count so bad lines all read = let was = so lines all read in go (lines_of rest) refl was.0 was.1 was.2
  where
    go : (ls : List (List ℕ)) → lines_of rest ≡ ls → (later : List Line) → AreLines at ls later → count + builds later ≡ builds all → count ≡ builds all
    go [] is [] are sum = omega (arith, sum)
    go [] is (s ∷ more) are sum = absurd are
    go (l ∷ ls) is [] are sum = absurd are
    go (l ∷ ls) is (s ∷ more) are sum = absurd (bad l ls is s are.0)
