-- Lines of a script that were read, and one more.
use Rattle.std.specs.Prelude.{◌≡◌, ◌≢◌, ◌+◌, ℕ, List, [], ◌∷◌, ◌++◌, length, Err, IsErrOf}
use Rattle.std.proofs.Common.{inl, inr, sym, ap, subst, ◌∙◌, arith, append_assoc, zero-add, add_assoc}
use Rattle.ae_base.specs.declared.outcome.Outcome.{Outcome}
use Rattle.ae_base.specs.declared.outcome.Outcome.TheVariants.{SourceFault}
use Rattle.ae_lines.specs.Line.{IsLine}
use Rattle.ae_lines.specs.declared.line.Line.{Line}
use Rattle.ae_reader.specs.Cut.{IsWithin, lines_of}
use Rattle.ae_reader.specs.Reader.{IsNext, IsTooLong}
use Rattle.ae_reader.specs.declared.reader.LineError.{LineError}
use Rattle.ae_reader.specs.declared.reader.LineError.TheVariants as error
use Rattle.ae_lines.specs.Script.{AreLines, IsGood, size}
use Rattle.ae_telling.specs.Telling.{IsTold, SinkUse}
use Rattle.ae_script.specs.Ends.{HasBadNext, HasReadTo}

pub size_more : (lines : List (List ℕ)) (line : List ℕ) → size (lines ++ line ∷ []) ≡ size lines + length line
size_more [] line = omega arith
size_more (l ∷ lines) line = ap (λ (n : ℕ). length l + n) (size_more lines line) ∙ omega arith

pub lines_more : (at : ℕ) (lines : List (List ℕ)) (says : List Line) (line : List ℕ) (said : Line) → AreLines at lines says → IsGood (at + size lines) line said → AreLines at (lines ++ line ∷ []) (says ++ said ∷ [])
lines_more at [] [] line said are good = (subst (λ (n : ℕ). IsGood n line said) (omega arith) good, tt)
lines_more at [] (s ∷ says) line said are good = absurd are
lines_more at (l ∷ lines) [] line said are good = absurd are
lines_more at (l ∷ lines) (s ∷ says) line said are good =
    (are.0, lines_more (at + length l) lines says line said are.1 (subst (λ (n : ℕ). IsGood n line said) (sym (add_assoc at (length l) (size lines))) good))

pub cut_more : (script rest rest_new line : List ℕ) (lines : List (List ℕ)) → lines_of script ≡ lines ++ lines_of rest → lines_of rest ≡ line ∷ lines_of rest_new → lines_of script ≡ (lines ++ line ∷ []) ++ lines_of rest_new
cut_more script rest rest_new line lines first second = first ∙ ap (λ (ls : List (List ℕ)). lines ++ ls) second ∙ sym (append_assoc lines (line ∷ []) (lines_of rest_new))

-- ---- one line more

pub read_none : (script rest : List ℕ) (at : ℕ) → at ≡ 0 → rest ≡ script → HasReadTo script [] at rest
read_none script rest at begun whole = record { lines = []; read = record { cut = ap lines_of (sym whole); are = tt }; sized = sym begun }

pub read_more : (script rest rest_new text : List ℕ) (at at_new : ℕ) (says : List Line) (line : Line) → HasReadTo script says at rest → IsNext at at_new rest rest_new text → IsLine text line → HasReadTo script (says ++ line ∷ []) at_new rest_new
read_more script rest rest_new text at at_new says line so next is = record {
  lines = so.lines ++ next.line ∷ [];
  read = record {
    cut = cut_more script rest rest_new next.line so.lines so.read.cut next.cut;
    are = lines_more 0 so.lines says next.line line so.read.are (subst (λ (n : ℕ). IsGood n next.line line) (sym (zero-add (size so.lines))) good);
  };
  sized = size_more so.lines next.line ∙ ap (λ (n : ℕ). n + length next.line) so.sized ∙ sym next.on;
}
  where
    good : IsGood (size so.lines) next.line line
    good = record {
      within = subst (λ (n : ℕ). IsWithin n next.line) (sym so.sized) next.within;
      said = subst (λ (t : List ℕ). IsLine t line) next.content is;
    }

-- ---- the source's fault

-- an error of another name isn't that the source failed
pub other_error : {T : Type 0} (e named : LineError) → e ≡ named → named ≢ error.Failed → IsErrOf {T = T} (Err e) error.Failed → ⊥
other_error e named is other failed = let same : e ≡ error.Failed = cc in other (sym is ∙ same)

-- a call that tells it ends so, whether or not the sink takes its message
pub fault_told : (text : List ℕ) (sink : SinkUse) (result : Outcome) → IsTold SourceFault text sink result → result ≡ SourceFault
fault_told text sink result told = elim told.how [ inl is ↦ is | inr untold ↦ untold.0 ]

-- ---- a line that isn't understood

pub too_long : (at : ℕ) (rest : List ℕ) → IsTooLong at rest → HasBadNext at rest
too_long at rest long = record { line = long.line; more = long.more; next = long.cut; bad = λ says good. long.long good.within }

pub not_said : (at at_new : ℕ) (rest rest_new text : List ℕ) → IsNext at at_new rest rest_new text → ((line : Line) → IsLine text line → ⊥) → HasBadNext at rest
not_said at at_new rest rest_new text next none =
    record { line = next.line; more = lines_of rest_new; next = next.cut; bad = λ says good. none says (subst (λ (t : List ℕ). IsLine t says) (sym next.content) good.said) }
