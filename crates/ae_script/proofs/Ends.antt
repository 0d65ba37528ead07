-- What is so at the end of lines: what the sink has taken of them, and the cause of a fault in the line that ended them.
use Rattle.std.specs.Prelude.{◌≡◌, ◌⊎◌, ◌++◌, ℕ, List, [], ◌∷◌, take}
use Rattle.std.proofs.Common.{inl, inr, refl, sym, subst, ◌∙◌, append-nil}
use Rattle.ae_outside.specs.Streams.{TakesPrefix}
use Rattle.ae_base.specs.declared.outcome.Outcome.{Outcome}
use Rattle.ae_base.specs.declared.outcome.Outcome.TheVariants.{Done, RunFailed, Refused, BadWords, BadScript, DiskFault, SiteFault, SinkFault, SourceFault, Damaged, Memory}
use Rattle.ae_telling.specs.Telling.{IsSaid, SinkUse, unless_told}
use Rattle.ae_script.specs.Causes.{IsCaused}
use Rattle.ae_script.specs.Laws.{AreToldFirst, BeginsWith, IsFaultOfLast, IsOfLine}
use Rattle.ae_script.specs.Lines.{AreDone, Did, Does, LinesEnd, Stand, by_end, by_line, disk_from, last_stand, site_from}
use Rattle.ae_script.specs.Uses.{Disks, Sites}
use Rattle.ae_script.specs.declared.manner.Manner.{Manner}
use Rattle.ae_script.proofs.Caused.{caused_did}

-- ---- what was taken

part_begins : (text old new : List ℕ) → TakesPrefix old new text → BeginsWith old new
part_begins text old new part = (take part.count text, part.taken)

said_begins : (text : List ℕ) (o : Outcome) (old new : List ℕ) (rose : Type 0) → IsSaid text o old new rose → BeginsWith old new
said_begins text Done old new rose said = (text, said)
said_begins text RunFailed old new rose said = (text, said)
said_begins text (Refused refusal) old new rose said = (text, said)
said_begins text (BadWords place) old new rose said = (text, said)
said_begins text (BadScript line) old new rose said = (text, said)
said_begins text DiskFault old new rose said = part_begins text old new said.part
said_begins text SiteFault old new rose said = part_begins text old new said.part
said_begins text SinkFault old new rose said = part_begins text old new said
said_begins text SourceFault old new rose said = part_begins text old new said.part
said_begins text (Damaged file) old new rose said = part_begins text old new said.part
said_begins text Memory old new rose said = part_begins text old new said.part

-- ---- the fault of the last line

-- one that isn't told stays what it is, or is the sink's
untold_is : (o : Outcome) → (unless_told o ≡ o) ⊎ (unless_told o ≡ SinkFault)
untold_is Done = inr refl
untold_is RunFailed = inr refl
untold_is (Refused refusal) = inr refl
untold_is (BadWords place) = inr refl
untold_is (BadScript line) = inr refl
untold_is DiskFault = inl refl
untold_is SiteFault = inl refl
untold_is SinkFault = inl refl
untold_is SourceFault = inl refl
untold_is (Damaged file) = inl refl
untold_is Memory = inl refl

-- a fault of a line is told of the line that had it
meant_so : (meant fault : Outcome) → IsOfLine fault → fault ≡ unless_told meant → meant ≡ fault
meant_so meant fault of_line is = elim (untold_is meant) [
  | inl same ↦ sym (is ∙ same)
  | inr other ↦ absurd (subst IsOfLine (is ∙ other) of_line)
]

module _ (d : Disks) (s : Sites) (manner : Manner) where
  pub told_first : (done : List (Did d s)) (sink : SinkUse) (After : Outcome → List ℕ → Type 0) (result : Outcome) → LinesEnd d s manner done sink After result → AreToldFirst d s manner done sink
  told_first done sink After result (by_line before last is lead ends) =
      record { before = before; last = last ∷ []; are = is; one = inr (last, refl); lead = lead; taken = λ tells. said_begins last.text result _ _ sink.rose (ends.said tells) }
  told_first done sink After result (by_end meant text lead after told) =
      record { before = done; last = []; are = sym (append-nil done); one = inl refl; lead = lead; taken = λ tells. said_begins text result _ _ sink.rose (told.said tells) }

  last_does : (from : Stand d s) (before : List (Did d s)) (last : Did d s) → AreDone d s manner from (before ++ last ∷ []) → Does d s manner (last_stand d s from before) last
  last_does from [] last are = are.0
  last_does from (one ∷ before) last are = last_does one.to before last are.1

  failed_by : (from : Stand d s) (done before : List (Did d s)) (last : Did d s) (fault : Outcome) → done ≡ before ++ last ∷ [] → AreDone d s manner from done → last.outcome ≡ fault → IsFaultOfLast d s from done fault
  failed_by from done before last fault is are failed =
      let does = last_does from before last (subst (λ (ones : List (Did d s)). AreDone d s manner from ones) is are) in
      record {
        before = before;
        last = last;
        are = is;
        outcome = failed;
        rose = subst (λ (o : Outcome). IsCaused (disk_from d s (last_stand d s from before) last.to).rose (site_from d s (last_stand d s from before) last.to).rose ⊥ ⊥ o) failed (caused_did d s manner (last_stand d s from before) last does);
      }

  pub fault_of_last : (from : Stand d s) (done : List (Did d s)) (sink : SinkUse) (After : Outcome → List ℕ → Type 0) (fault : Outcome) → IsOfLine fault → ((text : List ℕ) → After fault text → ⊥) → AreDone d s manner from done → LinesEnd d s manner done sink After fault
      → IsFaultOfLast d s from done fault
  fault_of_last from done sink After fault of_line never are (by_line before last is lead ends) = elim ends.how [
    | inl ended ↦ failed_by from done before last fault is are (sym ended.1)
    | inr untold ↦ failed_by from done before last fault is are (meant_so last.outcome fault of_line untold.0)
  ]
  fault_of_last from done sink After fault of_line never are (by_end meant text lead after told) = elim told.how [
    | inl is ↦ absurd (never text (subst (λ (o : Outcome). After o text) (sym is) after))
    | inr untold ↦ absurd (never text (subst (λ (o : Outcome). After o text) (meant_so meant fault of_line untold.0) after))
  ]
