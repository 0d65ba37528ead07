-- An answer that is told by `told_command` is told as it is meant.
use Rattle.std.proofs.Common.{◌≡◌, ◌⊎◌, ◌∙◌, inl, inr, refl, sym, ap, subst, ℕ, false, List, [], Result, Ok, append-nil}
use Rattle.std.specs.Result.{IsErrAnd}
use Rattle.ae_base.specs.declared.outcome.Outcome.{Outcome}
use Rattle.ae_base.specs.declared.outcome.Outcome.TheVariants.{Done, RunFailed, Refused, BadWords, BadScript, DiskFault, SiteFault, SinkFault, SourceFault, Damaged, Memory}
use Rattle.ae_base.specs.Refusals.{message_of}
use Rattle.ae_telling.specs.Answered.{IsAnswerTold, IsMeant, IsWhyTold, done, stopped}
use Rattle.ae_telling.specs.Messages.{bad_line_text, bad_words_text, command_text, damaged_text, disk_fault_text, input_fault_text, memory_text, message, site_fault_text}
use Rattle.ae_telling.specs.Sinks.{TakesNothing}
use Rattle.ae_telling.specs.Telling.{IsTold, SinkUse, unless_told}

-- what is written of a command alone that has no reply is its message
pub message_alone : (o : Outcome) → command_text false [] o ≡ message o
message_alone Done = refl
message_alone RunFailed = refl
message_alone (Refused refusal) = append-nil (message_of refusal)
message_alone (BadWords place) = append-nil (bad_words_text place)
message_alone (BadScript line) = append-nil (bad_line_text line)
message_alone DiskFault = append-nil disk_fault_text
message_alone SiteFault = append-nil site_fault_text
message_alone SinkFault = refl
message_alone SourceFault = append-nil input_fault_text
message_alone (Damaged name) = append-nil (damaged_text name)
message_alone Memory = append-nil memory_text

pub why_told : (why meant result : Outcome) (reply said : List ℕ) (err : SinkUse) → IsMeant why meant → reply ≡ [] → said ≡ command_text false reply meant → IsTold meant said err result → IsWhyTold why err result
why_told why meant result reply said err is none written told = record {
  meant = meant;
  is_meant = is;
  is_told = subst (λ (s : List ℕ). IsTold meant s err result) (written ∙ ap (λ (r : List ℕ). command_text false r meant) none ∙ message_alone meant) told;
}

-- nothing else is meant of what is done
meant_done : (meant : Outcome) → IsMeant Done meant → meant ≡ Done
meant_done meant (inl is) = is
meant_done meant (inr none) = absurd none.1

module _ (answer : Result (List ℕ) Outcome) (out err : SinkUse) (meant result : Outcome) (said : List ℕ) where
  pub text_told : (text : List ℕ) → answer ≡ Ok text → IsMeant Done meant → said ≡ command_text false text meant → IsTold meant said out result → TakesNothing err → IsAnswerTold answer out err result
  text_told text is may written told quiet =
      let same = meant_done meant may in
      done text is (subst (λ (s : List ℕ). IsTold Done s out result) (written ∙ ap (command_text false text) same) (subst (λ (o : Outcome). IsTold o said out result) same told)) quiet

-- ---- what outlasts the telling

-- What is so where memory ran out, where the disk failed and where a file is damaged, and of no other outcome, is so of how a call ends,
-- where it is of why there is no answer: a sink that fails hides none of these.
module _ (P : Outcome → Type 0) (of_memory : P Memory) (of_disk : P DiskFault) (of_damage : (name : List ℕ) → P (Damaged name))
    (only : (why : Outcome) → P why → (why ≡ DiskFault) ⊎ ((why ≡ Memory) ⊎ ((name : List ℕ) × (why ≡ Damaged name)))) where
  left_of : (why : Outcome) → (why ≡ DiskFault) ⊎ ((why ≡ Memory) ⊎ ((name : List ℕ) × (why ≡ Damaged name))) → P (unless_told why)
  left_of why (inl is) = subst (λ (o : Outcome). P (unless_told o)) (sym is) of_disk
  left_of why (inr (inl is)) = subst (λ (o : Outcome). P (unless_told o)) (sym is) of_memory
  left_of why (inr (inr of)) = subst (λ (o : Outcome). P (unless_told o)) (sym of.1) (of_damage of.0)

  meant_has : (why meant : Outcome) → IsMeant why meant → P why → P meant
  meant_has why meant (inl same) is = subst P (sym same) is
  meant_has why meant (inr lacking) is = subst P (sym lacking.0) of_memory

  ends_with : (meant result : Outcome) (rose : Type 0) → (result ≡ meant) ⊎ ((result ≡ unless_told meant) × rose) → P meant → P result
  ends_with meant result rose (inl same) is = subst P (sym same) is
  ends_with meant result rose (inr left) is = subst P (sym left.0) (left_of meant (only meant is))

  pub why_outlasts : (why result : Outcome) (err : SinkUse) → IsWhyTold why err result → P why → P result
  why_outlasts why result err told is = ends_with told.meant result err.rose told.is_told.how (meant_has why told.meant told.is_meant is)

  pub answer_outlasts : (answer : Result (List ℕ) Outcome) (out err : SinkUse) (result : Outcome) → IsAnswerTold answer out err result → IsErrAnd answer P → P result
  answer_outlasts answer out err result (done text is told quiet) holds = absurd (subst (λ (r : Result (List ℕ) Outcome). IsErrAnd r P) is holds)
  answer_outlasts answer out err result (stopped why is told quiet) holds = why_outlasts why result err told (subst (λ (r : Result (List ℕ) Outcome). IsErrAnd r P) is holds)
