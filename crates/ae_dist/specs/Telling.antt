-- How the text of a change is told.
use Rattle.std.specs.Prelude.{ℕ, List, Option, Result}
use Rattle.ae_base.specs.declared.outcome.Outcome.{Outcome}
use Rattle.ae_outside.specs.Image.{Image}
use Rattle.ae_telling.specs.Answered.{IsAnswerTold}
use Rattle.ae_telling.specs.Telling.{SinkUse}
use Rattle.ae_dist.specs.Answers.{AnswersWriting, IsAnswered, IsWriting}

-- What a call that sends a change does: it answers the text of the change set that is sent by what the disk's files show, or why there
-- is none, where that is told; and tells it, the text to `out`, or the message of why there is none to `err`.
pub record IsSentTold (told : Type 0) (image : Image) (name : Option (List ℕ)) (number : ℕ) (disk_rose : Type 0) (out err : SinkUse) (result : Outcome) : Type 0 where
  pub answer : Result (List ℕ) Outcome
  -- each answer has its cause
  pub caused : AnswersWriting told image name number disk_rose answer
  -- what the files say comes, unless the disk failed or memory ran out
  pub only : told → (said : Result (List ℕ) Outcome) → IsWriting image name number said → IsAnswered said answer
  pub is_told : IsAnswerTold answer out err result
