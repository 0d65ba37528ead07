-- How an answer is told: its text, or why there is none.
use Rattle.std.specs.Prelude.{◌≡◌, ◌⊎◌, ℕ, List, Result, Ok, Err}
use Rattle.ae_base.specs.declared.outcome.Outcome.{Outcome}
use Rattle.ae_base.specs.declared.outcome.Outcome.TheVariants.{Done, Memory}
use Rattle.ae_telling.specs.Messages.{message}
use Rattle.ae_telling.specs.Telling.{SinkUse, IsTold, TakesMemory}
use Rattle.ae_telling.specs.Sinks.{TakesNothing}

-- an outcome is told as it is; or there was no memory for its message, and that is told
abbrev pub IsMeant : Outcome → Outcome → Type 0
IsMeant why meant = (meant ≡ why) ⊎ (meant ≡ Memory) × TakesMemory why

-- The message of why there is no answer is told, unless there is no memory for it.
pub record IsWhyTold (why : Outcome) (err : SinkUse) (result : Outcome) : Type 0 where
  pub meant : Outcome
  pub is_meant : IsMeant why meant
  pub is_told : IsTold meant (message meant) err result

-- The text is told to `out`, with which the call is done; or the message of why there is none to `err`. The other sink takes nothing.
pub data IsAnswerTold (answer : Result (List ℕ) Outcome) (out err : SinkUse) (result : Outcome) : Type 0 where
  done : (text : List ℕ) → answer ≡ Ok text → IsTold Done text out result → TakesNothing err → IsAnswerTold answer out err result
  stopped : (why : Outcome) → answer ≡ Err why → IsWhyTold why err result → TakesNothing out → IsAnswerTold answer out err result
