-- That the files of a disk have one answer.
use Rattle.std.specs.Prelude.{◌≡◌, ℕ, List, Option, Result}
use Rattle.ae_base.specs.declared.outcome.Outcome.{Outcome}
use Rattle.ae_outside.specs.Image.{Image}
use Rattle.ae_bundle.specs.declared.bundle.Bundle.{Bundle}
use Rattle.ae_lines.specs.declared.act.Act.{Act}
use Rattle.ae_dist.specs.Answers.{IsPlanning, IsSending, IsWriting}

-- a change set, one refusal, or one damaged file
abbrev pub SendingHasOneAnswer : Type 0
SendingHasOneAnswer = (image : Image) (name : Option (List ℕ)) (number : ℕ) (one other : Result Bundle Outcome) → IsSending image name number one → IsSending image name number other → one ≡ other

-- and so has its text
abbrev pub WritingHasOneAnswer : Type 0
WritingHasOneAnswer = (image : Image) (name : Option (List ℕ)) (number : ℕ) (one other : Result (List ℕ) Outcome) → IsWriting image name number one → IsWriting image name number other → one ≡ other

-- and the plan of a change set
abbrev pub PlanningHasOneAnswer : Type 0
PlanningHasOneAnswer = (image : Image) (name : Option (List ℕ)) (bundle : Bundle) (one other : Result (List Act) Outcome) → IsPlanning image name bundle one → IsPlanning image name bundle other → one ≡ other
