-- Answers with their causes.
use Rattle.std.specs.Prelude.{◌≡◌, ℕ, List, Result, Ok, Err, IfErr}
use Rattle.std.proofs.Common.{inl, inr, refl}
use Rattle.ae_base.specs.declared.outcome.Outcome.{Outcome}
use Rattle.ae_base.specs.declared.outcome.Outcome.TheVariants as outcome
use Rattle.ae_base.specs.declared.refusal.Refusal.{Refusal}
use Rattle.ae_exec.specs.Endings.{EndsAs, disk_fault, memory, site_fault}
use Rattle.ae_exec.specs.Endings as ends
use Rattle.ae_telling.specs.Telling.{IsOfCommand}
use Rattle.ae_dist.specs.Answers.{Answers, IsAnswered, Says, damaged, done, refused}

-- what isn't done is a command's outcome
pub of_command : {R : Refusal → Type 0} {M : List ℕ → Type 0} {X : Type 0} (why : Outcome) → EndsAs ⊥ ⊥ R M X ⊥ why → IsOfCommand why
of_command _ (ends.done is) = absurd is
of_command _ (ends.run_failed is) = absurd is
of_command _ (ends.refused refusal is) = tt
of_command _ (ends.damaged name is) = tt
of_command _ (disk_fault rose) = tt
of_command _ (site_fault rose) = absurd rose
of_command _ memory = tt

pub fails_of_command : {A : Type 0} (S : A → Type 0) (R : Refusal → Type 0) (M : List ℕ → Type 0) (X : Type 0) (result : Result A Outcome) → Answers S R M X result → IfErr result IsOfCommand
fails_of_command S R M X (Ok value) is = tt
fails_of_command S R M X (Err why) is = of_command why is

-- what the files say is answered, where they say one thing alone
module _ {A : Type 0} (S : A → Type 0) (R : Refusal → Type 0) (M : List ℕ → Type 0) (once : (one other : Result A Outcome) → Says S R M one → Says S R M other → one ≡ other) (told rose : Type 0) (tells : told) where
  only_failed : (why : Outcome) → EndsAs ⊥ ⊥ (λ (refusal : Refusal). told → R refusal) (λ (name : List ℕ). told → M name) rose ⊥ why → (said : Result A Outcome) → Says S R M said → IsAnswered said (Err why)
  only_failed _ (ends.done is) said so = absurd is
  only_failed _ (ends.run_failed is) said so = absurd is
  only_failed _ (ends.refused refusal is) said so = inl (once (Err (outcome.Refused refusal)) said (refused refusal (is tells)) so)
  only_failed _ (ends.damaged name is) said so = inl (once (Err (outcome.Damaged name)) said (damaged name (is tells)) so)
  only_failed _ (disk_fault failed) said so = inr (inl refl)
  only_failed _ (site_fault failed) said so = absurd failed
  only_failed _ memory said so = inr (inr refl)

  pub only_said : (result : Result A Outcome) → Answers (λ (value : A). told → S value) (λ (refusal : Refusal). told → R refusal) (λ (name : List ℕ). told → M name) rose result
      → (said : Result A Outcome) → Says S R M said → IsAnswered said result
  only_said (Ok value) is said so = inl (once (Ok value) said (done value (is tells)) so)
  only_said (Err why) is said so = only_failed why is said so
