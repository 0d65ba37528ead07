-- What a call answers, from what its steps answer.
use Rattle.std.specs.Prelude.{◌≡◌, ℕ, List, Option, Some, None, Result, Ok, Err}
use Rattle.std.proofs.Common.{refl, sym, subst}
use Rattle.ae_base.specs.declared.outcome.Outcome.{Outcome}
use Rattle.ae_base.specs.declared.outcome.Outcome.TheVariants as outcome
use Rattle.ae_base.specs.declared.refusal.Refusal.{Refusal}
use Rattle.ae_base.specs.declared.want.Want.{Want}
use Rattle.ae_dist.specs.Answers.{Says, Stops}
use Rattle.ae_dist.specs.Answers as says
use Rattle.ae_dist.specs.Steps.{Tells}
use Rattle.ae_exec.specs.Endings.{EndsAs, IsDamagedAt}
use Rattle.ae_exec.specs.Endings as ends
use Rattle.ae_exec.specs.Shown.{Shown}
use Rattle.ae_outside.specs.Image.{Image}
use Rattle.ae_types.specs.Observation.{Observation}
use Rattle.ae_branch.specs.Beginning.{IsTaken}
use Rattle.ae_branch.specs.Steps.{AnswersAs, Opens, Then, UnlessRefused, damaged, disk_fault, done, memory, refused, stopped, went_on}

-- ---- from one answer to another

-- where more is told, what is said says more
pub answers_as : {A : Type 0} (told other : Type 0) (S T : Result A Outcome → Type 0) (rose risen : Type 0) → (other → told) → (other → (said : Result A Outcome) → S said → T said) → (rose → risen) → (result : Result A Outcome)
    → AnswersAs told S rose result → AnswersAs other T risen result
answers_as told other S T rose risen less on cause _ (done value is) = done value (λ tells. on tells (Ok value) (is (less tells)))
answers_as told other S T rose risen less on cause _ (refused refusal is) = refused refusal (λ tells. on tells (Err (outcome.Refused refusal)) (is (less tells)))
answers_as told other S T rose risen less on cause _ (damaged name is) = damaged name (λ tells. on tells (Err (outcome.Damaged name)) (is (less tells)))
answers_as told other S T rose risen less on cause _ (disk_fault failed) = disk_fault (cause failed)
answers_as told other S T rose risen less on cause _ memory = memory

-- so is what stopped a step, whatever that was to give
pub stops_as : {A B : Type 0} (told other : Type 0) (S : Result A Outcome → Type 0) (T : Result B Outcome → Type 0) (rose risen : Type 0) → (other → told) → (other → (why : Outcome) → S (Err why) → T (Err why)) → (rose → risen) → (why : Outcome)
    → AnswersAs told S rose (Err why) → AnswersAs other T risen (Err why)
stops_as told other S T rose risen less on cause _ (refused refusal is) = refused refusal (λ tells. on tells (outcome.Refused refusal) (is (less tells)))
stops_as told other S T rose risen less on cause _ (damaged name is) = damaged name (λ tells. on tells (outcome.Damaged name) (is (less tells)))
stops_as told other S T rose risen less on cause _ (disk_fault failed) = disk_fault (cause failed)
stops_as told other S T rose risen less on cause _ memory = memory

-- ---- what a disk's files say

-- a call that refuses nothing has stopped
pub says_stops : {A : Type 0} (told : Type 0) (S : A → Type 0) (R : Refusal → Type 0) (M : List ℕ → Type 0) (rose : Type 0) (why : Outcome) → Stops (λ (name : List ℕ). told → M name) rose why → AnswersAs told (Says S R M) rose (Err why)
says_stops told S R M rose _ (ends.done is) = absurd is
says_stops told S R M rose _ (ends.run_failed is) = absurd is
says_stops told S R M rose _ (ends.refused refusal is) = absurd is
says_stops told S R M rose _ (ends.damaged name is) = damaged name (λ tells. says.damaged name (is tells))
says_stops told S R M rose _ (ends.disk_fault failed) = disk_fault failed
says_stops told S R M rose _ (ends.site_fault failed) = absurd failed
says_stops told S R M rose _ ends.memory = memory

-- a step of what stands is done, or refused
pub says_tells : {A : Type 0} (told : Type 0) (P S : A → Type 0) (refuses : Option Refusal) (R : Refusal → Type 0) (M : List ℕ → Type 0) (rose : Type 0) → (told → (value : A) → P value → S value) → (told → (refusal : Refusal) → refuses ≡ Some refusal → R refusal)
    → (result : Result A Outcome) → Tells P refuses result → AnswersAs told (Says S R M) rose result
says_tells told P S refuses R M rose on refusing (Ok value) is = done value (λ tells. says.done value (on tells value is))
says_tells told P S refuses R M rose on refusing (Err why) is = go why is
  where
    go : (why : Outcome) → EndsAs ⊥ ⊥ (λ (refusal : Refusal). refuses ≡ Some refusal) (λ (name : List ℕ). ⊥) ⊥ ⊥ why → AnswersAs told (Says S R M) rose (Err why)
    go _ (ends.done none) = absurd none
    go _ (ends.run_failed none) = absurd none
    go _ (ends.refused refusal because) = refused refusal (λ tells. says.refused refusal (refusing tells refusal because))
    go _ (ends.damaged name none) = absurd none
    go _ (ends.disk_fault none) = absurd none
    go _ (ends.site_fault none) = absurd none
    go _ ends.memory = memory

-- the project that was loaded is taken, or isn't
pub opened_as : (told : Type 0) (wanted : Want) (refuses : Option Observation → Option Refusal) (image : Image) (loaded : Option Observation) (rose : Type 0) (result : Result Observation Outcome) → (told → Shown wanted image loaded)
    → IsTaken refuses loaded result → AnswersAs told (Opens wanted refuses image) rose result
opened_as told wanted refuses image loaded rose result shown is =
    says_tells told (λ (o : Observation). (loaded ≡ Some o) × (refuses (Some o) ≡ None)) (λ (o : Observation). Shown wanted image (Some o) × (refuses (Some o) ≡ None)) (refuses loaded)
    (λ (refusal : Refusal). (stands : Option Observation) × Shown wanted image stands × (refuses stands ≡ Some refusal)) (IsDamagedAt wanted image) rose
    (λ tells o found. (subst (Shown wanted image) found.0 (shown tells), found.1)) (λ tells refusal because. (loaded, shown tells, because)) result is

-- none was loaded, or which file is damaged
pub not_opened_as : (told : Type 0) (wanted : Want) (refuses : Option Observation → Option Refusal) (image : Image) (rose : Type 0) (why : Outcome) → Stops (λ (name : List ℕ). told → IsDamagedAt wanted image name) rose why
    → AnswersAs told (Opens wanted refuses image) rose (Err why)
not_opened_as told wanted refuses image rose why =
    says_stops told (λ (o : Observation). Shown wanted image (Some o) × (refuses (Some o) ≡ None)) (λ (refusal : Refusal). (stands : Option Observation) × Shown wanted image stands × (refuses stands ≡ Some refusal)) (IsDamagedAt wanted image) rose why

-- ---- a test

-- it refuses
pub refused_as : {B : Type 0} (told : Type 0) (refuses : Option Refusal) (next : Unit {0} → Result B Outcome → Type 0) (rose : Type 0) (refusal : Refusal) → refuses ≡ Some refusal
    → AnswersAs told (Then (UnlessRefused refuses) next) rose (Err (outcome.Refused refusal))
refused_as told refuses next rose refusal is = refused refusal (λ tells. stopped (outcome.Refused refusal) (subst (λ (why : Option Refusal). UnlessRefused why (Err (outcome.Refused refusal))) (sym is) refl))

-- it doesn't
pub passed_as : {B : Type 0} (told : Type 0) (refuses : Option Refusal) (next : Unit {0} → Result B Outcome → Type 0) (rose : Type 0) (result : Result B Outcome) → refuses ≡ None → AnswersAs told (next tt) rose result
    → AnswersAs told (Then (UnlessRefused refuses) next) rose result
passed_as told refuses next rose result is =
    answers_as told told (next tt) (Then (UnlessRefused refuses) next) rose rose (λ tells. tells) (λ tells said so. went_on tt said (subst (λ (why : Option Refusal). UnlessRefused why (Ok tt)) (sym is) refl) so) (λ failed. failed) result
