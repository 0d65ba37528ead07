-- Steps that say one thing, and calls that answer what they say.
use Rattle.std.specs.Prelude.{◌≡◌, ◌≢◌, Option, Some, None, Result, Ok, Err, IfErr, IsErrOf}
use Rattle.std.proofs.Common.{inl, inr, refl, sym, ap, subst, ◌∙◌}
use Rattle.ae_base.specs.declared.outcome.Outcome.{Outcome}
use Rattle.ae_base.specs.declared.outcome.Outcome.TheVariants as outcome
use Rattle.ae_base.specs.declared.refusal.Refusal.{Refusal}
use Rattle.ae_dist.specs.Answers.{IsAnswered}
use Rattle.ae_telling.specs.Telling.{IsOfCommand}
use Rattle.ae_branch.specs.Steps.{AnswersAs, Is, SaysOne, Then, UnlessRefused, damaged, disk_fault, done, memory, refused, stopped, went_on}

-- ---- one thing

pub same_ok : {A : Type 0} (a b : A) → ◌≡◌ {A = Result A Outcome} (Ok a) (Ok b) → a ≡ b
same_ok {A} a b same = ap (λ (r : Result A Outcome). value_or a r) same
  where
    value_or : A → Result A Outcome → A
    value_or default (Ok value) = value
    value_or default (Err why) = default

pub then_one : {A B : Type 0} (first : Result A Outcome → Type 0) (next : A → Result B Outcome → Type 0) → SaysOne first → ((value : A) → SaysOne (next value)) → SaysOne (Then first next)
then_one {A} {B} first next one each _ _ (stopped why is) (stopped other was) = ap (λ (r : Result A Outcome). err_of why r) (one (Err why) (Err other) is was)
  where
    err_of : Outcome → Result A Outcome → Result B Outcome
    err_of default (Ok value) = Err default
    err_of default (Err e) = Err e
then_one {A} {B} first next one each _ _ (stopped why is) (went_on value said was after) = let both : ◌≡◌ {A = Result A Outcome} (Err why) (Ok value) = one (Err why) (Ok value) is was in cc
then_one {A} {B} first next one each _ _ (went_on value said is after) (stopped why was) = let both : ◌≡◌ {A = Result A Outcome} (Ok value) (Err why) = one (Ok value) (Err why) is was in cc
then_one {A} {B} first next one each _ _ (went_on value said is after) (went_on other told was then) =
    each other said told (subst (λ (v : A). next v said) (same_ok value other (one (Ok value) (Ok other) is was)) after) then

pub is_one : {A : Type 0} (value : A) → SaysOne (Is value)
is_one value one other is was = is ∙ sym was

pub unless_one : (refusal : Option Refusal) → SaysOne (UnlessRefused refusal)
unless_one (Some refusal) one other is was = is ∙ sym was
unless_one None one other is was = is ∙ sym was

-- ---- answers

-- what is answered is of a command
pub fails_of_command : {A : Type 0} (told : Type 0) (S : Result A Outcome → Type 0) (rose : Type 0) (result : Result A Outcome) → AnswersAs told S rose result → IfErr result IsOfCommand
fails_of_command told S rose _ (done value is) = tt
fails_of_command told S rose _ (refused refusal is) = tt
fails_of_command told S rose _ (damaged name is) = tt
fails_of_command told S rose _ (disk_fault failed) = tt
fails_of_command told S rose _ memory = tt

-- and no failed run
pub fails_unfailed : {A : Type 0} (told : Type 0) (S : Result A Outcome → Type 0) (rose : Type 0) (result : Result A Outcome) → AnswersAs told S rose result → IfErr result (λ (why : Outcome). why ≢ outcome.RunFailed)
fails_unfailed told S rose _ (done value is) = tt
fails_unfailed told S rose _ (refused refusal is) = λ same. let both : outcome.Refused refusal ≡ outcome.RunFailed = same in cc
fails_unfailed told S rose _ (damaged name is) = λ same. let both : outcome.Damaged name ≡ outcome.RunFailed = same in cc
fails_unfailed told S rose _ (disk_fault failed) = λ same. let both : outcome.DiskFault ≡ outcome.RunFailed = same in cc
fails_unfailed told S rose _ memory = λ same. let both : outcome.Memory ≡ outcome.RunFailed = same in cc

-- of a call whose failures are no failed runs
pub no_run_failed : {A : Type 0} (result : Result A Outcome) → IfErr result (λ (why : Outcome). why ≢ outcome.RunFailed) → IsErrOf result outcome.RunFailed → ⊥
no_run_failed result others is = subst (λ r. IfErr r (λ (why : Outcome). why ≢ outcome.RunFailed)) is others refl

-- what they say comes, where they say one thing
pub only_one : {A : Type 0} (told : Type 0) (S : Result A Outcome → Type 0) (rose : Type 0) → SaysOne S → told → (result : Result A Outcome) → AnswersAs told S rose result → (said : Result A Outcome) → S said → IsAnswered said result
only_one told S rose one tells _ (done value is) said so = inl (one (Ok value) said (is tells) so)
only_one told S rose one tells _ (refused refusal is) said so = inl (one (Err (outcome.Refused refusal)) said (is tells) so)
only_one told S rose one tells _ (damaged name is) said so = inl (one (Err (outcome.Damaged name)) said (is tells) so)
only_one told S rose one tells _ (disk_fault failed) said so = inr (inl refl)
only_one told S rose one tells _ memory said so = inr (inr refl)

-- where less is told, other causes are known, or something else is said
pub answers_on : {A : Type 0} (told other : Type 0) (S T : Result A Outcome → Type 0) (rose risen : Type 0) → (other → told) → ((said : Result A Outcome) → S said → T said) → (rose → risen) → (result : Result A Outcome) → AnswersAs told S rose result
    → AnswersAs other T risen result
answers_on told other S T rose risen less on cause _ (done value is) = done value (λ tells. on (Ok value) (is (less tells)))
answers_on told other S T rose risen less on cause _ (refused refusal is) = refused refusal (λ tells. on (Err (outcome.Refused refusal)) (is (less tells)))
answers_on told other S T rose risen less on cause _ (damaged name is) = damaged name (λ tells. on (Err (outcome.Damaged name)) (is (less tells)))
answers_on told other S T rose risen less on cause _ (disk_fault failed) = disk_fault (cause failed)
answers_on told other S T rose risen less on cause _ memory = memory

-- ---- one step and then the next

-- the first one stops
pub stops_first : {A B : Type 0} (told other : Type 0) (first : Result A Outcome → Type 0) (next : A → Result B Outcome → Type 0) (rose risen : Type 0) → (other → told) → (rose → risen) → (why : Outcome) → AnswersAs told first rose (Err why)
    → AnswersAs other (Then first next) risen (Err why)
stops_first told other first next rose risen less cause _ (refused refusal is) = refused refusal (λ tells. stopped (outcome.Refused refusal) (is (less tells)))
stops_first told other first next rose risen less cause _ (damaged name is) = damaged name (λ tells. stopped (outcome.Damaged name) (is (less tells)))
stops_first told other first next rose risen less cause _ (disk_fault failed) = disk_fault (cause failed)
stops_first told other first next rose risen less cause _ memory = memory

-- what the first one found
pub found_first : {A : Type 0} (told : Type 0) (first : Result A Outcome → Type 0) (rose : Type 0) (value : A) → AnswersAs told first rose (Ok value) → told → first (Ok value)
found_first told first rose _ (done value is) tells = is tells

-- and it goes on
pub goes_next : {A B : Type 0} (told : Type 0) (first : Result A Outcome → Type 0) (next : A → Result B Outcome → Type 0) (rose risen : Type 0) → (rose → risen) → (value : A) → (told → first (Ok value)) → (result : Result B Outcome)
    → AnswersAs told (next value) rose result → AnswersAs told (Then first next) risen result
goes_next told first next rose risen cause value found _ (done v is) = done v (λ tells. went_on value (Ok v) (found tells) (is tells))
goes_next told first next rose risen cause value found _ (refused refusal is) = refused refusal (λ tells. went_on value (Err (outcome.Refused refusal)) (found tells) (is tells))
goes_next told first next rose risen cause value found _ (damaged name is) = damaged name (λ tells. went_on value (Err (outcome.Damaged name)) (found tells) (is tells))
goes_next told first next rose risen cause value found _ (disk_fault failed) = disk_fault (cause failed)
goes_next told first next rose risen cause value found _ memory = memory
