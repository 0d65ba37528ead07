-- How the beginning of a branch ends, from how its steps end.
use Rattle.std.specs.Prelude.{◌≡◌, ◌⊎◌, ℕ, List, ◌++◌, Option, Some, None, Result, Ok, Err, IfErr, IfOk}
use Rattle.std.proofs.Common.{inl, inr, sym, ap, subst, ◌∙◌}
use Rattle.ae_base.specs.declared.outcome.Outcome.{Outcome}
use Rattle.ae_base.specs.declared.outcome.Outcome.TheVariants as outcome
use Rattle.ae_base.specs.declared.refusal.Refusal.{Refusal}
use Rattle.ae_base.specs.declared.want.Want.TheVariants as want
use Rattle.ae_bundle.specs.declared.bundle.BundleFile.{BundleFile}
use Rattle.ae_dist.specs.Answers.{Says, Stops}
use Rattle.ae_dist.specs.Answers as says
use Rattle.ae_dist.specs.Sending.{versions_of}
use Rattle.ae_dist.specs.Steps.{AreReadFrom}
use Rattle.ae_dist.specs.declared.rows.Row.{Row}
use Rattle.ae_dist.proofs.Outcomes.{files_same}
use Rattle.ae_exec.specs.Endings.{IsDamagedAt}
use Rattle.ae_exec.specs.Reading.{IsLostAmong}
use Rattle.ae_exec.specs.Shown.{Shown}
use Rattle.ae_exec.proofs.Upward.{SameBytes, are_kept, lost_among}
use Rattle.ae_lines.specs.declared.act.Act.{Act}
use Rattle.ae_outside.specs.Image.{Image}
use Rattle.ae_types.specs.Observation.{Observation}
use Rattle.ae_vault.specs.Vault.{effective}
use Rattle.ae_branch.specs.Begin.{Begins, IsVacant, brief_of, created_rows, plan_of_first, refuses_branch, refuses_rows, refuses_trunk}
use Rattle.ae_branch.specs.Beginning.{BeginsWith, FillsSource, FindsSource, IsLeft, IsSource, ReadsSource}
use Rattle.ae_branch.specs.Opening.{opening_acts}
use Rattle.ae_branch.specs.Steps.{AnswersAs, Is, Opens, Reads, Then, UnlessRefused, done, memory, stopped, went_on}
use Rattle.ae_branch.specs.declared.source.Source.{Source}
use Rattle.ae_branch.proofs.Steps.{found_first}
use Rattle.ae_branch.proofs.Stepping.{answers_as, says_stops, says_tells, stops_as}

-- ---- the branch

-- no project was loaded, or one
pub vacant_as : (told : Type 0) (image : Image) (loaded : Option Observation) (rose : Type 0) (result : Result (Unit {0}) Outcome) → (told → Shown want.Nothing image loaded) → IsLeft loaded result → AnswersAs told (IsVacant image) rose result
vacant_as told image loaded rose result shown is =
    says_tells told (λ (_ : Unit {0}). loaded ≡ None) (λ (_ : Unit {0}). Shown want.Nothing image None) (refuses_branch loaded)
    (λ (refusal : Refusal). (stands : Option Observation) × Shown want.Nothing image stands × (refuses_branch stands ≡ Some refusal)) (IsDamagedAt want.Nothing image) rose
    (λ tells value none. subst (Shown want.Nothing image) none (shown tells)) (λ tells refusal because. (loaded, shown tells, because)) result is

-- its store isn't loaded
pub unread_as : (told : Type 0) (image : Image) (rose : Type 0) (why : Outcome) → Stops (λ (name : List ℕ). told → IsDamagedAt want.Nothing image name) rose why → AnswersAs told (IsVacant image) rose (Err why)
unread_as told image rose why =
    says_stops told (λ (_ : Unit {0}). Shown want.Nothing image None) (λ (refusal : Refusal). (stands : Option Observation) × Shown want.Nothing image stands × (refuses_branch stands ≡ Some refusal)) (IsDamagedAt want.Nothing image) rose why

-- ---- the trunk

-- the project gives it, or memory runs out
pub found_as : (told : Type 0) (image : Image) (name : List ℕ) (delta : ℕ) (who : List ℕ) (o : Observation) (rose : Type 0) (result : Result Source Outcome) → (told → Opens want.Nothing (refuses_trunk who delta) image (Ok o))
    → IfOk result (IsSource o name delta who) → IfErr result (λ why. why ≡ outcome.Memory) → AnswersAs told (FindsSource image name delta who) rose result
found_as told image name delta who o rose (Ok source) opened is fails = done source (λ tells. went_on o (Ok source) (opened tells) is)
found_as told image name delta who o rose (Err why) opened is fails = subst (λ (x : Outcome). AnswersAs told (FindsSource image name delta who) rose (Err x)) (sym fails) memory

-- there is no project that gives it
pub not_found_as : (told : Type 0) (image : Image) (name : List ℕ) (delta : ℕ) (who : List ℕ) (rose : Type 0) (why : Outcome) → AnswersAs told (Opens want.Nothing (refuses_trunk who delta) image) rose (Err why)
    → AnswersAs told (FindsSource image name delta who) rose (Err why)
not_found_as told image name delta who rose why =
    stops_as told told (Opens want.Nothing (refuses_trunk who delta) image) (FindsSource image name delta who) rose rose (λ tells. tells) (λ tells reason is. stopped reason is) (λ failed. failed) why

-- ---- its versions

-- they are read, and the acts are made of the files, or memory runs out
pub read_as : (told : Type 0) (image : Image) (source : Source) (files : List BundleFile) (rose : Type 0) (result : Result (List Act) Outcome) → (told → AreReadFrom (effective image) source.rows.items files)
    → IfOk result (λ acts. acts ≡ source.acts ++ plan_of_first source.brief files) → IfErr result (λ why. why ≡ outcome.Memory) → AnswersAs told (ReadsSource image source) rose result
read_as told image source files rose (Ok acts) read is fails = done acts (λ tells. went_on files (Ok acts) (says.done files (read tells)) (ap Ok is))
read_as told image source files rose (Err why) read is fails = subst (λ (x : Outcome). AnswersAs told (ReadsSource image source) rose (Err x)) (sym fails) memory

-- one is lost, or the disk failed
pub lost_as : (told : Type 0) (image : Image) (source : Source) (rows : List Row) (rose : Type 0) (why : Outcome) → rows ≡ source.rows.items → Stops (λ (name : List ℕ). told → IsLostAmong image (versions_of rows) name) rose why
    → AnswersAs told (ReadsSource image source) rose (Err why)
lost_as told image source rows rose why are stops =
    stops_as told told (Reads image rows) (ReadsSource image source) rose rose (λ tells. tells) (λ tells reason is. stopped reason (subst (λ (r : List Row). Reads image r (Err reason)) are is)) (λ failed. failed) why
    (says_stops told (AreReadFrom (effective image) rows) (λ (refusal : Refusal). ⊥) (IsLostAmong image (versions_of rows)) rose why stops)

-- ---- files that have the same bytes of each version say the same of them

module _ (after before : Image) (same : SameBytes (effective after) (effective before)) where
  reads_before : (rows : List Row) (said : Result (List BundleFile) Outcome) → Reads after rows said → Reads before rows said
  reads_before rows _ (says.done files read) = says.done files (record {
    are = read.are ∙ files_same (effective after) (effective before) same rows;
    kept = are_kept (effective after) (effective before) same (versions_of rows) read.kept;
  })
  reads_before rows _ (says.refused refusal none) = absurd none
  reads_before rows _ (says.damaged name lost) = says.damaged name (lost_among after before (versions_of rows) name same lost)

  source_before : (source : Source) (said : Result (List Act) Outcome) → ReadsSource after source said → ReadsSource before source said
  source_before source _ (stopped why is) = stopped why (reads_before source.rows.items (Err why) is)
  source_before source _ (went_on files said is so) = went_on files said (reads_before source.rows.items (Ok files) is) so

  fills_before : (source : Source) (said : Result (List Act) Outcome) → FillsSource after source said → FillsSource before source said
  fills_before source _ (stopped why is) = stopped why is
  fills_before source _ (went_on passed said is so) = went_on passed said is (source_before source said so)

  begins_before : (branch : Image) (source : Source) (said : Result (List Act) Outcome) → BeginsWith after branch source said → BeginsWith before branch source said
  begins_before branch source _ (stopped why is) = stopped why is
  begins_before branch source _ (went_on vacant said is so) = went_on vacant said is (fills_before source said so)

-- ---- all of it

-- what is made of these acts, this brief description and these rows
abbrev BeginsOf : (trunk branch : Image) → (acts : List Act) → (brief : List ℕ) → (rows : List Row) → Result (List Act) Outcome → Type 0
BeginsOf trunk branch acts brief rows =
    Then (IsVacant branch) (λ (_ : Unit {0}). Then (UnlessRefused (refuses_rows rows)) (λ (_ : Unit {0}). Then (Reads trunk rows) (λ (files : List BundleFile). Is (acts ++ plan_of_first brief files))))

of_source : (trunk branch : Image) (o : Observation) (name : List ℕ) (delta : ℕ) (who : List ℕ) (source : Source) (said : Result (List Act) Outcome) → IsSource o name delta who source → BeginsWith trunk branch source said
    → BeginsOf trunk branch (opening_acts o who name) (brief_of name delta) (created_rows o delta) said
of_source trunk branch o name delta who source said is so =
    subst (λ (rows : List Row). BeginsOf trunk branch (opening_acts o who name) (brief_of name delta) rows said) is.rows
    (subst (λ (brief : List ℕ). BeginsOf trunk branch (opening_acts o who name) brief source.rows.items said) is.brief (subst (λ (acts : List Act). BeginsOf trunk branch acts source.brief source.rows.items said) is.acts so))

begun : (trunk branch : Image) (name : List ℕ) (delta : ℕ) (who : List ℕ) (source : Source) (said : Result (List Act) Outcome) → FindsSource trunk name delta who (Ok source) → BeginsWith trunk branch source said
    → Begins trunk branch name delta who said
begun trunk branch name delta who source said (went_on o _ opened is) so = went_on o said opened (of_source trunk branch o name delta who source said is so)

-- the trunk gave what a branch is made of
pub begun_as : (told : Type 0) (other : Type 0) (before after branch : Image) (name : List ℕ) (delta : ℕ) (who : List ℕ) (source : Source) (rose failed risen : Type 0) (result : Result (List Act) Outcome)
    → (told → SameBytes (effective after) (effective before)) → AnswersAs told (FindsSource before name delta who) failed (Ok source) → (rose → risen) → AnswersAs (told × other) (BeginsWith after branch source) rose result
    → AnswersAs (told × other) (Begins before branch name delta who) risen result
begun_as told other before after branch name delta who source rose failed risen result same found cause =
    answers_as (told × other) (told × other) (BeginsWith after branch source) (Begins before branch name delta who) rose risen (λ tells. tells)
    (λ tells said so.
    begun before branch name delta who source said (found_first told (FindsSource before name delta who) failed source found tells.0) (begins_before after before (same tells.0) branch source said so))
    cause result

-- it gave none
not_begun : (trunk branch : Image) (name : List ℕ) (delta : ℕ) (who : List ℕ) (why : Outcome) → FindsSource trunk name delta who (Err why) → Begins trunk branch name delta who (Err why)
not_begun trunk branch name delta who why (stopped _ is) = stopped why is
not_begun trunk branch name delta who why (went_on o _ opened none) = absurd none

pub not_begun_as : (told : Type 0) (other : Type 0) (trunk branch : Image) (name : List ℕ) (delta : ℕ) (who : List ℕ) (rose risen : Type 0) (why : Outcome) → (rose → risen) → AnswersAs told (FindsSource trunk name delta who) rose (Err why)
    → AnswersAs (told × other) (Begins trunk branch name delta who) risen (Err why)
not_begun_as told other trunk branch name delta who rose risen why cause =
    stops_as told (told × other) (FindsSource trunk name delta who) (Begins trunk branch name delta who) rose risen (λ tells. tells.0) (λ tells reason. not_begun trunk branch name delta who reason) cause why

-- ---- both stores

-- a fault that came later came
pub risen_first : (rose risen other : Type 0) → (rose → risen) → rose ⊎ other → risen ⊎ other
risen_first rose risen other cause (inl failed) = inl (cause failed)
risen_first rose risen other cause (inr failed) = inr failed

-- the branch is vacant
pub filled_as : (told other : Type 0) (trunk branch : Image) (source : Source) (rose failed : Type 0) (vacant : Unit {0}) (result : Result (List Act) Outcome) → AnswersAs other (IsVacant branch) failed (Ok vacant)
    → AnswersAs told (FillsSource trunk source) rose result → AnswersAs (told × other) (BeginsWith trunk branch source) (rose ⊎ failed) result
filled_as told other trunk branch source rose failed vacant result is =
    answers_as told (told × other) (FillsSource trunk source) (BeginsWith trunk branch source) rose (rose ⊎ failed) (λ tells. tells.0)
    (λ tells said so. went_on vacant said (found_first other (IsVacant branch) failed vacant is tells.1) so) inl result

-- it isn't
pub not_vacant_as : (told other : Type 0) (trunk branch : Image) (source : Source) (rose failed : Type 0) (why : Outcome) → AnswersAs other (IsVacant branch) failed (Err why)
    → AnswersAs (told × other) (BeginsWith trunk branch source) (rose ⊎ failed) (Err why)
not_vacant_as told other trunk branch source rose failed why =
    stops_as other (told × other) (IsVacant branch) (BeginsWith trunk branch source) failed (rose ⊎ failed) (λ tells. tells.1) (λ tells reason is. stopped reason is) inr why
