-- What the steps of beginning a branch make.
use Rattle.std.specs.Prelude.{◌≡◌, ℕ, List, ◌++◌, All, Option, Some, None, Result, IfSome, IsOkAnd}
use Rattle.std.specs.List.{AllByRecursion}
use Rattle.ae_base.specs.declared.outcome.Outcome.{Outcome}
use Rattle.ae_base.specs.declared.refusal.Refusal.{Refusal}
use Rattle.ae_base.specs.declared.want.Want.TheVariants as want
use Rattle.ae_bundle.specs.declared.bundle.BundleFile.{BundleFile}
use Rattle.ae_dist.specs.Steps.{Tells}
use Rattle.ae_dist.specs.declared.rows.Row.{Row}
use Rattle.ae_exec.specs.Reading.{IsInside}
use Rattle.ae_lines.specs.Acts.{MayBePlanned}
use Rattle.ae_lines.specs.declared.act.Act.{Act}
use Rattle.ae_outside.specs.Image.{Image}
use Rattle.ae_types.specs.Observation.{Observation}
use Rattle.ae_branch.specs.declared.source.Source.{Source}
use Rattle.ae_branch.specs.Begin.{IsVacant, brief_of, created_rows, plan_of_first, refuses_branch, refuses_rows, refuses_trunk}
use Rattle.ae_branch.specs.Opening.{opening_acts}
use Rattle.ae_branch.specs.Steps.{Is, Opens, Reads, Then, UnlessRefused}

-- the project that was loaded, unless it is refused for a reason
abbrev pub IsTaken : (Option Observation → Option Refusal) → Option Observation → Result Observation Outcome → Type 0
IsTaken refuses loaded = Tells (λ (o : Observation). (loaded ≡ Some o) × (refuses (Some o) ≡ None)) (refuses loaded)

-- none was loaded, unless one that was is refused
abbrev pub IsLeft : Option Observation → Result (Unit {0}) Outcome → Type 0
IsLeft loaded = Tells (λ (_ : Unit {0}). loaded ≡ None) (refuses_branch loaded)

-- ---- what the trunk gives

-- it is what a branch of this name is made of
pub record IsSource (o : Observation) (name : List ℕ) (delta : ℕ) (who : List ℕ) (source : Source) : Type 0 where
  pub acts : source.acts ≡ opening_acts o who name
  pub brief : source.brief ≡ brief_of name delta
  pub rows : source.rows.items ≡ created_rows o delta

-- its acts may be done, and its versions end in the region
pub record IsGoodSource (source : Source) : Type 0 where
  pub formed : All MayBePlanned source.acts
  pub inside : AllByRecursion (λ (row : Row). IfSome row.version IsInside) source.rows.items

-- the trunk has it
abbrev pub FindsSource : Image → (name : List ℕ) → (delta : ℕ) → (who : List ℕ) → Result Source Outcome → Type 0
FindsSource trunk name delta who =
    Then (Opens want.Nothing (refuses_trunk who delta) trunk) (λ (o : Observation) (said : Result Source Outcome). IsOkAnd said (IsSource o name delta who))

-- ---- what is made of it

-- its versions are read, and these are the acts
abbrev pub ReadsSource : Image → Source → Result (List Act) Outcome → Type 0
ReadsSource trunk source = Then (Reads trunk source.rows.items) (λ (files : List BundleFile). Is (source.acts ++ plan_of_first source.brief files))

-- unless its rows are refused
abbrev pub FillsSource : Image → Source → Result (List Act) Outcome → Type 0
FillsSource trunk source = Then (UnlessRefused (refuses_rows source.rows.items)) (λ (_ : Unit {0}). ReadsSource trunk source)

-- where the branch is vacant
abbrev pub BeginsWith : (trunk branch : Image) → Source → Result (List Act) Outcome → Type 0
BeginsWith trunk branch source = Then (IsVacant branch) (λ (_ : Unit {0}). FillsSource trunk source)
