-- The files of the trunk and of the branch say one thing of beginning it.
use Rattle.std.specs.Prelude.{◌≡◌, ℕ, List, ◌++◌, Option, Some, None, Result}
use Rattle.std.proofs.Common.{refl, sym, ap, ◌∙◌}
use Rattle.ae_base.specs.declared.outcome.Outcome.{Outcome}
use Rattle.ae_base.specs.declared.refusal.Refusal.{Refusal}
use Rattle.ae_base.specs.declared.want.Want.{Want}
use Rattle.ae_base.specs.declared.want.Want.TheVariants as want
use Rattle.ae_bundle.specs.declared.bundle.BundleFile.{BundleFile}
use Rattle.ae_dist.specs.Sending.{versions_of}
use Rattle.ae_dist.specs.Steps.{AreReadFrom}
use Rattle.ae_dist.specs.declared.rows.Row.{Row}
use Rattle.ae_dist.proofs.Once.{no_reason, one_reason, same_project, says_once}
use Rattle.ae_exec.specs.Endings.{IsDamagedAt}
use Rattle.ae_exec.specs.Reading.{IsLostAmong}
use Rattle.ae_exec.specs.Shown.{Shown}
use Rattle.ae_exec.proofs.Completing.{damaged_once, never_damaged}
use Rattle.ae_exec.proofs.ReadInOrder.{kept-not-lost}
use Rattle.ae_exec.proofs.Stores.{one}
use Rattle.ae_lines.specs.declared.act.Act.{Act}
use Rattle.ae_outside.specs.Image.{Image}
use Rattle.ae_types.specs.Observation.{Observation}
use Rattle.ae_vault.specs.Vault.{effective}
use Rattle.ae_branch.specs.Begin.{Begins, IsVacant, brief_of, created_rows, plan_of_first, refuses_branch, refuses_rows, refuses_trunk}
use Rattle.ae_branch.specs.Opening.{opening_acts}
use Rattle.ae_branch.specs.Steps.{Is, Opens, Reads, SaysOne, Then, UnlessRefused}
use Rattle.ae_branch.proofs.Steps.{is_one, then_one, unless_one}

-- ---- a store that is opened

module _ (wanted : Want) (refuses : Option Observation → Option Refusal) (image : Image) where
  abbrev IsThere : Observation → Type 0
  IsThere o = Shown wanted image (Some o) × (refuses (Some o) ≡ None)

  abbrev IsRefused : Refusal → Type 0
  IsRefused refusal = (stands : Option Observation) × Shown wanted image stands × (refuses stands ≡ Some refusal)

  refused_once : (r q : Refusal) → IsRefused r → IsRefused q → r ≡ q
  refused_once r q is was = one_reason wanted image refuses is.0 was.0 r q is.1 was.1 is.2 was.2

  refused_not_damaged : (r : Refusal) (name : List ℕ) → IsRefused r → IsDamagedAt wanted image name → ⊥
  refused_not_damaged r name is damaged = never_damaged wanted image is.0 name is.1 damaged

  pub opens_one : SaysOne (Opens wanted refuses image)
  opens_one one other a b =
      says_once IsThere IsRefused (IsDamagedAt wanted image) (λ o p is was. same_project wanted image o p is.0 was.0) refused_once (damaged_once wanted image)
      (λ o r is was. no_reason wanted image refuses o was.0 r is.0 was.1 is.1 was.2) (λ o name is damaged. never_damaged wanted image (Some o) name is.0 damaged) refused_not_damaged one other a b

-- ---- a branch that is vacant

module _ (image : Image) where
  not_both : (r : Refusal) → Shown want.Nothing image None → IsRefused want.Nothing refuses_branch image r → ⊥
  not_both r vacant is =
      let same : is.0 ≡ None = one want.Nothing image is.0 None is.1 vacant in
      let none : None ≡ Some r = sym (ap refuses_branch same) ∙ is.2 in
      cc

  pub vacant_one : SaysOne (IsVacant image)
  vacant_one first other a b =
      says_once (λ (_ : Unit {0}). Shown want.Nothing image None) (IsRefused want.Nothing refuses_branch image) (IsDamagedAt want.Nothing image) (λ x y is was. refl) (refused_once want.Nothing refuses_branch image)
      (damaged_once want.Nothing image) (λ x r. not_both r) (λ x name is damaged. never_damaged want.Nothing image None name is damaged) (refused_not_damaged want.Nothing refuses_branch image) first other a b

-- ---- versions that are read

pub reads_one : (image : Image) (rows : List Row) → SaysOne (Reads image rows)
reads_one image rows first other a b =
    says_once (AreReadFrom (effective image) rows) (λ (refusal : Refusal). ⊥) (IsLostAmong image (versions_of rows)) (λ files others is was. is.are ∙ sym was.are) (λ r q none. absurd none) (λ m n is was. is.is_pack ∙ sym was.is_pack)
    (λ files r is none. none) (λ files name is lost. kept-not-lost (effective image) (versions_of rows) is.kept lost.first) (λ r name none. absurd none) first other a b

-- ---- all of it

module _ (trunk branch : Image) (name : List ℕ) (delta : ℕ) (who : List ℕ) where
  abbrev Files : Observation → List BundleFile → Result (List Act) Outcome → Type 0
  Files o files = Is (opening_acts o who name ++ plan_of_first (brief_of name delta) files)

  abbrev Reading : Observation → Result (List Act) Outcome → Type 0
  Reading o = Then (Reads trunk (created_rows o delta)) (Files o)

  abbrev Rows : Observation → Result (List Act) Outcome → Type 0
  Rows o = Then (UnlessRefused (refuses_rows (created_rows o delta))) (λ (_ : Unit {0}). Reading o)

  abbrev Vacant : Observation → Result (List Act) Outcome → Type 0
  Vacant o = Then (IsVacant branch) (λ (_ : Unit {0}). Rows o)

  reading_one : (o : Observation) → SaysOne (Reading o)
  reading_one o = then_one (Reads trunk (created_rows o delta)) (Files o) (reads_one trunk (created_rows o delta)) (λ files. is_one (opening_acts o who name ++ plan_of_first (brief_of name delta) files))

  rows_one : (o : Observation) → SaysOne (Rows o)
  rows_one o = then_one (UnlessRefused (refuses_rows (created_rows o delta))) (λ (_ : Unit {0}). Reading o) (unless_one (refuses_rows (created_rows o delta))) (λ passed. reading_one o)

  vacant_first : (o : Observation) → SaysOne (Vacant o)
  vacant_first o = then_one (IsVacant branch) (λ (_ : Unit {0}). Rows o) (vacant_one branch) (λ vacant. rows_one o)

  pub begins_one : SaysOne (Begins trunk branch name delta who)
  begins_one = then_one (Opens want.Nothing (refuses_trunk who delta) trunk) Vacant (opens_one want.Nothing (refuses_trunk who delta) trunk) vacant_first
