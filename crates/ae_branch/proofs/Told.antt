-- What is answered, from what the steps of a call answer.
use Rattle.std.specs.Prelude.{◌≡◌, ℕ, List, Option, Some, None, Result, Ok, Err}
use Rattle.std.proofs.Common.{refl, sym, subst, ◌∙◌}
use Rattle.ae_base.specs.declared.outcome.Outcome.{Outcome}
use Rattle.ae_base.specs.declared.outcome.Outcome.TheVariants as outcome
use Rattle.ae_base.specs.declared.refusal.Refusal.{Refusal}
use Rattle.ae_base.specs.declared.want.Want.{Want}
use Rattle.ae_outside.specs.Image.{Image}
use Rattle.ae_types.specs.Observation.{Observation}
use Rattle.ae_vault.specs.Vault.{effective}
use Rattle.ae_exec.specs.Endings.{EndsAs, IsDamagedAt}
use Rattle.ae_exec.specs.Endings as ends
use Rattle.ae_exec.proofs.Upward.{SameBytes, are_kept, lost_among}
use Rattle.ae_bundle.specs.declared.bundle.BundleFile.{BundleFile}
use Rattle.ae_dist.specs.declared.rows.Row.{Row}
use Rattle.ae_dist.specs.Answers.{Says, Stops}
use Rattle.ae_dist.specs.Answers as says
use Rattle.ae_dist.specs.Sending.{refuses_project, versions_of}
use Rattle.ae_dist.specs.Steps.{AreReadFrom}
use Rattle.ae_dist.specs.Steps as dist
use Rattle.ae_dist.proofs.Outcomes.{files_same}
use Rattle.ae_branch.specs.Steps.{AnswersAs, Opens, Reads, UnlessRefused, damaged, disk_fault, done, memory, refused}

-- ---- a step that may refuse

pub refuses_as : (why : Option Refusal) (refusal : Refusal) → why ≡ Some refusal → UnlessRefused why (Err (outcome.Refused refusal))
refuses_as why refusal is = subst (λ (r : Option Refusal). UnlessRefused r (Err (outcome.Refused refusal))) (sym is) refl

pub frees_as : (why : Option Refusal) → why ≡ None → UnlessRefused why (Ok tt)
frees_as why is = subst (λ (r : Option Refusal). UnlessRefused r (Ok tt)) (sym is) refl

-- ---- the project that is opened

module _ (told : Type 0) (wanted : Want) (image : Image) (name : Option (List ℕ)) (rose : Type 0) where
  pub opens_err : (why : Outcome) → EndsAs ⊥ ⊥ (λ (refusal : Refusal). told → says.IsRefusedAt wanted image name refusal) (λ (file : List ℕ). told → IsDamagedAt wanted image file) rose ⊥ why
      → AnswersAs told (Opens wanted (refuses_project name) image) rose (Err why)
  opens_err _ (ends.done is) = absurd is
  opens_err _ (ends.run_failed is) = absurd is
  opens_err _ (ends.refused refusal is) = refused refusal (λ tells. let at = is tells in says.refused refusal (at.stands, at.shown, at.refused))
  opens_err _ (ends.damaged file is) = damaged file (λ tells. says.damaged file (is tells))
  opens_err _ (ends.disk_fault failed) = disk_fault failed
  opens_err _ (ends.site_fault failed) = absurd failed
  opens_err _ ends.memory = memory

  pub opens_as : (result : Result Observation Outcome) → dist.Opens told wanted image name rose result → AnswersAs told (Opens wanted (refuses_project name) image) rose result
  opens_as (Ok o) is = done o (λ tells. let at = is tells in says.done o (at.shown, at.named))
  opens_as (Err why) is = opens_err why is

-- ---- the files that are read

-- what files say that have the same bytes of each version
pub reads_before : (after before : Image) → SameBytes (effective after) (effective before) → (rows : List Row) (said : Result (List BundleFile) Outcome) → Reads after rows said → Reads before rows said
reads_before after before same rows _ (says.done files is) =
    says.done files (record { are = is.are ∙ files_same (effective after) (effective before) same rows; kept = are_kept (effective after) (effective before) same (versions_of rows) is.kept })
reads_before after before same rows _ (says.refused refusal is) = absurd is
reads_before after before same rows _ (says.damaged name is) = says.damaged name (lost_among after before (versions_of rows) name same is)
