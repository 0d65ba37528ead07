-- The files of a trunk and of a branch say one thing of the branch's end.
use Rattle.std.specs.Prelude.{◌≡◌, ◌⊎◌, ℕ, if◌then◌else◌, List, Option, Some, None, is_some, unwrap_or, Result, Ok, Err}
use Rattle.std.proofs.Common.{inl, inr, sym, subst, ap, ◌∙◌}
use Rattle.ae_base.specs.declared.outcome.Outcome.{Outcome}
use Rattle.ae_base.specs.declared.outcome.Outcome.TheVariants as outcome
use Rattle.ae_base.specs.declared.refusal.Refusal.{Refusal}
use Rattle.ae_base.specs.declared.want.Want.TheVariants as want
use Rattle.ae_outside.specs.Image.{Image}
use Rattle.ae_types.specs.Observation.{Observation}
use Rattle.ae_types.specs.Trees.{TreeRow, baseline_of}
use Rattle.ae_vault.specs.Vault.{effective}
use Rattle.ae_exec.proofs.Upward.{SameBytes}
use Rattle.ae_exec.specs.Endings.{EndsAs}
use Rattle.ae_exec.specs.Endings as ends
use Rattle.ae_bundle.specs.declared.bundle.Bundle.{Bundle}
use Rattle.ae_bundle.specs.declared.bundle.BundleFile.{BundleFile}
use Rattle.ae_lines.specs.declared.act.Act.{Act}
use Rattle.ae_dist.specs.declared.rows.Row.{Row}
use Rattle.ae_dist.specs.Plan.{free_number, no_room, refuses_numbers}
use Rattle.ae_dist.specs.Sending.{refuses_project}
use Rattle.ae_dist.specs.Steps.{IsPlanned}
use Rattle.ae_branch.specs.declared.carrying.Carried.{Carried}
use Rattle.ae_branch.specs.Carried.{carried_rows}
use Rattle.ae_branch.specs.Finish.{Brings, Carries, CarriesAs, CarriesFrom, Finishes, HasDelta, PlansFor, PlansOn, PlansRows, Takes, TakesAs, TakesOn, branch_bundle, refuses_carried, refuses_carrying}
use Rattle.ae_branch.specs.Origin.{NamesOrigin, origin_bytes}
use Rattle.ae_branch.specs.Steps.{AnswersAs, Is, Opens, Reads, SaysOne, Then, UnlessRefused, done, memory, refused, stopped, went_on}
use Rattle.ae_branch.proofs.OriginRead.{names_one}
use Rattle.ae_branch.proofs.Steps.{is_one, then_one, unless_one}
use Rattle.ae_branch.proofs.BeginsOnce.{opens_one, reads_one}
use Rattle.ae_branch.proofs.Told.{reads_before}

-- ---- one thing

from_one : (o : Observation) (delta : ℕ) → SaysOne (CarriesFrom o delta)
from_one o delta = then_one (UnlessRefused (refuses_carrying o)) (λ (free : Unit {0}). Is (record { delta = delta; rows = carried_rows o })) (unless_one (refuses_carrying o)) (λ free. is_one (record { delta = delta; rows = carried_rows o }))

as_one : (o : Observation) (bytes : List ℕ) → SaysOne (CarriesAs o bytes)
as_one o bytes = then_one (NamesOrigin bytes) (λ (delta : ℕ). CarriesFrom o delta) (names_one bytes) (from_one o)

carries_one : (branch : Image) → SaysOne (Carries branch)
carries_one branch = then_one (Opens want.All (refuses_project None) branch) (λ (o : Observation). CarriesAs o (origin_bytes branch)) (opens_one want.All (refuses_project None) branch) (λ o. as_one o (origin_bytes branch))

has_one : (o : Observation) (delta : ℕ) → SaysOne (HasDelta o delta)
has_one o delta one other is was = is ∙ sym was

on_one : (o : Observation) (carried : Carried) → SaysOne (TakesOn o carried)
on_one o carried = then_one (HasDelta o carried.delta) (λ (there : Unit {0}). UnlessRefused (refuses_carried o carried)) (has_one o carried.delta) (λ there. unless_one (refuses_carried o carried))

takes_one : (trunk : Image) (carried : Carried) → SaysOne (Takes trunk carried)
takes_one trunk carried = then_one (Opens want.Nothing (refuses_project None) trunk) (λ (o : Observation). TakesAs o carried) (opens_one want.Nothing (refuses_project None) trunk)
    (λ o. then_one (TakesOn o carried) (λ (taken : Unit {0}). Is o) (on_one o carried) (λ taken. is_one o))

plans_one : (tree : List TreeRow) (bundle : Bundle) (number : Option ℕ) → SaysOne (PlansFor tree bundle number)
plans_one tree bundle (Some number) one other is was = is ∙ sym was
plans_one tree bundle None one other is was = is ∙ sym was

rows_one : (name : List ℕ) (o : Observation) (branch : Image) (rows : List Row) → SaysOne (PlansRows name o branch rows)
rows_one name o branch rows = then_one (Reads branch rows) (λ (files : List BundleFile). PlansOn o (branch_bundle name files)) (reads_one branch rows) (λ files. plans_one (baseline_of o) (branch_bundle name files) (free_number o))

brings_one : (name : List ℕ) (trunk branch : Image) (carried : Carried) → SaysOne (Brings name trunk branch carried)
brings_one name trunk branch carried = then_one (Takes trunk carried) (λ (o : Observation). PlansRows name o branch carried.rows) (takes_one trunk carried) (λ o. rows_one name o branch carried.rows)

pub finishes_one : (name : List ℕ) (trunk branch : Image) → SaysOne (Finishes name trunk branch)
finishes_one name trunk branch = then_one (Carries branch) (λ (carried : Carried). Brings name trunk branch carried) (carries_one branch) (brings_one name trunk branch)

-- ---- files that were brought up

-- where what comes next says more, so does the whole
then_more : {A B : Type 0} (first : Result A Outcome → Type 0) (next other : A → Result B Outcome → Type 0) → ((value : A) (said : Result B Outcome) → next value said → other value said) → (said : Result B Outcome) → Then first next said → Then first other said
then_more first next other more _ (stopped why is) = stopped why is
then_more first next other more _ (went_on value said is after) = went_on value said is (more value said after)

reads_more : (after before : Image) → SameBytes (effective after) (effective before) → {B : Type 0} (rows : List Row) (next : List BundleFile → Result B Outcome → Type 0) (said : Result B Outcome) → Then (Reads after rows) next said → Then (Reads before rows) next said
reads_more after before same rows next _ (stopped why is) = stopped why (reads_before after before same rows (Err why) is)
reads_more after before same rows next _ (went_on value said is more) = went_on value said (reads_before after before same rows (Ok value) is) more

-- a branch brings the same where its files have the same bytes of each version
pub brings_before : (name : List ℕ) (trunk after before : Image) → SameBytes (effective after) (effective before) → (carried : Carried) (said : Result (List Act) Outcome) → Brings name trunk after carried said → Brings name trunk before carried said
brings_before name trunk after before same carried said is =
    then_more (Takes trunk carried) (λ (o : Observation). PlansRows name o after carried.rows) (λ (o : Observation). PlansRows name o before carried.rows)
    (λ o result plans. reads_more after before same carried.rows (λ (files : List BundleFile). PlansOn o (branch_bundle name files)) result plans) said is

-- one of two disks failed, the second of them since an earlier call
pub either_later : (X Y W : Type 0) → (Y → W) → X ⊎ Y → X ⊎ W
either_later X Y W on (inl rose) = inl rose
either_later X Y W on (inr rose) = inr (on rose)

-- ---- the plan

module _ (told : Type 0) (o : Observation) (bundle : Bundle) (rose : Type 0) where
  plans_err : (why : Outcome) → EndsAs ⊥ ⊥ (λ (refusal : Refusal). refuses_numbers o ≡ Some refusal) (λ (name : List ℕ). ⊥) ⊥ ⊥ why → AnswersAs told (PlansOn o bundle) rose (Err why)
  plans_err _ (ends.done is) = absurd is
  plans_err _ (ends.run_failed is) = absurd is
  plans_err _ (ends.refused refusal is) = refused refusal (λ tells. plan_refused (free_number o) refusal is)
    where
      plan_refused : (number : Option ℕ) (refusal : Refusal) → (if is_some number then None else Some no_room) ≡ Some refusal → PlansFor (baseline_of o) bundle number (Err (outcome.Refused refusal))
      plan_refused (Some number) refusal is = absurd (let both : None ≡ Some refusal = is in cc)
      plan_refused None refusal is = ap (λ (r : Option Refusal). Err (outcome.Refused (unwrap_or r no_room))) (sym is)
  plans_err _ (ends.damaged name is) = absurd is
  plans_err _ (ends.disk_fault failed) = absurd failed
  plans_err _ (ends.site_fault failed) = absurd failed
  plans_err _ ends.memory = memory

  pub plans_as : (result : Result (List Act) Outcome) → IsPlanned o bundle result → AnswersAs told (PlansOn o bundle) rose result
  plans_as (Ok acts) is = done acts (λ tells. subst (λ (number : Option ℕ). PlansFor (baseline_of o) bundle number (Ok acts)) (sym is.1) (ap Ok is.2))
  plans_as (Err why) is = plans_err why is
