-- Acts that end a branch bring back what it changed.
use Rattle.std.specs.Prelude.{◌≡◌, List, ℕ, map, Some, None, Result, Ok}
use Rattle.std.proofs.Common.{refl, sym, ap, subst, ◌∙◌}
use Rattle.ae_base.specs.declared.outcome.Outcome.{Outcome}
use Rattle.ae_base.specs.declared.want.Want.{Want}
use Rattle.ae_base.specs.declared.want.Want.TheVariants as want
use Rattle.ae_outside.specs.Image.{Image}
use Rattle.ae_types.specs.Observation.{Observation}
use Rattle.ae_vault.specs.Vault.{effective}
use Rattle.ae_exec.specs.Shown.{Shown}
use Rattle.ae_bundle.specs.declared.bundle.BundleFile.{BundleFile}
use Rattle.ae_lines.specs.declared.act.Act.{Act}
use Rattle.ae_dist.specs.declared.rows.Row.{Row}
use Rattle.ae_dist.specs.Answers as says
use Rattle.ae_dist.specs.Sending.{refuses_project, sent_file}
use Rattle.ae_branch.specs.declared.carrying.Carried.{Carried}
use Rattle.ae_branch.specs.Carried.{brings, carried_rows}
use Rattle.ae_branch.specs.Finish.{BringCarried, Brings, Carries, CarriesAs, CarriesFrom, Finishes, PlansOn, PlansRows, Takes, TakesAs, branch_bundle}
use Rattle.ae_branch.specs.Origin.{origin_bytes}
use Rattle.ae_branch.specs.Steps.{Is, Opens, Reads, Then, stopped, went_on}
use Rattle.ae_branch.proofs.CarriedRows.{bring_carried}
use Rattle.ae_branch.proofs.Steps.{same_ok}

-- ---- what each step found

-- a whole that found something went on from something
pub found : {A B : Type 0} (first : Result A Outcome → Type 0) (next : A → Result B Outcome → Type 0) (result : Result B Outcome) (value : B) → result ≡ Ok value → Then first next result → (found : A) × first (Ok found) × next found (Ok value)
found first next _ value same (stopped why is) = absurd (cc same)
found first next _ value same (went_on one said is after) = (one, is, subst (next one) same after)

opened : (wanted : Want) (image : Image) (result : Result Observation Outcome) (o : Observation) → result ≡ Ok o → Opens wanted (refuses_project None) image result → Shown wanted image (Some o)
opened wanted image _ o same (says.done p is) = subst (λ (x : Observation). Shown wanted image (Some x)) (same_ok p o same) is.0
opened wanted image _ o same (says.refused refusal is) = absurd (cc same)
opened wanted image _ o same (says.damaged name is) = absurd (cc same)

read : (image : Image) (rows : List Row) (result : Result (List BundleFile) Outcome) (files : List BundleFile) → result ≡ Ok files → Reads image rows result → files ≡ map (sent_file (effective image)) rows
read image rows _ files same (says.done others is) = sym (same_ok others files same) ∙ is.are
read image rows _ files same (says.refused refusal is) = absurd (cc same)
read image rows _ files same (says.damaged name is) = absurd (cc same)

-- ---- the whole

-- what the branch says that it brings are the rows of what it shows
rows_are : (branch : Image) (brought : Carried) → Carries branch (Ok brought) → (o : Observation) × Shown want.All branch (Some o) × (brought.rows ≡ carried_rows o)
rows_are branch brought says =
    let at = found (Opens want.All (refuses_project None) branch) (λ (o : Observation). CarriesAs o (origin_bytes branch)) (Ok brought) brought refl says in
    let names = found _ (λ (delta : ℕ). CarriesFrom at.0 delta) (Ok brought) brought refl at.2 in
    let made = found _ (λ (free : Unit {0}). Is (record { delta = names.0; rows = carried_rows at.0 })) (Ok brought) brought refl names.2 in
    (at.0, opened want.All branch (Ok at.0) at.0 refl at.1, ap (λ (c : Carried). c.rows) (same_ok brought (record { delta = names.0; rows = carried_rows at.0 }) made.2))

pub brings_back : (name : List ℕ) (trunk branch : Image) (acts : List Act) → Finishes name trunk branch (Ok acts) → BringCarried name trunk branch acts
brings_back name trunk branch acts says =
    let carries = found (Carries branch) (λ (c : Carried). Brings name trunk branch c) (Ok acts) acts refl says in
    let takes = found (Takes trunk carries.0) (λ (o : Observation). PlansRows name o branch carries.0.rows) (Ok acts) acts refl carries.2 in
    let reads = found (Reads branch carries.0.rows) (λ (files : List BundleFile). PlansOn takes.0 (branch_bundle name files)) (Ok acts) acts refl takes.2 in
    let at = found (Opens want.Nothing (refuses_project None) trunk) (λ (o : Observation). TakesAs o carries.0) (Ok takes.0) takes.0 refl takes.1 in
    let same = found _ (λ (taken : Unit {0}). Is at.0) (Ok takes.0) takes.0 refl at.2 in
    let rows = rows_are branch carries.0 carries.1 in
    let are : reads.0 ≡ map (sent_file (effective branch)) (carried_rows rows.0) = read branch carries.0.rows (Ok reads.0) reads.0 refl reads.1 ∙ ap (map (sent_file (effective branch))) rows.2 in
    record {
      branch_stands = rows.0;
      trunk_stands = takes.0;
      files = reads.0;
      branch_shown = rows.1;
      trunk_shown = subst (λ (o : Observation). Shown want.Nothing trunk (Some o)) (sym (same_ok takes.0 at.0 same.2)) (opened want.Nothing trunk (Ok at.0) at.0 refl at.1);
      are = are;
      bring = ap brings are ∙ bring_carried (effective branch) rows.0;
      planned = reads.2;
    }
