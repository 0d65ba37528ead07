use Rattle.std.proofs.Common.{◌≡◌, ◌∙◌, subst}
use Rattle.ae_base.specs.declared.words.Cause.TheVariants.{InternalEnhancement}
use Rattle.ae_bundle.specs.declared.bundle.Bundle.{Bundle}
use Rattle.ae_dist.specs.Steps.{IsPlanned}
use Rattle.ae_branch.specs.Finish.{branch_bundle}
use Rattle.ae_branch.specs.Steps.{memory}
use Rattle.ae_branch.proofs.Finish.{plans_as}
use Rattle.ae_branch.proofs.finishing.plan_files.Goals as goal

pub returns-in_default-clause-answer : goal.returns-in_default-clause-answer
returns-in_default-clause-answer c = memory

pub returns-clause-answer : goal.returns-clause-answer
returns-clause-answer c =
    let made : Bundle = record { brief = c.in-Ok.brief; description = c.of.result; cause = InternalEnhancement; files = c.args.files } in
    let same : made ≡ branch_bundle c.args.name.now c.args.files =
    (λ i. record { brief = c.in-Ok.ensures i; description = (c.of.ensures ∙ c.new.ensures.items) i; cause = InternalEnhancement; files = c.args.files }) in
    plans_as (Unit {0}) c.args.state.now (branch_bundle c.args.name.now c.args.files) ⊥ c.plan_on.result
    (subst (λ (bundle : Bundle). IsPlanned c.args.state.now bundle c.plan_on.result) same c.plan_on.ensures.planned)
