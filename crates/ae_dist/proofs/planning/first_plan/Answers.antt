use Rattle.std.specs.Prelude.{◌≡◌, ℕ, [], IfOk}
use Rattle.std.proofs.Common.{rules, subst}
use Rattle.ae_words.specs.Formed.{first_change}
use Rattle.ae_dist.specs.Plan.{plan_of}
use Rattle.ae_dist.specs.Steps.{ArePaths}
use Rattle.ae_dist.proofs.PlanFormed.{first_formed}
use Rattle.ae_dist.proofs.planning.first_plan.Goals as goal

pub returns-clause-formed : goal.returns-clause-formed
returns-clause-formed c =
    let paths : ArePaths c.args.bundle.files = search rules in
    let planned : IfOk c.acts_for.result (λ acts. acts ≡ plan_of [] first_change c.args.bundle) = subst (λ (number : ℕ). IfOk c.acts_for.result (λ acts. acts ≡ plan_of [] number c.args.bundle)) c.of.ensures c.acts_for.ensures in
    first_formed c.args.bundle c.acts_for.result planned paths
