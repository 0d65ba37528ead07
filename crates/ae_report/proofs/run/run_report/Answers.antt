use Rattle.std.proofs.Common.{◌≤◌, ◌+◌, subst, arith}
use Rattle.std.proofs.Math.Logic.{∥∥₁_elim}
use Rattle.std.proofs.Math.Bridge.{le_prop}
use Rattle.ae_rlang.specs.declared.report.StatementList.{StatementList}
use Rattle.ae_rlang.specs.Shape.{fors}
use Rattle.ae_rlang.specs.View.{deeds}
use Rattle.ae_rlang.proofs.FewFors.{few-fors}
use Rattle.ae_report.specs.Steps.{steps_in}
use Rattle.ae_report.proofs.Costs.{steps-most}
use Rattle.ae_report.proofs.run.run_report.Goals as goal

pub returns-in_err-run_list-clause-cost : goal.returns-in_err-run_list-clause-cost
returns-in_err-run_list-clause-cost g c =
    let few : fors (deeds c.args.report.now.statements) ≤ 2 = ∥∥₁_elim c.args.report.now.good le_prop (few-fors (deeds c.args.report.now.statements)) in
    let most = steps-most (deeds c.args.report.now.statements) c.args.state.now few in
    let P : StatementList → Type 0 = λ list. c.run_list.new.steps ≤ c.args.steps.now + steps_in (deeds list) c.args.state.now in
    let cost : P c.args.report.now.statements = subst P c.statements.ensures c.run_list.ensures.cost in
    omega (arith, most, cost)

pub returns-clause-cost : goal.returns-clause-cost
returns-clause-cost g c =
    let few : fors (deeds c.args.report.now.statements) ≤ 2 = ∥∥₁_elim c.args.report.now.good le_prop (few-fors (deeds c.args.report.now.statements)) in
    let most = steps-most (deeds c.args.report.now.statements) c.args.state.now few in
    let P : StatementList → Type 0 = λ list. c.run_list.new.steps ≤ c.args.steps.now + steps_in (deeds list) c.args.state.now in
    let cost : P c.args.report.now.statements = subst P c.statements.ensures c.run_list.ensures.cost in
    omega (arith, most, cost)
