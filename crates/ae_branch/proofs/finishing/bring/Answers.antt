use Rattle.std.proofs.Common.{◌≡◌, List, inl, inr, rules, subst}
use Rattle.ae_base.proofs.Results.{on_ok}
use Rattle.ae_exec.specs.Opened.{HasOpened}
use Rattle.ae_outside.specs.Causes.{HasRisen}
use Rattle.ae_outside.specs.State.{reads}
use Rattle.ae_types.specs.Observation.{Observation}
use Rattle.ae_dist.specs.declared.rows.Row.{Row}
use Rattle.ae_branch.specs.Finish.{PlansRows, Takes}
use Rattle.ae_branch.specs.Steps.{AnswersAs}
use Rattle.ae_branch.proofs.Steps.{found_first, goes_next, stops_first}
use Rattle.ae_branch.proofs.Stepping.{answers_as}
use Rattle.ae_branch.proofs.finishing.bring.Goals as goal

pub returns-in-Ok-clause-answer : goal.returns-in-Ok-clause-answer
returns-in-Ok-clause-answer g c =
    let trunk = reads (g.D.Disk.state c.args.trunk.now) in
    let branch = reads (g.B.Disk.state c.args.disk.now) in
    let rows_are : c.as_slice.result.now ≡ c.args.carried.now.rows = search rules in
    let answers : AnswersAs g.B.Disk.tells (PlansRows c.args.name.now c.in-Ok.state branch c.args.carried.now.rows) (HasRisen (g.B.Disk.faults c.args.disk.now) (g.B.Disk.faults c.plan_rows-acts.new.disk)) c.plan_rows-acts.result =
    subst (λ (rows : List Row). AnswersAs g.B.Disk.tells (PlansRows c.args.name.now c.in-Ok.state branch rows) (HasRisen (g.B.Disk.faults c.args.disk.now) (g.B.Disk.faults c.plan_rows-acts.new.disk)) c.plan_rows-acts.result) rows_are c.plan_rows-acts.ensures.answer in
    goes_next (g.D.Disk.tells × g.B.Disk.tells) (Takes trunk c.args.carried.now) (λ (o : Observation). PlansRows c.args.name.now o branch c.args.carried.now.rows) (HasRisen (g.B.Disk.faults c.args.disk.now) (g.B.Disk.faults c.plan_rows-acts.new.disk)) _
    (λ rose. inr rose) c.in-Ok.state (λ told. found_first g.D.Disk.tells (Takes trunk c.args.carried.now) (HasRisen (g.D.Disk.faults c.args.trunk.now) (g.D.Disk.faults c.take.new.disk)) c.in-Ok.state c.in-Ok.ensures.answer told.0) c.plan_rows-acts.result
    (answers_as g.B.Disk.tells (g.D.Disk.tells × g.B.Disk.tells) (PlansRows c.args.name.now c.in-Ok.state branch c.args.carried.now.rows) (PlansRows c.args.name.now c.in-Ok.state branch c.args.carried.now.rows) _ _ (λ told. told.1)
    (λ told said is. is) (λ rose. rose) c.plan_rows-acts.result answers)

pub returns-in-Err-clause-answer : goal.returns-in-Err-clause-answer
returns-in-Err-clause-answer g c =
    let trunk = reads (g.D.Disk.state c.args.trunk.now) in
    let branch = reads (g.B.Disk.state c.args.disk.now) in
    stops_first g.D.Disk.tells (g.D.Disk.tells × g.B.Disk.tells) (Takes trunk c.args.carried.now) (λ (o : Observation). PlansRows c.args.name.now o branch c.args.carried.now.rows)
    (HasRisen (g.D.Disk.faults c.args.trunk.now) (g.D.Disk.faults c.take.new.disk)) _ (λ told. told.0) (λ rose. inl rose) c.in-Err.why c.in-Err.ensures.answer

pub returns-in-Ok-clause-trunk_opened : goal.returns-in-Ok-clause-trunk_opened
returns-in-Ok-clause-trunk_opened g c =
    on_ok c.plan_rows-acts.result (g.D.Disk.tells → HasOpened (g.D.Disk.state c.args.trunk.now) (g.D.Disk.state c.take.new.disk)) (λ tells. c.in-Ok.ensures.opened tells (λ none. none))
