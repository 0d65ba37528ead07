use Rattle.std.proofs.Common.{Ok}
use Rattle.std.specs.Prelude.{None}
use Rattle.ae_base.specs.declared.want.Want.TheVariants as want
use Rattle.ae_outside.specs.Causes.{HasRisen}
use Rattle.ae_outside.specs.State.{reads}
use Rattle.ae_types.specs.Observation.{Observation}
use Rattle.ae_dist.specs.Sending.{refuses_project}
use Rattle.ae_branch.specs.Finish.{TakesAs}
use Rattle.ae_branch.specs.Steps.{Opens}
use Rattle.ae_branch.proofs.Steps.{found_first, goes_next, stops_first}
use Rattle.ae_branch.proofs.Stepping.{answers_as}
use Rattle.ae_branch.proofs.Told.{opens_as, opens_err}
use Rattle.ae_branch.proofs.current.take.Goals as goal

pub returns-in-Ok-clause-answer : goal.returns-in-Ok-clause-answer
returns-in-Ok-clause-answer g c =
    let old = reads (g.D.Disk.state c.args.disk.now) in
    goes_next g.D.Disk.tells (Opens want.Nothing (refuses_project None) old) (λ (o : Observation). TakesAs o c.args.carried.now) (HasRisen (g.D.Disk.faults c.args.disk.now) (g.D.Disk.faults c.open_project.new.disk)) _ (λ rose. rose) c.in-Ok.state
    (found_first g.D.Disk.tells (Opens want.Nothing (refuses_project None) old) _ c.in-Ok.state
    (opens_as g.D.Disk.tells want.Nothing old None (HasRisen (g.D.Disk.faults c.args.disk.now) (g.D.Disk.faults c.open_project.new.disk)) (Ok c.in-Ok.state) c.in-Ok.ensures.answer)) c.taking.result
    (answers_as (Unit {0}) g.D.Disk.tells (TakesAs c.in-Ok.state c.args.carried.now) (TakesAs c.in-Ok.state c.args.carried.now) ⊥ _ (λ tells. tt) (λ tells said is. is) (λ none. absurd none) c.taking.result c.taking.ensures)

pub returns-in-Err-clause-answer : goal.returns-in-Err-clause-answer
returns-in-Err-clause-answer g c =
    let old = reads (g.D.Disk.state c.args.disk.now) in
    stops_first g.D.Disk.tells g.D.Disk.tells (Opens want.Nothing (refuses_project None) old) (λ (o : Observation). TakesAs o c.args.carried.now) _ _ (λ tells. tells) (λ rose. rose) c.in-Err.why
    (opens_err g.D.Disk.tells want.Nothing old None (HasRisen (g.D.Disk.faults c.args.disk.now) (g.D.Disk.faults c.open_project.new.disk)) c.in-Err.why c.in-Err.ensures.answer)

pub returns-in-Ok-clause-opened : goal.returns-in-Ok-clause-opened
returns-in-Ok-clause-opened g c = λ tells unless. c.in-Ok.ensures.opened tells (λ none. none)
