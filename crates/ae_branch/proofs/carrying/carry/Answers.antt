use Rattle.std.proofs.Common.{List, Ok, subst, ℕ}
use Rattle.ae_base.proofs.Results.{on_ok}
use Rattle.ae_base.specs.declared.want.Want.TheVariants as want
use Rattle.std.specs.Prelude.{None}
use Rattle.ae_outside.proofs.Rising.{risen_later}
use Rattle.ae_outside.specs.Causes.{HasRisen}
use Rattle.ae_outside.specs.State.{reads}
use Rattle.ae_types.specs.Observation.{Observation}
use Rattle.ae_vault.specs.Commit.{IsClean}
use Rattle.ae_exec.proofs.Ended.{still-disk}
use Rattle.ae_exec.proofs.Loading.{clean_still}
use Rattle.ae_exec.proofs.Opened.{opened_still}
use Rattle.ae_dist.specs.Sending.{refuses_project}
use Rattle.ae_branch.specs.Finish.{CarriesAs}
use Rattle.ae_branch.specs.Origin.{origin_bytes}
use Rattle.ae_branch.specs.Steps.{Opens}
use Rattle.ae_branch.proofs.OriginRead.{origin_stays}
use Rattle.ae_branch.proofs.Steps.{found_first, goes_next, stops_first}
use Rattle.ae_branch.proofs.Stepping.{answers_as}
use Rattle.ae_branch.proofs.Told.{opens_as, opens_err}
use Rattle.ae_branch.proofs.carrying.carry.Goals as goal

pub returns-in-Ok-clause-answer : goal.returns-in-Ok-clause-answer
returns-in-Ok-clause-answer g c =
    let old = reads (g.B.Disk.state c.args.disk.now) in
    let mid = reads (g.B.Disk.state c.open_project.new.disk) in
    goes_next g.B.Disk.tells (Opens want.All (refuses_project None) old) (λ (o : Observation). CarriesAs o (origin_bytes old)) (HasRisen (g.B.Disk.faults c.open_project.new.disk) (g.B.Disk.faults c.carry_of-carried.new.disk)) _
    (λ rose. risen_later _ _ _ c.open_project.ensures.later rose) c.in-Ok.state
    (found_first g.B.Disk.tells (Opens want.All (refuses_project None) old) _ c.in-Ok.state (opens_as g.B.Disk.tells want.All old None (HasRisen (g.B.Disk.faults c.args.disk.now) (g.B.Disk.faults c.open_project.new.disk)) (Ok c.in-Ok.state) c.in-Ok.ensures.answer))
    c.carry_of-carried.result
    (answers_as g.B.Disk.tells g.B.Disk.tells (CarriesAs c.in-Ok.state (origin_bytes mid)) (CarriesAs c.in-Ok.state (origin_bytes old)) _ _ (λ tells. tells)
    (λ tells said is. subst (λ (bytes : List ℕ). CarriesAs c.in-Ok.state bytes said) (origin_stays old mid (c.open_project.ensures.disk tells).others) is) (λ rose. rose) c.carry_of-carried.result c.carry_of-carried.ensures.answer)

pub returns-in-Ok-clause-disk : goal.returns-in-Ok-clause-disk
returns-in-Ok-clause-disk g c = λ tells. still-disk (g.B.Disk.state c.args.disk.now) (g.B.Disk.state c.open_project.new.disk) (g.B.Disk.state c.carry_of-carried.new.disk) _ (c.open_project.ensures.disk tells) (c.carry_of-carried.ensures.same tells)

pub returns-in-Ok-clause-clean : goal.returns-in-Ok-clause-clean
returns-in-Ok-clause-clean g c =
    on_ok c.carry_of-carried.result (g.B.Disk.tells → IsClean (g.B.Disk.state c.carry_of-carried.new.disk))
    (λ tells. clean_still (g.B.Disk.state c.open_project.new.disk) (g.B.Disk.state c.carry_of-carried.new.disk) (c.in-Ok.ensures.clean tells) (c.carry_of-carried.ensures.same tells))

pub returns-in-Err-clause-answer : goal.returns-in-Err-clause-answer
returns-in-Err-clause-answer g c =
    let old = reads (g.B.Disk.state c.args.disk.now) in
    stops_first g.B.Disk.tells g.B.Disk.tells (Opens want.All (refuses_project None) old) (λ (o : Observation). CarriesAs o (origin_bytes old)) _ _ (λ tells. tells) (λ rose. rose) c.in-Err.why
    (opens_err g.B.Disk.tells want.All old None (HasRisen (g.B.Disk.faults c.args.disk.now) (g.B.Disk.faults c.open_project.new.disk)) c.in-Err.why c.in-Err.ensures.answer)

pub returns-in-Ok-clause-opened : goal.returns-in-Ok-clause-opened
returns-in-Ok-clause-opened g c = λ tells unless.
    opened_still ⊥ (g.B.Disk.state c.args.disk.now) (g.B.Disk.state c.open_project.new.disk) (g.B.Disk.state c.carry_of-carried.new.disk) (c.in-Ok.ensures.opened tells) (c.carry_of-carried.ensures.same tells) (λ none. none)
