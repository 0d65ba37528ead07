use Rattle.std.proofs.Common.{Err, inr, refl}
use Rattle.std.specs.Prelude.{◌⊎◌}
use Rattle.ae_outside.proofs.Rising.{risen_later}
use Rattle.ae_outside.specs.Causes.{HasRisen}
use Rattle.ae_outside.specs.Image.{IsSame}
use Rattle.ae_outside.specs.Time.{goes_on_refl}
use Rattle.ae_outside.specs.State.{reads}
use Rattle.ae_exec.proofs.Ended.{only-read, still-disk}
use Rattle.ae_exec.proofs.Opened.{opened_still}
use Rattle.ae_exec.proofs.Upward.{unchanged_alike}
use Rattle.ae_branch.specs.declared.carrying.Carried.{Carried}
use Rattle.ae_branch.specs.Finish.{Brings, Carries, Finishes}
use Rattle.ae_branch.proofs.Finish.{brings_before, either_later, finishes_one}
use Rattle.ae_branch.proofs.Steps.{found_first, goes_next, only_one, stops_first}
use Rattle.ae_branch.proofs.Stepping.{answers_as}
use Rattle.ae_branch.proofs.finishing.prepare_finish.Goals as goal

pub returns-in-Ok-clause-answer : goal.returns-in-Ok-clause-answer
returns-in-Ok-clause-answer g c =
    let trunk = reads (g.D.Disk.state c.args.trunk.now) in
    let old = reads (g.B.Disk.state c.args.disk.now) in
    let mid = reads (g.B.Disk.state c.carry.new.disk) in
    goes_next (g.D.Disk.tells × g.B.Disk.tells) (Carries old) (λ (carried : Carried). Brings c.args.name.now trunk old carried)
    (HasRisen (g.D.Disk.faults c.args.trunk.now) (g.D.Disk.faults c.bring.new.trunk) ⊎ HasRisen (g.B.Disk.faults c.carry.new.disk) (g.B.Disk.faults c.bring.new.disk)) (HasRisen (g.D.Disk.faults c.args.trunk.now) (g.D.Disk.faults c.bring.new.trunk) ⊎ HasRisen (g.B.Disk.faults c.args.disk.now) (g.B.Disk.faults c.bring.new.disk))
    (either_later (HasRisen (g.D.Disk.faults c.args.trunk.now) (g.D.Disk.faults c.bring.new.trunk)) (HasRisen (g.B.Disk.faults c.carry.new.disk) (g.B.Disk.faults c.bring.new.disk)) (HasRisen (g.B.Disk.faults c.args.disk.now) (g.B.Disk.faults c.bring.new.disk)) (λ rose. risen_later (g.B.Disk.faults c.args.disk.now) (g.B.Disk.faults c.carry.new.disk) (g.B.Disk.faults c.bring.new.disk) c.carry.ensures.later rose)) c.in-Ok.carried
    (λ told. found_first g.B.Disk.tells (Carries old) (HasRisen (g.B.Disk.faults c.args.disk.now) (g.B.Disk.faults c.carry.new.disk)) c.in-Ok.carried c.in-Ok.ensures.answer told.1) c.bring.result
    (answers_as (g.D.Disk.tells × g.B.Disk.tells) (g.D.Disk.tells × g.B.Disk.tells) (Brings c.args.name.now trunk mid c.in-Ok.carried) (Brings c.args.name.now trunk old c.in-Ok.carried) (HasRisen (g.D.Disk.faults c.args.trunk.now) (g.D.Disk.faults c.bring.new.trunk) ⊎ HasRisen (g.B.Disk.faults c.carry.new.disk) (g.B.Disk.faults c.bring.new.disk)) (HasRisen (g.D.Disk.faults c.args.trunk.now) (g.D.Disk.faults c.bring.new.trunk) ⊎ HasRisen (g.B.Disk.faults c.carry.new.disk) (g.B.Disk.faults c.bring.new.disk)) (λ told. told)
    (λ told said is. brings_before c.args.name.now trunk mid old (unchanged_alike old mid ((c.carry.ensures.disk told.1).unchanged tt)).bytes c.in-Ok.carried said is) (λ rose. rose) c.bring.result c.bring.ensures.answer)

pub returns-in-Ok-clause-only : goal.returns-in-Ok-clause-only
returns-in-Ok-clause-only g c = λ trunk_tells disk_tells said so.
    let trunk = reads (g.D.Disk.state c.args.trunk.now) in
    let old = reads (g.B.Disk.state c.args.disk.now) in
    only_one (g.D.Disk.tells × g.B.Disk.tells) (Finishes c.args.name.now trunk old) (HasRisen (g.D.Disk.faults c.args.trunk.now) (g.D.Disk.faults c.bring.new.trunk) ⊎ HasRisen (g.B.Disk.faults c.args.disk.now) (g.B.Disk.faults c.bring.new.disk)) (finishes_one c.args.name.now trunk old) (trunk_tells, disk_tells) c.bring.result (returns-in-Ok-clause-answer g c) said so

pub returns-in-Ok-clause-disk : goal.returns-in-Ok-clause-disk
returns-in-Ok-clause-disk g c = λ tells. still-disk (g.B.Disk.state c.args.disk.now) (g.B.Disk.state c.carry.new.disk) (g.B.Disk.state c.bring.new.disk) _ (c.carry.ensures.disk tells) (c.bring.ensures.same tells)

pub returns-in-Err-clause-answer : goal.returns-in-Err-clause-answer
returns-in-Err-clause-answer g c =
    let trunk = reads (g.D.Disk.state c.args.trunk.now) in
    let old = reads (g.B.Disk.state c.args.disk.now) in
    stops_first g.B.Disk.tells (g.D.Disk.tells × g.B.Disk.tells) (Carries old) (λ (carried : Carried). Brings c.args.name.now trunk old carried) (HasRisen (g.B.Disk.faults c.args.disk.now) (g.B.Disk.faults c.carry.new.disk)) _ (λ told. told.1)
    (λ rose. inr rose) c.in-Err.why c.in-Err.ensures.answer

pub returns-in-Err-clause-only : goal.returns-in-Err-clause-only
returns-in-Err-clause-only g c = λ trunk_tells disk_tells said so.
    let trunk = reads (g.D.Disk.state c.args.trunk.now) in
    let old = reads (g.B.Disk.state c.args.disk.now) in
    only_one (g.D.Disk.tells × g.B.Disk.tells) (Finishes c.args.name.now trunk old)
    (HasRisen (g.D.Disk.faults c.args.trunk.now) (g.D.Disk.faults c.args.trunk.now) ⊎ HasRisen (g.B.Disk.faults c.args.disk.now) (g.B.Disk.faults c.carry.new.disk)) (finishes_one c.args.name.now trunk old) (trunk_tells, disk_tells) (Err c.in-Err.why) (returns-in-Err-clause-answer g c) said so

pub returns-in-Ok-clause-opened : goal.returns-in-Ok-clause-opened
returns-in-Ok-clause-opened g c = λ tells unless.
    opened_still ⊥ (g.B.Disk.state c.args.disk.now) (g.B.Disk.state c.carry.new.disk) (g.B.Disk.state c.bring.new.disk) (c.in-Ok.ensures.opened tells) (c.bring.ensures.same tells) (λ none. none)

pub returns-in-Err-clause-trunk : goal.returns-in-Err-clause-trunk
returns-in-Err-clause-trunk g c = λ tells. only-read (g.D.Disk.state c.args.trunk.now) (g.D.Disk.state c.args.trunk.now) (goes_on_refl IsSame (g.D.Disk.state c.args.trunk.now) (λ image. refl))
