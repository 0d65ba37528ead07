use Rattle.std.specs.Prelude.{◌⊎◌}
use Rattle.std.proofs.Common.{inl, refl}
use Rattle.ae_outside.specs.Image.{IsSame}
use Rattle.ae_outside.specs.Time.{goes_on_refl}
use Rattle.ae_outside.specs.Causes.{HasRisen}
use Rattle.ae_outside.specs.State.{reads}
use Rattle.ae_outside.proofs.Rising.{risen_later}
use Rattle.ae_exec.proofs.Ended.{only-read, still-disk}
use Rattle.ae_exec.proofs.Opened.{opened_still}
use Rattle.ae_exec.proofs.Upward.{unchanged_alike}
use Rattle.ae_branch.specs.Begin.{Begins}
use Rattle.ae_branch.proofs.BeginsOnce.{begins_one}
use Rattle.ae_branch.proofs.Begun.{begun_as, not_begun_as, risen_first}
use Rattle.ae_branch.proofs.Steps.{only_one}
use Rattle.ae_branch.proofs.beginning.prepare_begin.Goals as goal

pub returns-in-Ok-clause-answer : goal.returns-in-Ok-clause-answer
returns-in-Ok-clause-answer g c =
    begun_as g.D.Disk.tells g.B.Disk.tells (reads (g.D.Disk.state c.args.trunk.now)) (reads (g.D.Disk.state c.open_source.new.trunk)) (reads (g.B.Disk.state c.args.disk.now)) c.args.name.now c.args.delta c.args.who.now c.in-Ok.source
    (HasRisen (g.D.Disk.faults c.open_source.new.trunk) (g.D.Disk.faults c.begin_with.new.trunk) ⊎ HasRisen (g.B.Disk.faults c.args.disk.now) (g.B.Disk.faults c.begin_with.new.disk))
    (HasRisen (g.D.Disk.faults c.args.trunk.now) (g.D.Disk.faults c.open_source.new.trunk))
    (HasRisen (g.D.Disk.faults c.args.trunk.now) (g.D.Disk.faults c.begin_with.new.trunk) ⊎ HasRisen (g.B.Disk.faults c.args.disk.now) (g.B.Disk.faults c.begin_with.new.disk)) c.begin_with.result
    (λ tells. (unchanged_alike (reads (g.D.Disk.state c.args.trunk.now)) (reads (g.D.Disk.state c.open_source.new.trunk)) ((c.open_source.ensures.disk tells).unchanged tt)).bytes) c.in-Ok.ensures.answer
    (risen_first (HasRisen (g.D.Disk.faults c.open_source.new.trunk) (g.D.Disk.faults c.begin_with.new.trunk)) (HasRisen (g.D.Disk.faults c.args.trunk.now) (g.D.Disk.faults c.begin_with.new.trunk))
    (HasRisen (g.B.Disk.faults c.args.disk.now) (g.B.Disk.faults c.begin_with.new.disk)) (λ rose. risen_later _ _ _ c.open_source.ensures.later rose))
    c.begin_with.ensures.answer

pub returns-in-Ok-clause-only : goal.returns-in-Ok-clause-only
returns-in-Ok-clause-only g c = λ tells told said so.
    only_one (g.D.Disk.tells × g.B.Disk.tells) (Begins (reads (g.D.Disk.state c.args.trunk.now)) (reads (g.B.Disk.state c.args.disk.now)) c.args.name.now c.args.delta c.args.who.now)
    (HasRisen (g.D.Disk.faults c.args.trunk.now) (g.D.Disk.faults c.begin_with.new.trunk) ⊎ HasRisen (g.B.Disk.faults c.args.disk.now) (g.B.Disk.faults c.begin_with.new.disk))
    (begins_one (reads (g.D.Disk.state c.args.trunk.now)) (reads (g.B.Disk.state c.args.disk.now)) c.args.name.now c.args.delta c.args.who.now) (tells, told) c.begin_with.result (returns-in-Ok-clause-answer g c) said so

pub returns-in-Ok-clause-trunk : goal.returns-in-Ok-clause-trunk
returns-in-Ok-clause-trunk g c = λ tells. still-disk (g.D.Disk.state c.args.trunk.now) (g.D.Disk.state c.open_source.new.trunk) (g.D.Disk.state c.begin_with.new.trunk) _ (c.open_source.ensures.disk tells) (c.begin_with.ensures.trunk tells)

pub returns-in-Err-clause-answer : goal.returns-in-Err-clause-answer
returns-in-Err-clause-answer g c =
    not_begun_as g.D.Disk.tells g.B.Disk.tells (reads (g.D.Disk.state c.args.trunk.now)) (reads (g.B.Disk.state c.args.disk.now)) c.args.name.now c.args.delta c.args.who.now
    (HasRisen (g.D.Disk.faults c.args.trunk.now) (g.D.Disk.faults c.open_source.new.trunk))
    (HasRisen (g.D.Disk.faults c.args.trunk.now) (g.D.Disk.faults c.open_source.new.trunk) ⊎ HasRisen (g.B.Disk.faults c.args.disk.now) (g.B.Disk.faults c.args.disk.now)) c.in-Err.why inl c.in-Err.ensures.answer

pub returns-in-Err-clause-only : goal.returns-in-Err-clause-only
returns-in-Err-clause-only g c = λ tells told said so.
    only_one (g.D.Disk.tells × g.B.Disk.tells) (Begins (reads (g.D.Disk.state c.args.trunk.now)) (reads (g.B.Disk.state c.args.disk.now)) c.args.name.now c.args.delta c.args.who.now)
    (HasRisen (g.D.Disk.faults c.args.trunk.now) (g.D.Disk.faults c.open_source.new.trunk) ⊎ HasRisen (g.B.Disk.faults c.args.disk.now) (g.B.Disk.faults c.args.disk.now))
    (begins_one (reads (g.D.Disk.state c.args.trunk.now)) (reads (g.B.Disk.state c.args.disk.now)) c.args.name.now c.args.delta c.args.who.now) (tells, told) _ (returns-in-Err-clause-answer g c) said so

pub returns-in-Err-clause-disk : goal.returns-in-Err-clause-disk
returns-in-Err-clause-disk g c = λ tells. only-read (g.B.Disk.state c.args.disk.now) (g.B.Disk.state c.args.disk.now) (goes_on_refl IsSame (g.B.Disk.state c.args.disk.now) (λ image. refl))

pub returns-in-Ok-clause-trunk_opened : goal.returns-in-Ok-clause-trunk_opened
returns-in-Ok-clause-trunk_opened g c = λ tells unless.
    opened_still ⊥ (g.D.Disk.state c.args.trunk.now) (g.D.Disk.state c.open_source.new.trunk) (g.D.Disk.state c.begin_with.new.trunk) (c.in-Ok.ensures.opened tells) (c.begin_with.ensures.trunk tells) (λ none. none)
