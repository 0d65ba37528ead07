use Rattle.ae_base.proofs.Results.{on_ok}
use Rattle.ae_outside.specs.Causes.{HasRisen}
use Rattle.ae_outside.specs.State.{reads}
use Rattle.ae_vault.specs.Commit.{IsClean}
use Rattle.ae_exec.specs.Opened.{HasOpened}
use Rattle.ae_branch.proofs.Begun.{filled_as, not_vacant_as}
use Rattle.ae_branch.proofs.beginning.begin_with.Goals as goal

pub returns-in-Ok-clause-answer : goal.returns-in-Ok-clause-answer
returns-in-Ok-clause-answer g c =
    filled_as g.D.Disk.tells g.B.Disk.tells (reads (g.D.Disk.state c.args.trunk.now)) (reads (g.B.Disk.state c.args.disk.now)) c.args.source (HasRisen (g.D.Disk.faults c.args.trunk.now) (g.D.Disk.faults c.fill_source.new.trunk))
    (HasRisen (g.B.Disk.faults c.args.disk.now) (g.B.Disk.faults c.check_vacant.new.disk)) tt c.fill_source.result c.in-Ok.ensures.answer c.fill_source.ensures.answer

pub returns-in-Ok-clause-clean : goal.returns-in-Ok-clause-clean
returns-in-Ok-clause-clean g c = on_ok c.fill_source.result (g.B.Disk.tells → IsClean (g.B.Disk.state c.check_vacant.new.disk)) c.in-Ok.ensures.clean

pub returns-in-Err-clause-answer : goal.returns-in-Err-clause-answer
returns-in-Err-clause-answer g c =
    not_vacant_as g.D.Disk.tells g.B.Disk.tells (reads (g.D.Disk.state c.args.trunk.now)) (reads (g.B.Disk.state c.args.disk.now)) c.args.source (HasRisen (g.D.Disk.faults c.args.trunk.now) (g.D.Disk.faults c.args.trunk.now))
    (HasRisen (g.B.Disk.faults c.args.disk.now) (g.B.Disk.faults c.check_vacant.new.disk)) c.in-Err.why c.in-Err.ensures.answer

pub returns-in-Ok-clause-opened : goal.returns-in-Ok-clause-opened
returns-in-Ok-clause-opened g c =
    on_ok c.fill_source.result (g.B.Disk.tells → HasOpened (g.B.Disk.state c.args.disk.now) (g.B.Disk.state c.check_vacant.new.disk)) (λ tells. c.in-Ok.ensures.opened tells (λ none. none))
