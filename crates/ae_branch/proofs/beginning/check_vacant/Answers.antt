use Rattle.ae_base.proofs.Results.{on_ok}
use Rattle.ae_outside.specs.Causes.{HasRisen}
use Rattle.ae_outside.specs.State.{reads}
use Rattle.ae_vault.specs.Commit.{IsClean}
use Rattle.ae_exec.proofs.Opened.{loading_unopened}
use Rattle.ae_branch.proofs.Begun.{unread_as, vacant_as}
use Rattle.ae_branch.proofs.beginning.check_vacant.Goals as goal

pub returns-in-Ok-clause-answer : goal.returns-in-Ok-clause-answer
returns-in-Ok-clause-answer g c =
    vacant_as g.B.Disk.tells (reads (g.B.Disk.state c.args.disk.now)) c.in-Ok.loaded (HasRisen (g.B.Disk.faults c.args.disk.now) (g.B.Disk.faults c.load_project.new.disk)) c.left.result c.in-Ok.ensures.shown c.left.ensures

pub returns-in-Ok-clause-clean : goal.returns-in-Ok-clause-clean
returns-in-Ok-clause-clean g c = on_ok c.left.result (g.B.Disk.tells → IsClean (g.B.Disk.state c.load_project.new.disk)) c.in-Ok.ensures.clean

pub returns-in-Err-clause-answer : goal.returns-in-Err-clause-answer
returns-in-Err-clause-answer g c = unread_as g.B.Disk.tells (reads (g.B.Disk.state c.args.disk.now)) (HasRisen (g.B.Disk.faults c.args.disk.now) (g.B.Disk.faults c.load_project.new.disk)) c.in-Err.why c.in-Err.ensures.stopped

pub returns-in-Ok-clause-opened : goal.returns-in-Ok-clause-opened
returns-in-Ok-clause-opened g c = λ tells unless. c.in-Ok.ensures.second tells

pub returns-in-Err-clause-opened : goal.returns-in-Err-clause-opened
returns-in-Err-clause-opened g c = λ tells unless. absurd (unless (loading_unopened _ _ c.in-Err.why c.in-Err.ensures.stopped))
