use Rattle.ae_base.proofs.Results.{on_ok}
use Rattle.ae_base.specs.declared.want.Want.TheVariants as want
use Rattle.ae_outside.specs.Causes.{HasRisen}
use Rattle.ae_outside.specs.State.{reads}
use Rattle.ae_vault.specs.Commit.{IsClean}
use Rattle.ae_exec.proofs.Opened.{loading_unopened}
use Rattle.ae_branch.specs.Begin.{refuses_trunk}
use Rattle.ae_branch.proofs.Stepping.{not_opened_as, opened_as}
use Rattle.ae_branch.proofs.source.open_trunk.Goals as goal

pub returns-in-Ok-clause-answer : goal.returns-in-Ok-clause-answer
returns-in-Ok-clause-answer g c =
    opened_as g.D.Disk.tells want.Nothing (refuses_trunk c.args.who.now c.args.delta) (reads (g.D.Disk.state c.args.trunk.now)) c.in-Ok.loaded (HasRisen (g.D.Disk.faults c.args.trunk.now) (g.D.Disk.faults c.load_project.new.disk)) c.taken.result
    c.in-Ok.ensures.shown c.taken.ensures

pub returns-in-Ok-clause-clean : goal.returns-in-Ok-clause-clean
returns-in-Ok-clause-clean g c = on_ok c.taken.result (g.D.Disk.tells → IsClean (g.D.Disk.state c.load_project.new.disk)) c.in-Ok.ensures.clean

pub returns-in-Err-clause-answer : goal.returns-in-Err-clause-answer
returns-in-Err-clause-answer g c =
    not_opened_as g.D.Disk.tells want.Nothing (refuses_trunk c.args.who.now c.args.delta) (reads (g.D.Disk.state c.args.trunk.now)) (HasRisen (g.D.Disk.faults c.args.trunk.now) (g.D.Disk.faults c.load_project.new.disk)) c.in-Err.why c.in-Err.ensures.stopped

pub returns-in-Ok-clause-opened : goal.returns-in-Ok-clause-opened
returns-in-Ok-clause-opened g c = λ tells unless. c.in-Ok.ensures.second tells

pub returns-in-Err-clause-opened : goal.returns-in-Err-clause-opened
returns-in-Err-clause-opened g c = λ tells unless. absurd (unless (loading_unopened _ _ c.in-Err.why c.in-Err.ensures.stopped))
