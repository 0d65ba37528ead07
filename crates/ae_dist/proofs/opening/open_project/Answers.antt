use Rattle.std.specs.Prelude.{option_copied}
use Rattle.ae_base.proofs.Results.{on_ok}
use Rattle.ae_outside.specs.Causes.{HasRisen}
use Rattle.ae_outside.specs.State.{reads}
use Rattle.ae_vault.specs.Commit.{IsClean}
use Rattle.ae_exec.proofs.Endings.{ends_for}
use Rattle.ae_exec.proofs.Opened.{loading_unopened}
use Rattle.ae_dist.proofs.Outcomes.{taken_from}
use Rattle.ae_dist.proofs.opening.open_project.Goals as goal

pub returns-in-Ok-clause-answer : goal.returns-in-Ok-clause-answer
returns-in-Ok-clause-answer g c =
    taken_from c.args.want g.D.Disk.tells (reads (g.D.Disk.state c.args.disk.now)) (option_copied c.args.name) c.in-Ok.loaded (HasRisen (g.D.Disk.faults c.args.disk.now) (g.D.Disk.faults c.load_project.new.disk)) c.taken.result
    c.in-Ok.ensures.shown c.taken.ensures

pub returns-in-Ok-clause-clean : goal.returns-in-Ok-clause-clean
returns-in-Ok-clause-clean g c = on_ok c.taken.result (g.D.Disk.tells → IsClean (g.D.Disk.state c.load_project.new.disk)) c.in-Ok.ensures.clean

pub returns-in-Err-clause-answer : goal.returns-in-Err-clause-answer
returns-in-Err-clause-answer g c = ends_for c.in-Err.why c.in-Err.ensures.stopped (λ none. none) (λ refusal none. absurd none) (λ name is. is) (λ rose. rose) (λ none. none)

pub returns-in-Ok-clause-opened : goal.returns-in-Ok-clause-opened
returns-in-Ok-clause-opened g c = λ tells unless. c.in-Ok.ensures.second tells

pub returns-in-Err-clause-opened : goal.returns-in-Err-clause-opened
returns-in-Err-clause-opened g c = λ tells unless. absurd (unless (loading_unopened _ _ c.in-Err.why c.in-Err.ensures.stopped))
