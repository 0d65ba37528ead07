use Rattle.std.specs.Prelude.{option_copied}
use Rattle.ae_outside.specs.Causes.{HasRisen}
use Rattle.ae_outside.specs.State.{reads}
use Rattle.ae_exec.proofs.Endings.{ends_for}
use Rattle.ae_dist.proofs.Outcomes.{found_as, sending_refused}
use Rattle.ae_dist.proofs.sending.find.Goals as goal

pub returns-in-Ok-clause-answer : goal.returns-in-Ok-clause-answer
returns-in-Ok-clause-answer g c =
    found_as g.D.Disk.tells (reads (g.D.Disk.state c.args.disk.now)) (option_copied c.args.project) c.args.change c.in-Ok.state (HasRisen (g.D.Disk.faults c.args.disk.now) (g.D.Disk.faults c.open_project.new.disk)) c.sendable-found.result
    c.in-Ok.ensures.answer c.sendable-found.ensures.answer

pub returns-in-Err-clause-answer : goal.returns-in-Err-clause-answer
returns-in-Err-clause-answer g c =
    ends_for c.in-Err.why c.in-Err.ensures.answer (λ none. none) (λ refusal refused tells. sending_refused (reads (g.D.Disk.state c.args.disk.now)) (option_copied c.args.project) c.args.change refusal (refused tells))
    (λ name damaged. damaged) (λ rose. rose) (λ none. none)

pub returns-in-Ok-clause-opened : goal.returns-in-Ok-clause-opened
returns-in-Ok-clause-opened g c = λ tells unless. c.in-Ok.ensures.opened tells (λ none. none)
