use Rattle.std.specs.Prelude.{option_copied}
use Rattle.ae_outside.specs.Causes.{HasRisen}
use Rattle.ae_outside.specs.State.{reads}
use Rattle.ae_dist.proofs.Outcomes.{written_as}
use Rattle.ae_dist.proofs.writing.write_change.Goals as goal

pub returns-in-Ok-clause-answer : goal.returns-in-Ok-clause-answer
returns-in-Ok-clause-answer g c =
    written_as g.D.Disk.tells (reads (g.D.Disk.state c.args.disk.now)) (option_copied c.args.project) c.args.change (HasRisen (g.D.Disk.faults c.args.disk.now) (g.D.Disk.faults c.bundle_of.new.disk)) c.in-Ok.bundle c.text_of.result
    c.in-Ok.ensures.answer c.text_of.ensures.text c.text_of.ensures.fails

pub returns-in-Ok-clause-opened : goal.returns-in-Ok-clause-opened
returns-in-Ok-clause-opened g c = λ tells unless. c.in-Ok.ensures.opened tells (λ none. none)
