use Rattle.std.proofs.Common.{subst}
use Rattle.ae_machine.specs.Refused.{Answers}
use Rattle.ae_machine.proofs.Reviews.{begin-asked}
use Rattle.ae_machine.proofs.reviewing.review_begin.Goals as goal

pub returns : goal.returns
returns c = subst (λ reason. Answers reason c.review_pass.result) (begin-asked c.args.call.now c.note_sound.ensures c.requires.begin) c.review_pass.ensures
