use Rattle.ae_text.specs.WellFormed.{max_depth}
use Rattle.ae_text.specs.Steps.{state_of}
use Rattle.ae_text.proofs.Reader.{falls}
use Rattle.ae_text.proofs.read.turn.Goals as goal

pub returns-in-Ok-step-clause-less : goal.returns-in-Ok-step-clause-less
returns-in-Ok-step-clause-less c going =
    falls max_depth (state_of c.args.state) (state_of c.in-Ok-step.next) _ c.args.rest.now c.skip_gap-here.result.now c.in-Ok.read.1.now c.in-Ok-step.ensures c.in-Ok.ensures.shorter c.in-Ok.ensures.within c.skip_gap-here.ensures.shorter going
