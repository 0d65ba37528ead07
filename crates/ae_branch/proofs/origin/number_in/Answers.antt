use Rattle.std.proofs.Common.{◌∙◌}
use Rattle.ae_branch.proofs.OriginRead.{delta_read, no_end, no_front}
use Rattle.ae_branch.proofs.origin.number_in.Goals as goal

pub returns-in_default : goal.returns-in_default
returns-in_default c = λ delta low is. absurd (no_front c.args.text.now c.in_default.ensures.none delta is)

pub returns-in-Some-text_before : goal.returns-in-Some-text_before
returns-in-Some-text_before c = λ delta low is.
    c.read.ensures ∙ delta_read c.args.text.now c.in-Some.rest.now c.in-Some-text_before.digits.now delta c.in-Some.ensures.some c.in-Some-text_before.ensures.some low is

pub returns-in-None : goal.returns-in-None
returns-in-None c = λ delta low is. absurd (no_end c.args.text.now c.in-Some.rest.now c.in-Some.ensures.some c.in-None.ensures.none delta is)
