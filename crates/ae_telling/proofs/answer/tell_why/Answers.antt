use Rattle.std.proofs.Common.{◌∙◌}
use Rattle.ae_telling.proofs.Answered.{why_told}
use Rattle.ae_telling.proofs.answer.tell_why.Goals as goal

pub returns-clause-told : goal.returns-clause-told
returns-clause-told g c = why_told c.args.why _ _ _ _ _ c.told_command.ensures.outcome (c.of-nothing.ensures ∙ c.new.ensures.items) c.told_command.ensures.text c.tell_alone.ensures.ends
