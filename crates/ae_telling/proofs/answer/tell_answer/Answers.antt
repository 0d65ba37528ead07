use Rattle.std.proofs.Common.{refl}
use Rattle.ae_telling.specs.Answered.{stopped}
use Rattle.ae_telling.proofs.Answered.{text_told}
use Rattle.ae_telling.proofs.answer.tell_answer.Goals as goal

pub returns-in-Ok-clause-told : goal.returns-in-Ok-clause-told
returns-in-Ok-clause-told g c = text_told _ _ _ _ _ _ c.in-Ok.text c.in-Ok.is c.told_command.ensures.outcome c.told_command.ensures.text c.tell_alone.ensures.ends (λ told. refl)

pub returns-in-Err-clause-told : goal.returns-in-Err-clause-told
returns-in-Err-clause-told g c = stopped c.in-Err.why c.in-Err.is c.tell_why.ensures.told (λ told. refl)
