use Rattle.ae_machine.proofs.Partly.{parts-answer, parts-are-called}
use Rattle.ae_laws.proofs.laws.parts_are_answered.Goals as goal

pub returns-clause-answer : goal.returns-clause-answer
returns-clause-answer c = parts-answer

pub returns-clause-called : goal.returns-clause-called
returns-clause-called c = parts-are-called
