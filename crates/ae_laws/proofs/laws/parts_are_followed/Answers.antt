use Rattle.ae_machine.proofs.PartEvents.{parts-are-followed}
use Rattle.ae_laws.proofs.laws.parts_are_followed.Goals as goal

pub returns : goal.returns
returns c = parts-are-followed
