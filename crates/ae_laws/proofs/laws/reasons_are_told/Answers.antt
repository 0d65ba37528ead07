use Rattle.ae_laws.proofs.ReasonsTold.{reasons-told}
use Rattle.ae_laws.proofs.laws.reasons_are_told.Goals as goal

pub returns : goal.returns
returns c = reasons-told
