use Rattle.ae_calls.proofs.Brought.{ended-bring}
use Rattle.ae_calls.proofs.laws.ended_branches_bring.Goals as goal

pub returns : goal.returns
returns g c = ended-bring _ _ _ _ _
