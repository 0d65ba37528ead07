use Rattle.ae_laws.proofs.ProvidedTold.{legal-loses-none}
use Rattle.ae_laws.proofs.laws.legal_logs_lose_none.Goals as goal

pub returns : goal.returns
returns c = legal-loses-none
