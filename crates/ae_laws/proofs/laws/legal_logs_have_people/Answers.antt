use Rattle.ae_laws.proofs.ProvidedTold.{legal-people}
use Rattle.ae_laws.proofs.laws.legal_logs_have_people.Goals as goal

pub returns : goal.returns
returns c = legal-people
