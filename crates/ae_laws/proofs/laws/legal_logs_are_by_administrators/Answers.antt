use Rattle.ae_laws.proofs.Administrators.{legal-by-administrators}
use Rattle.ae_laws.proofs.laws.legal_logs_are_by_administrators.Goals as goal

pub returns : goal.returns
returns c = legal-by-administrators
