use Rattle.ae_machine.proofs.Evident.{legal-evident}
use Rattle.ae_laws.proofs.laws.legal_logs_are_evident.Goals as goal

pub returns : goal.returns
returns c = legal-evident
