use Rattle.ae_machine.proofs.LegalRightly.{legal-provided}
use Rattle.ae_laws.proofs.laws.legal_logs_are_provided.Goals as goal

pub returns : goal.returns
returns c = legal-provided
