use Rattle.ae_machine.proofs.LegalRightly.{legal-facts}
use Rattle.ae_laws.proofs.laws.legal_logs_have_facts.Goals as goal

pub returns : goal.returns
returns c = legal-facts
