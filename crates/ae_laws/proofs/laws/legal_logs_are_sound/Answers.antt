use Rattle.ae_machine.proofs.AcceptedLogs.{legal-stands}
use Rattle.ae_machine.proofs.LegalRightly.{legal-sound, legal-blameless}
use Rattle.ae_laws.proofs.laws.legal_logs_are_sound.Goals as goal

pub returns-clause-stands : goal.returns-clause-stands
returns-clause-stands c = legal-stands

pub returns-clause-sound : goal.returns-clause-sound
returns-clause-sound c = legal-sound

pub returns-clause-blameless : goal.returns-clause-blameless
returns-clause-blameless c = legal-blameless
