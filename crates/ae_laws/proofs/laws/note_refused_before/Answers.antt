-- The law is a lemma on plain values.
use Rattle.ae_machine.proofs.Behind.{refused-is}
use Rattle.ae_laws.proofs.laws.note_refused_before.Goals as goal

pub returns : goal.returns
returns c = refused-is
