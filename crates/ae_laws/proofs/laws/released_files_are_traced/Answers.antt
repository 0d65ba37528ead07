use Rattle.ae_machine.proofs.Released.{legal-released}
use Rattle.ae_laws.proofs.laws.released_files_are_traced.Goals as goal

pub returns : goal.returns
returns c = legal-released
