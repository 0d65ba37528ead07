use Rattle.ae_exec.proofs.Released.{released-evident, candidate-packed}
use Rattle.ae_exec.proofs.laws.released_files_are_evident.Goals as goal

pub returns-clause-released : goal.returns-clause-released
returns-clause-released c = released-evident

pub returns-clause-candidate : goal.returns-clause-candidate
returns-clause-candidate c = candidate-packed
