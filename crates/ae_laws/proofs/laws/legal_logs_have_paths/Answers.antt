use Rattle.ae_machine.proofs.TypedPaths.{legal-paths, asked-paths}
use Rattle.ae_laws.proofs.laws.legal_logs_have_paths.Goals as goal

pub returns-clause-stand : goal.returns-clause-stand
returns-clause-stand c = legal-paths

pub returns-clause-asked : goal.returns-clause-asked
returns-clause-asked c = asked-paths
