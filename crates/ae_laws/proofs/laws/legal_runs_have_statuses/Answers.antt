use Rattle.ae_laws.proofs.RunStatuses.{legal-statuses}
use Rattle.ae_laws.proofs.laws.legal_runs_have_statuses.Goals as goal

pub returns : goal.returns
returns c = legal-statuses
