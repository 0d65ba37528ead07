use Rattle.ae_exec.proofs.FittingRuns.{runs-fit}
use Rattle.ae_exec.proofs.laws.note_runs_fit.Goals as goal

pub returns : goal.returns
returns c = runs-fit
