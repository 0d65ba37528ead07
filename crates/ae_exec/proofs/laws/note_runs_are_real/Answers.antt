use Rattle.ae_exec.proofs.RealRuns.{runs-are-real}
use Rattle.ae_exec.proofs.laws.note_runs_are_real.Goals as goal

pub returns : goal.returns
returns c = runs-are-real
