use Rattle.ae_exec.proofs.Once.{ends-once}
use Rattle.ae_exec.proofs.laws.ends_once.Goals as goal

pub returns : goal.returns
returns c = ends-once
