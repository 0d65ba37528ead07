use Rattle.ae_exec.proofs.Legally.{performed-is-legal}
use Rattle.ae_exec.proofs.laws.performed_is_legal.Goals as goal

pub returns : goal.returns
returns c = performed-is-legal
