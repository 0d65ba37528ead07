use Rattle.ae_rlang.proofs.Fitting.{good-fits}
use Rattle.ae_rlang.proofs.laws.operands_fit.Goals as goal

pub returns : goal.returns
returns c = good-fits
