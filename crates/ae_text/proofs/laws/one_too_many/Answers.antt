use Rattle.ae_text.proofs.Deep.{one_too_many}
use Rattle.ae_text.proofs.laws.one_too_many.Goals as goal

pub returns : goal.returns
returns c bytes line e = one_too_many bytes line e
