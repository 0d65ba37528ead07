use Rattle.std.proofs.Common.{arith}
use Rattle.ae_base.proofs.ByteFacts.{along}
use Rattle.ae_text.proofs.print.note_bytes.Goals as goal

pub returns : goal.returns
returns c = along c.args.bytes.now (λ i. omega (arith, c.type_inv.bytes i))
