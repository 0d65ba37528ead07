use Rattle.ae_laws.proofs.Reversed.{reverses}
use Rattle.ae_laws.proofs.laws.commands_are_reversed.Goals as goal

pub returns : goal.returns
returns c = reverses
