use Rattle.ae_words.proofs.PathMore.{with_attributes-read}
use Rattle.ae_words.proofs.command.Command.take_attributes.Goals as goal

pub returns : goal.returns
returns c = rw c.is_some.ensures (with_attributes-read c.args.self.now c.args.value.now c.in_ok-self.field-0 c.in_ok-self.ensures)
