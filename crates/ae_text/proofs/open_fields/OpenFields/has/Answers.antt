use Rattle.std.proofs.Common.{◌∙◌}
use Rattle.ae_text.proofs.open_fields.OpenFields.has.Goals as goal

pub returns : goal.returns
returns c = c.contains.ensures ∙ c.args.self.now.names_are c.args.name.now
