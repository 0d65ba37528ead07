use Rattle.ae_text.specs.View.{named_node}
use Rattle.ae_schema.proofs.ToldFormats.{first_told}
use Rattle.ae_schema.proofs.formats.format_of.Goals as goal

pub returns-in-len1-up-clause-some : goal.returns-in-len1-up-clause-some
returns-in-len1-up-clause-some c =
    first_told named_node c.args.fields.now c.field-item.result c.in-len1-up.len_at_least c.field-item.is c.format_told.result c.format_told.ensures.some
