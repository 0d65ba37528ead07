use Rattle.ae_text.specs.View.{node, named_node}
use Rattle.ae_schema.proofs.Options.{is_empty}
use Rattle.ae_schema.proofs.version.is_empty_structure.Goals as goal

pub returns-in-Some : goal.returns-in-Some
returns-in-Some c = is_empty c.has_none.result (node c.args.tree.now) named_node c.in-Some.fields.now c.in-Some.ensures.some c.has_none.ensures
