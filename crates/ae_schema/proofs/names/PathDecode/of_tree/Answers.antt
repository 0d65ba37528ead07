use Rattle.ae_text.specs.View.{node}
use Rattle.ae_base.specs.Names.{is_path}
use Rattle.ae_schema.proofs.ReadAs.{read_text}
use Rattle.ae_schema.proofs.names.PathDecode.of_tree.Goals as goal

pub returns-in-Some-clause-some : goal.returns-in-Some-clause-some
returns-in-Some-clause-some c = read_text is_path (node c.args.tree.now) c.in-Some.text.now c.in-Some.ensures.some c.read.result c.read.ensures
