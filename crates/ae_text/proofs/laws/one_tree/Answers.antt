use Rattle.ae_text.proofs.Whole.{one_tree}
use Rattle.ae_text.proofs.laws.one_tree.Goals as goal

pub returns-clause-tree : goal.returns-clause-tree
returns-clause-tree c bytes tree other lines others h g = (one_tree bytes tree other lines others h g).0

pub returns-clause-lines : goal.returns-clause-lines
returns-clause-lines c bytes tree other lines others h g = (one_tree bytes tree other lines others h g).1
