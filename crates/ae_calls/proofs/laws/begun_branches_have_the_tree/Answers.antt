use Rattle.ae_calls.proofs.Begun.{begins-have-tree}
use Rattle.ae_calls.proofs.laws.begun_branches_have_the_tree.Goals as goal

pub returns : goal.returns
returns g c = begins-have-tree _ _ _ _ _
