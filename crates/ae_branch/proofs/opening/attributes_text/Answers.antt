use Rattle.std.proofs.Common.{sym, subst, ◌∙◌, ap}
use Rattle.ae_text.specs.Canonical.{text}
use Rattle.ae_text.specs.Tree.{Node}
use Rattle.ae_text.specs.WellFormed.{IsWellFormed}
use Rattle.ae_branch.proofs.BranchAttributes.{branch_attributes_well_formed}
use Rattle.ae_branch.proofs.opening.attributes_text.Goals as goal

pub print_tree-requires : goal.print_tree-requires
print_tree-requires c = subst (λ (n : Node). IsWellFormed n) (sym c.in_ok-tree.ensures) (branch_attributes_well_formed c.args.attributes.now)

pub returns : goal.returns
returns c = c.of.ensures ∙ c.in_ok-print_tree.ensures.value ∙ ap text c.in_ok-tree.ensures
