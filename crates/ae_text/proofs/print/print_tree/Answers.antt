use Rattle.std.proofs.Common.{◌++◌, List, ℕ, ap, ◌∙◌}
use Rattle.ae_text.specs.View.{node}
use Rattle.ae_text.specs.Canonical.{text}
use Rattle.ae_text.proofs.Again.{text_again}
use Rattle.ae_text.proofs.print.print_tree.Goals as goal

pub returns-clause-again : goal.returns-clause-again
returns-clause-again c =
    let tree = node c.args.tree.now in
    let printed = c.in_ok-put_text.ensures.text ∙ ap (λ (xs : List ℕ). xs ++ text tree) c.new-out.ensures.items in
    text_again tree c.put_text.new.out.items c.requires c.in_ok-put_text.ensures.types printed
