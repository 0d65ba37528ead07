use Rattle.std.proofs.Common.{◌++◌, ◌∙◌, ℕ, ap, sym}
use Rattle.ae_text.specs.Canonical.{piece}
use Rattle.ae_text.proofs.Printed.{where_put}
use Rattle.ae_text.proofs.print.put_piece.Goals as goal

pub returns-in-9 : goal.returns-in-9
unfolding piece
returns-in-9 c =
    let out = c.args.out.now.items in
    where_put c.extend_from_slice-in-9.result _ _ _ _ c.extend_from_slice-in-9.ensures.items (λ put. put ∙ ap (λ (b : ℕ). out ++ piece b) (sym c.in-9.is))
