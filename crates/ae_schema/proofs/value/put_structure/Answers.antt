use Rattle.std.proofs.Common.{[], ◌∷◌}
use Rattle.ae_text.proofs.Printed.{three_put}
use Rattle.ae_schema.specs.Put.{spaced, inside}
use Rattle.ae_schema.proofs.value.put_structure.Goals as goal

pub returns-clause-text : goal.returns-clause-text
returns-clause-text g c =
    three_put c.args.out.now.items (123 ∷ []) (spaced (inside (g.T.Decode.spelled c.args.row.now))) (32 ∷ 125 ∷ []) _ _ _
    c.in_ok-push.ensures.items c.in_ok-put_fields.ensures.put.text c.in_ok-extend_from_slice.ensures.items

pub returns-clause-types : goal.returns-clause-types
returns-clause-types g c = c.in_ok-put_fields.ensures.put.types
