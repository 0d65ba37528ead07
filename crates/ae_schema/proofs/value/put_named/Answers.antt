use Rattle.std.proofs.Common.{[], ◌∷◌}
use Rattle.ae_text.specs.Canonical.{value_text}
use Rattle.ae_text.proofs.Printed.{four_put}
use Rattle.ae_schema.proofs.value.put_named.Goals as goal

pub returns-clause-text : goal.returns-clause-text
returns-clause-text g c =
    four_put c.args.out.now.items c.args.name.now (32 ∷ 61 ∷ 32 ∷ []) (value_text (g.T.Decode.spelled c.args.value.now)) (59 ∷ []) _ _ _ _
    c.in_ok-extend_from_slice.ensures.items c.in_ok-extend_from_slice-2.ensures.items c.in_ok-put.ensures.text c.in_ok-push.ensures.items
