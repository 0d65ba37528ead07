use Rattle.std.proofs.Common.{map, [], ◌∷◌}
use Rattle.ae_text.specs.View.{items_of}
use Rattle.ae_text.specs.Canonical.{items_text}
use Rattle.ae_text.proofs.Printed.{three_put}
use Rattle.ae_schema.proofs.lists.put_list.Goals as goal

pub returns-clause-text : goal.returns-clause-text
returns-clause-text g c =
    three_put c.args.out.now.items (91 ∷ []) (items_text [] (items_of (map g.T.Decode.spelled c.args.rows.now))) (93 ∷ []) _ _ _
    c.in_ok-push.ensures.items c.in_ok-put_rows.ensures.text c.in_ok-push-2.ensures.items
