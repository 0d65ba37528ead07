use Rattle.ae_schema.proofs.Put.{more_spaced}
use Rattle.ae_schema.proofs.change_rows.ChangeFileRow.put_fields.Goals as goal

pub returns-clause-put : goal.returns-clause-put
returns-clause-put c =
    let out = c.args.out.now.items in
    more_spaced out _ _ _ _ (more_spaced out _ _ _ _ c.in_ok-put_both.ensures.put c.in_ok-put_both-2.ensures.put) c.in_ok-put_field.ensures.put
