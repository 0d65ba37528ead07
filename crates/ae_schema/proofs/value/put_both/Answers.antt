use Rattle.ae_schema.proofs.Put.{more_spaced}
use Rattle.ae_schema.proofs.value.put_both.Goals as goal

pub returns-clause-put : goal.returns-clause-put
returns-clause-put g c = more_spaced c.args.out.now.items _ _ _ _ c.in_ok-put_field.ensures.put c.in_ok-put_field-2.ensures.put
