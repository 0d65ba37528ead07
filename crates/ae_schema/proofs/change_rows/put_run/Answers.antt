use Rattle.ae_schema.proofs.Put.{more_spaced}
use Rattle.ae_schema.proofs.change_rows.put_run.Goals as goal

pub returns-clause-put : goal.returns-clause-put
returns-clause-put c = more_spaced c.args.out.now.items _ _ _ _ c.in_ok-put_both.ensures.put c.in_ok-put_both-2.ensures.put
