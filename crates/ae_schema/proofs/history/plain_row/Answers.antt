use Rattle.ae_schema.proofs.Options.{no_none}
use Rattle.ae_schema.proofs.history.plain_row.Goals as goal

pub returns-in-None-clause-only : goal.returns-in-None-clause-only
returns-in-None-clause-only c x fits e =
    no_none _ (rw c.in-None.is at (c.in_ok-fields.ensures.only (record { first = x.what; rest = record { first = x.who; rest = record { first = x.when; rest = record {} } } }) (tt, (fits.0, (fits.1, tt))) e))
