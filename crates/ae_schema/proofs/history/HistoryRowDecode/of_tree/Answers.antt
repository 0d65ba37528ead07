use Rattle.std.proofs.Common.{Some, ap, ◌∙◌}
use Rattle.std.proofs.lemmas.Option.{same_Some}
use Rattle.ae_schema.proofs.Options.{no_none}
use Rattle.ae_schema.specs.Shapes.{history_from}
use Rattle.ae_schema.proofs.history.HistoryRowDecode.of_tree.Goals as goal

pub returns-in-None-clause-only : goal.returns-in-None-clause-only
returns-in-None-clause-only c x fits e =
    no_none _ (rw c.in-None.is at (c.in_ok-fields.ensures.only (record { first = x.what; rest = record { first = x.who; rest = record { first = x.when; rest = record { first = x.why; rest = record {} } } } }) (tt, (fits.0, (fits.1, (tt, tt)))) e))

pub returns-in-Some-clause-only : goal.returns-in-Some-clause-only
returns-in-Some-clause-only c x fits e =
    let same = same_Some _ _ (rw c.in-Some.is at (c.in_ok-fields.ensures.only (record { first = x.what; rest = record { first = x.who; rest = record { first = x.when; rest = record { first = x.why; rest = record {} } } } }) (tt, (fits.0, (fits.1, (tt, tt)))) e)) in
    ap Some (c.history_of.ensures ∙ ap history_from same)
