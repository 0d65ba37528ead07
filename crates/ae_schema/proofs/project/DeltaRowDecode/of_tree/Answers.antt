use Rattle.std.proofs.Common.{Some, ap, ◌∙◌}
use Rattle.std.proofs.lemmas.Option.{same_Some}
use Rattle.ae_schema.proofs.Options.{no_none}
use Rattle.ae_schema.specs.Shapes.{delta_from}
use Rattle.ae_schema.proofs.project.DeltaRowDecode.of_tree.Goals as goal

pub returns-in-None-clause-only : goal.returns-in-None-clause-only
returns-in-None-clause-only c x fits e =
    no_none _ (rw c.in-None.is at (c.in_ok-fields.ensures.only (record { first = x.delta; rest = record { first = x.change; rest = record { first = x.when; rest = record { first = x.who; rest = record {} } } } }) (fits.0, (fits.1, (fits.2, (fits.3, tt)))) e))

pub returns-in-Some-clause-only : goal.returns-in-Some-clause-only
returns-in-Some-clause-only c x fits e =
    let same = same_Some _ _ (rw c.in-Some.is at (c.in_ok-fields.ensures.only (record { first = x.delta; rest = record { first = x.change; rest = record { first = x.when; rest = record { first = x.who; rest = record {} } } } }) (fits.0, (fits.1, (fits.2, (fits.3, tt)))) e)) in
    ap Some (c.delta_of.ensures ∙ ap delta_from same)
