use Rattle.std.proofs.Common.{Some, ap, ◌∙◌}
use Rattle.std.proofs.lemmas.Option.{same_Some}
use Rattle.ae_schema.proofs.Options.{no_none}
use Rattle.ae_schema.specs.Shapes.{evidence_from}
use Rattle.ae_schema.proofs.change_rows.EvidenceDecode.of_tree.Goals as goal

pub returns-in-None-clause-only : goal.returns-in-None-clause-only
returns-in-None-clause-only c x fits e =
    no_none _ (rw c.in-None.is at (c.in_ok-fields.ensures.only (record { first = x.during; rest = record { first = x.kind; rest = record { first = x.path; rest = record { first = x.status; rest = record { first = x.clean; rest = record { first = x.subject; rest = record { first = x.when; rest = record { first = x.who; rest = record {} } } } } } } } }) (tt, (tt, (fits.0.0, (fits.0.1, (tt, (fits.1.0, (fits.1.1, (fits.1.2, tt)))))))) e))

pub returns-in-Some-clause-only : goal.returns-in-Some-clause-only
returns-in-Some-clause-only c x fits e =
    let same = same_Some _ _ (rw c.in-Some.is at (c.in_ok-fields.ensures.only (record { first = x.during; rest = record { first = x.kind; rest = record { first = x.path; rest = record { first = x.status; rest = record { first = x.clean; rest = record { first = x.subject; rest = record { first = x.when; rest = record { first = x.who; rest = record {} } } } } } } } }) (tt, (tt, (fits.0.0, (fits.0.1, (tt, (fits.1.0, (fits.1.1, (fits.1.2, tt)))))))) e)) in
    ap Some (c.evidence_of.ensures ∙ ap evidence_from same)
