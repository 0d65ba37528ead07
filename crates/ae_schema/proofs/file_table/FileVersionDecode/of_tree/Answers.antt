use Rattle.std.proofs.Common.{Some, ap, ◌∙◌}
use Rattle.std.proofs.lemmas.Option.{same_Some}
use Rattle.ae_schema.proofs.Options.{no_none}
use Rattle.ae_schema.specs.Shapes.{file_version_from}
use Rattle.ae_schema.proofs.file_table.FileVersionDecode.of_tree.Goals as goal

pub returns-in-None-clause-only : goal.returns-in-None-clause-only
returns-in-None-clause-only c x fits e =
    no_none _ (rw c.in-None.is at (c.in_ok-fields.ensures.only (record { first = x.delta; rest = record { first = x.usage; rest = record { first = x.version; rest = record {} } } }) (fits.0, (tt, (fits.1, tt))) e))

pub returns-in-Some-clause-only : goal.returns-in-Some-clause-only
returns-in-Some-clause-only c x fits e =
    let same = same_Some _ _ (rw c.in-Some.is at (c.in_ok-fields.ensures.only (record { first = x.delta; rest = record { first = x.usage; rest = record { first = x.version; rest = record {} } } }) (fits.0, (tt, (fits.1, tt))) e)) in
    ap Some (c.file_version_of.ensures ∙ ap file_version_from same)
