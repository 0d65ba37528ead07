use Rattle.std.proofs.Common.{Some, ap, ◌∙◌, sym, length}
use Rattle.std.proofs.lemmas.Option.{same_Some}
use Rattle.ae_schema.proofs.Options.{no_none}
use Rattle.ae_schema.specs.Shapes.{row_from}
use Rattle.ae_schema.proofs.file_table.FileRowDecode.of_tree.Goals as goal

pub returns-in-None-clause-only : goal.returns-in-None-clause-only
returns-in-None-clause-only c x fits e =
    no_none _ (rw c.in-None.is at (c.in_ok-fields.ensures.only (record { first = x.path; rest = record { first = length x.past; rest = record { first = x.past; rest = record {} } } }) (fits.0, (fits.1, (fits.2, tt))) e))

pub returns-in-Some-clause-only : goal.returns-in-Some-clause-only
returns-in-Some-clause-only c x fits e =
    let same = same_Some _ _ (rw c.in-Some.is at (c.in_ok-fields.ensures.only (record { first = x.path; rest = record { first = length x.past; rest = record { first = x.past; rest = record {} } } }) (fits.0, (fits.1, (fits.2, tt))) e)) in
    let edit = ap (λ f. f.rest.first) same in
    let past = ap (λ f. length f.rest.rest.first) same in
    c.row_of.ensures.only (edit ∙ sym past) ∙ ap (λ f. Some (row_from f)) same
