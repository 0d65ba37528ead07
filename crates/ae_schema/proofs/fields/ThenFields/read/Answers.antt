use Rattle.std.proofs.Common.{ℕ, List, map, arith, Bor}
use Rattle.std.proofs.lemmas.List.{length-map}
use Rattle.ae_text.specs.View.{named_node}
use Rattle.ae_schema.proofs.Places.{missing_wrong, first_stop, first_at, behind_at}
use Rattle.ae_schema.proofs.fields.ThenFields.read.Goals as goal

pub returns-in_default-fields-clause-bad : goal.returns-in_default-fields-clause-bad
returns-in_default-fields-clause-bad g c = (
  omega arith,
  missing_wrong (λ z. g.A.Decode.Fits z.first × g.B.Fields.Fits z.rest)
      (record { first = g.met.A.Decode.some_value.0; rest = g.met.B.Fields.some_values.0 }) (g.met.A.Decode.some_value.1, g.met.B.Fields.some_values.1)
      (map (λ (s : Bor (List ℕ)). s.now) c.args.names.now) (rw length-map c.in-len1-up.len_at_least)
      (λ z. g.A.Decode.spelled z.first) (λ z. g.B.Fields.values z.rest) named_node c.args.fields.now c.in_default-fields.len_below,
)

pub returns-in-Err-clause-bad : goal.returns-in-Err-clause-bad
returns-in-Err-clause-bad g c =
    first_stop c.in-Err.stop c.in-Err.ensures.bad
    (first_at g.A.Decode.Fits g.B.Fields.Fits
    (record { first = g.met.A.Decode.some_value.0; rest = g.met.B.Fields.some_values.0 }) (g.met.A.Decode.some_value.1, g.met.B.Fields.some_values.1)
    g.A.Decode.spelled g.B.Fields.values (λ (s : Bor (List ℕ)). s.now) c.args.names.now _ c.in-len1-up.len_at_least
    named_node c.args.fields.now c.field-item.result c.field-item.is c.in-len1-up-fields.len_at_least)

pub returns-in-Err-read-clause-bad : goal.returns-in-Err-read-clause-bad
returns-in-Err-read-clause-bad g c =
    rw c.behind.ensures
    (behind_at g.A.Decode.Fits g.B.Fields.Fits g.A.Decode.spelled g.B.Fields.values
    (λ (s : Bor (List ℕ)). s.now) c.args.names.now _ c.in-len1-up.len_at_least
    named_node c.args.fields.now c.field-item.result c.field-item.is c.in-len1-up-fields.len_at_least
    c.in-Ok.first c.in-Ok.ensures.fits c.in-Ok.ensures.found c.in-Err-read.stop c.in-Err-read.ensures.bad)
