use Rattle.std.proofs.Common.{◌∙◌, ap}
use Rattle.std.specs.List.{list_all}
use Rattle.ae_types.specs.Versions.{has_units, meet, no_two}
use Rattle.ae_types.proofs.Versions.{all-with, meet-with}
use Rattle.ae_rules.proofs.versions.units_fit.Goals as goal

pub units_are_apart-requires : goal.units_are_apart-requires
units_are_apart-requires c = ap (list_all has_units) (c.as_mut_slice.ensures.value ∙ c.in_ok-some.ensures) ∙ all-with c.args.versions.now

pub returns : goal.returns
returns c = c.units_are_apart.ensures ∙ ap (no_two meet) (c.as_mut_slice.ensures.value ∙ c.in_ok-some.ensures) ∙ meet-with c.args.versions.now
