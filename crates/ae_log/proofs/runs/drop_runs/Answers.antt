use Rattle.std.proofs.Common.{◌∙◌, ap, rules, not}
use Rattle.std.specs.Prelude.{filter}
use Rattle.std.proofs.lemmas.Fn.{filter_same}
use Rattle.ae_types.specs.declared.change.Evidence.{Evidence}
use Rattle.ae_types.specs.Runs.{same_during}
use Rattle.ae_log.proofs.runs.drop_runs.Goals as goal

pub returns : goal.returns
returns c =
    c.of.ensures ∙ filter_same _ (λ (row : Evidence). not (same_during c.args.during row.during)) _ (λ x b f' called. search rules) _ _ c.retain.ensures.filtered
    ∙ ap (filter (λ (row : Evidence). not (same_during c.args.during row.during))) (c.into_vec-rows.ensures ∙ c.replace-old.ensures.value)
