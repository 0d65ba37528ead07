use Rattle.std.proofs.Common.{rules, not, nat_eq}
use Rattle.std.proofs.lemmas.Fn.{filter_same}
use Rattle.ae_types.specs.Found.{number_of_change}
use Rattle.ae_log.proofs.changes.take_change.Goals as goal

pub returns : goal.returns
returns c = filter_same _ (λ change. not (nat_eq c.args.number (number_of_change change))) _ (λ x b f' called. search rules) _ _ c.retain.ensures.filtered
