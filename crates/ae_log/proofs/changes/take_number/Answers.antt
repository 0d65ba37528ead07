use Rattle.std.proofs.Common.{rules, not, nat_eq}
use Rattle.std.proofs.lemmas.Fn.{filter_same}
use Rattle.ae_log.proofs.changes.take_number.Goals as goal

pub returns : goal.returns
returns c = filter_same _ (λ other. not (nat_eq c.args.number other)) _ (λ x b f' called. search rules) _ _ c.retain.ensures.filtered
