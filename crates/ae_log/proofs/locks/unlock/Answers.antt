use Rattle.std.proofs.Common.{rules, not, nat_eq}
use Rattle.std.proofs.lemmas.Fn.{filter_same}
use Rattle.ae_types.specs.declared.file_table.Lock.{Lock}
use Rattle.ae_log.proofs.locks.unlock.Goals as goal

pub returns : goal.returns
returns c = filter_same _ (λ (lock : Lock). not (nat_eq c.args.number lock.change)) _ (λ x b f' called. search rules) _ _ c.retain.ensures.filtered
