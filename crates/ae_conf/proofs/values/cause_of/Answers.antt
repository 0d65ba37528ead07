use Rattle.std.proofs.Common.{◌≡◌}
use Rattle.ae_base.specs.Words.{cause_word}
use Rattle.ae_base.proofs.WordsFound.{cause_found}
use Rattle.ae_conf.proofs.Options.{same_option}
use Rattle.ae_conf.proofs.values.cause_of.Goals as goal

pub returns : goal.returns
returns c = same_option (λ x. c.args.word.now ≡ cause_word x) c.read.result _ c.read.ensures (cause_found c.args.word.now)
