use Rattle.std.proofs.Common.{◌≡◌}
use Rattle.ae_types.specs.Settings.{end_action_word}
use Rattle.ae_types.proofs.Settings.{end_action_found}
use Rattle.ae_conf.proofs.Options.{same_option}
use Rattle.ae_conf.proofs.values.end_action_of.Goals as goal

pub returns : goal.returns
returns c = same_option (λ x. c.args.word.now ≡ end_action_word x) c.read.result _ c.read.ensures (end_action_found c.args.word.now)
