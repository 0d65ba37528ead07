use Rattle.ae_branch_words.proofs.Spelt.{same_as_rule}
use Rattle.ae_branch_words.proofs.words.spells.Goals as goal

pub returns : goal.returns
returns c = same_as_rule c.matches_option.result c.args.pattern.now c.args.name.now c.matches_option.ensures
