use Rattle.std.proofs.Common.{sym, ◌∙◌}
use Rattle.ae_base.proofs.WordsFound.{action_found}
use Rattle.ae_base.proofs.words.Action.read.Goals as goal

pub returns : goal.returns
returns c = λ action. let found = action_found c.args.text.now action in (λ is. found.0 (sym c.find_word.ensures ∙ is), λ is. c.find_word.ensures ∙ found.1 is)
