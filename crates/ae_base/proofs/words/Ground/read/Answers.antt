use Rattle.std.proofs.Common.{sym, ◌∙◌}
use Rattle.ae_base.proofs.WordsFound.{ground_found}
use Rattle.ae_base.proofs.words.Ground.read.Goals as goal

pub returns : goal.returns
returns c = λ during. let found = ground_found c.args.text.now during in (λ is. found.0 (sym c.find_word.ensures ∙ is), λ is. c.find_word.ensures ∙ found.1 is)
