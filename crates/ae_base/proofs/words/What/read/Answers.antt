use Rattle.std.proofs.Common.{sym, ◌∙◌}
use Rattle.ae_base.proofs.WordsFound.{what_found}
use Rattle.ae_base.proofs.words.What.read.Goals as goal

pub returns : goal.returns
returns c = λ what. let found = what_found c.args.text.now what in (λ is. found.0 (sym c.find_word.ensures ∙ is), λ is. c.find_word.ensures ∙ found.1 is)
