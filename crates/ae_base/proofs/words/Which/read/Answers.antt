use Rattle.std.proofs.Common.{sym, ◌∙◌}
use Rattle.ae_base.proofs.WordsFound.{which_found}
use Rattle.ae_base.proofs.words.Which.read.Goals as goal

pub returns : goal.returns
returns c = λ which. let found = which_found c.args.text.now which in (λ is. found.0 (sym c.find_word.ensures ∙ is), λ is. c.find_word.ensures ∙ found.1 is)
