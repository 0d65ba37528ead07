use Rattle.std.proofs.Common.{sym, ◌∙◌}
use Rattle.ae_base.proofs.WordsFound.{kind_found}
use Rattle.ae_base.proofs.words.Kind.read.Goals as goal

pub returns : goal.returns
returns c = λ kind. let found = kind_found c.args.text.now kind in (λ is. found.0 (sym c.find_word.ensures ∙ is), λ is. c.find_word.ensures ∙ found.1 is)
