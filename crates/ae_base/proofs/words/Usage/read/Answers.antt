use Rattle.std.proofs.Common.{sym, ◌∙◌}
use Rattle.ae_base.proofs.WordsFound.{usage_found}
use Rattle.ae_base.proofs.words.Usage.read.Goals as goal

pub returns : goal.returns
returns c = λ usage. let found = usage_found c.args.text.now usage in (λ is. found.0 (sym c.find_word.ensures ∙ is), λ is. c.find_word.ensures ∙ found.1 is)
