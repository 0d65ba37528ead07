use Rattle.std.proofs.Common.{sym, ◌∙◌}
use Rattle.ae_base.proofs.WordsFound.{cause_found}
use Rattle.ae_base.proofs.words.Cause.read.Goals as goal

pub returns : goal.returns
returns c = λ cause. let found = cause_found c.args.text.now cause in (λ is. found.0 (sym c.find_word.ensures ∙ is), λ is. c.find_word.ensures ∙ found.1 is)
