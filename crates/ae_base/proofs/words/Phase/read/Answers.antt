use Rattle.std.proofs.Common.{sym, ◌∙◌}
use Rattle.ae_base.proofs.WordsFound.{phase_found}
use Rattle.ae_base.proofs.words.Phase.read.Goals as goal

pub returns : goal.returns
returns c = λ phase. let found = phase_found c.args.text.now phase in (λ is. found.0 (sym c.find_word.ensures ∙ is), λ is. c.find_word.ensures ∙ found.1 is)
