use Rattle.std.proofs.Common.{sym, ◌∙◌}
use Rattle.ae_base.proofs.WordsFound.{role_found}
use Rattle.ae_base.proofs.words.Role.read.Goals as goal

pub returns : goal.returns
returns c = λ role. let found = role_found c.args.text.now role in (λ is. found.0 (sym c.find_word.ensures ∙ is), λ is. c.find_word.ensures ∙ found.1 is)
