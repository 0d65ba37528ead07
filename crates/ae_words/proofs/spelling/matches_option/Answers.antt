use Rattle.std.proofs.Common.{false, sym, ◌∙◌}
use Rattle.ae_words.proofs.Rule.{sound, complete}
use Rattle.ae_words.proofs.spelling.matches_option.Goals as goal

pub returns : goal.returns
returns c = (λ yes. sound false c.args.pattern.now c.args.word.now (sym c.spells_from.ensures ∙ yes), λ spelled. c.spells_from.ensures ∙ complete spelled)
