use Rattle.ae_lines.proofs.LineLemmas.{utf8_word}
use Rattle.ae_lines.proofs.line.word_of.Goals as goal

pub unreachable-requires : goal.unreachable-requires
unreachable-requires c = c.in-Err.ensures.cases.0 (utf8_word c.args.word.now c.requires)
