use Rattle.std.proofs.Common.{◌≡◌, false, sym, ◌∙◌, arith}
use Rattle.std.proofs.lemmas.Grind.{common_steps}
use Rattle.ae_words.specs.Spelling.{spells}
use Rattle.ae_words.proofs.MissingSign.{missing_sign}
use Rattle.ae_words.proofs.spelling.+spells_from.Goals as goal

pub returns-in-empty-word : goal.returns-in-empty-word
returns-in-empty-word t c =
    missing_sign c.args.is_cut c.args.pattern.now c.args.word.now c.in-len1-up.len_at_least c.in-empty-word.len_below
    (sym c.is_ascii_lowercase.ensures.value ∙ c.if-is_ascii_lowercase.false) c.if-c-eq95.false

pub returns-then-spells_from : goal.returns-then-spells_from
unfolding spells
returns-then-spells_from t c =
    let uncut : c.args.is_cut ≡ false = c.if-is_cut.false in
    grind (arith, common_steps)
