use Rattle.std.proofs.Common.{ap, sym, ◌∙◌}
use Rattle.ae_words.proofs.NextItem.{first_word}
use Rattle.ae_words.specs.Items.{function}
use Rattle.ae_words.proofs.read.first_function.Goals as goal

pub returns-in-len1-up : goal.returns-in-len1-up
returns-in-len1-up c =
    let split = first_word c.args.words.now c.first-item.result c.as_bytes.result.now c.first-item.is c.in-len1-up.len_at_least c.as_bytes.ensures.value in
    c.named_function.ensures ∙ ap function (sym split)
