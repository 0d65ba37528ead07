use Rattle.ae_words.proofs.NextItem.{first_word, no_value, its_value}
use Rattle.ae_words.proofs.items.next_item.Goals as goal

pub returns-in-empty-clause-item : goal.returns-in-empty-clause-item
returns-in-empty-clause-item c =
    let split = first_word c.args.words.now c.first-item.result c.as_bytes.result.now c.first-item.is c.in-len1-up.len_at_least c.as_bytes.ensures.value in
    no_value c.args.at c.args.words.now _ c.as_bytes.result.now c.in-Asks.option split c.in-Asks.ensures c.in-empty.len_below

pub returns-in-len1-up-behind-clause-item : goal.returns-in-len1-up-behind-clause-item
returns-in-len1-up-behind-clause-item c =
    let split = first_word c.args.words.now c.first-item.result c.as_bytes.result.now c.first-item.is c.in-len1-up.len_at_least c.as_bytes.ensures.value in
    let next = first_word _ c.value-item.result c.as_bytes-in-len1-up-behind.result.now c.value-item.is c.in-len1-up-behind.len_at_least c.as_bytes-in-len1-up-behind.ensures.value in
    its_value c.args.at c.args.words.now _ _ c.as_bytes.result.now c.as_bytes-in-len1-up-behind.result.now c.in-Asks.option split c.in-Asks.ensures next
