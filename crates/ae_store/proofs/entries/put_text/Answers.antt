use Rattle.std.proofs.Common.{◌≡◌, true, rules}
use Rattle.std.specs.Str.{bytes_eq}
use Rattle.ae_store.proofs.BatchEntries.{unchanged}
use Rattle.ae_store.proofs.entries.put_text.Goals as goal

pub returns-then-eq-clause-content : goal.returns-then-eq-clause-content
returns-then-eq-clause-content c = λ other.
    let same : bytes_eq c.args.old.now c.args.new.items ≡ true = search rules in
    unchanged c.args.entries.now.items c.args.name c.args.old.now c.args.new.items other same
