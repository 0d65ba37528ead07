use Rattle.std.proofs.Common.{sym, ◌∙◌}
use Rattle.ae_words.proofs.Apart.{setting_found}
use Rattle.ae_words.proofs.table.Setting.read.Goals as goal

pub returns : goal.returns
returns c = λ x. let found = setting_found c.args.name.now x in (λ is. found.0 (sym c.find.ensures ∙ is), λ spelled. c.find.ensures ∙ found.1 spelled)
