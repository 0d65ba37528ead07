use Rattle.ae_types.proofs.RulesAre.{blamed-sound, sound-blamed}
use Rattle.ae_types.proofs.laws.note_rules.Goals as goal

pub returns : goal.returns
returns c = λ o. (blamed-sound o, sound-blamed o)
