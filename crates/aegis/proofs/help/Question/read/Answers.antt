use Rattle.std.proofs.Common.{option_map, ap, sym, ◌∙◌}
use Rattle.aegis.specs.declared.help.Question.TheVariants.{HelpOf}
use Rattle.aegis.proofs.Asked.{asked_of}
use Rattle.aegis.proofs.help.Question.read.Goals as goal

-- src/help.rt:240:13
pub returns-in-Some-clause-about : goal.returns-in-Some-clause-about
returns-in-Some-clause-about c function = (
  λ same. (c.asked_about.ensures function).0 (c.in-Some.is ∙ ap asked_of same),
  λ asks. ap (option_map HelpOf) (sym c.in-Some.is ∙ (c.asked_about.ensures function).1 asks),
)

-- src/help.rt:225:5
pub returns-in-Some-asked_of_other-clause-about : goal.returns-in-Some-asked_of_other-clause-about
returns-in-Some-asked_of_other-clause-about c function = (
  λ same. (c.asked_about.ensures function).0 (c.in_default.is ∙ ap asked_of same),
  λ asks. absurd (c.in_default.not-Some function ((c.asked_about.ensures function).1 asks)),
)

-- src/help.rt:225:5
pub returns-in-None-clause-about : goal.returns-in-None-clause-about
returns-in-None-clause-about c function = (
  λ same. (c.asked_about.ensures function).0 (c.in_default.is ∙ ap asked_of same),
  λ asks. absurd (c.in_default.not-Some function ((c.asked_about.ensures function).1 asks)),
)
