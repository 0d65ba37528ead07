use Rattle.ae_generated.proofs.Whole.{are_scripts, hold_no_tests}
use Rattle.ae_generated.proofs.laws.generated_texts_are_scripts.Goals as goal

pub returns-clause-scripts : goal.returns-clause-scripts
returns-clause-scripts c = are_scripts

pub returns-clause-no_tests : goal.returns-clause-no_tests
returns-clause-no_tests c = hold_no_tests
