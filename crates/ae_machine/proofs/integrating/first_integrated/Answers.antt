use Rattle.std.proofs.Common.{rules, tests}
use Rattle.std.proofs.lemmas.Iterator.{YieldsList-from_slice}
use Rattle.std.proofs.lemmas.Iterator.Search.{find_from_yields_List}
use Rattle.ae_types.specs.declared.change.Change.{Change}
use Rattle.ae_types.specs.Phases.{is_integrating}
use Rattle.ae_machine.proofs.integrating.first_integrated.Goals as goal

pub returns : goal.returns
returns c =
    find_from_yields_List (λ (other : Change). is_integrating other.phase) _ _ c.find.result c.find.ensures.ran (YieldsList-from_slice c.args.changes.now cc) (λ x b q k. search (rules, tests))
