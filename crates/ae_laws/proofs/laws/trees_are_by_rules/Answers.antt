use Rattle.ae_machine.proofs.ByRule.{base-tree-rule, candidate-rule, paths-ever-rule, paths-with-rule}
use Rattle.ae_laws.proofs.laws.trees_are_by_rules.Goals as goal

pub returns-clause-paths : goal.returns-clause-paths
returns-clause-paths c = paths-with-rule

pub returns-clause-ever : goal.returns-clause-ever
returns-clause-ever c = paths-ever-rule

pub returns-clause-candidate : goal.returns-clause-candidate
returns-clause-candidate c = candidate-rule

pub returns-clause-base : goal.returns-clause-base
returns-clause-base c = base-tree-rule
