use Rattle.ae_exec.proofs.Named.{failed-in-part, named-alone}
use Rattle.ae_exec.proofs.laws.failed_commands_change_in_part.Goals as goal

pub returns-clause-paths : goal.returns-clause-paths
returns-clause-paths c = failed-in-part

pub returns-clause-named : goal.returns-clause-named
returns-clause-named c = named-alone
