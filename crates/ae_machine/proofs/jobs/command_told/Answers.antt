use Rattle.std.proofs.Common.{ap}
use Rattle.ae_log.proofs.AppliedSteps.{if-ok}
use Rattle.ae_machine.specs.Commands.{command_from}
use Rattle.ae_machine.proofs.jobs.command_told.Goals as goal

pub returns-clause-command : goal.returns-clause-command
returns-clause-command c = if-ok c.command_from.result _ _ c.command_from.ensures.command (ap (λ values. command_from values c.args.kind c.args.told.now.read.now) (c.in_ok-values.ensures.values c.args.kind))
