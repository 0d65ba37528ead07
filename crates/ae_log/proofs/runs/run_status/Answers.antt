use Rattle.std.proofs.Common.{◌∙◌, ap, sym}
use Rattle.ae_log.specs.Runs.{run_status}
use Rattle.ae_log.proofs.runs.run_status.Goals as goal

pub returns-in-Code : goal.returns-in-Code
returns-in-Code c = c.from.ensures ∙ ap run_status (sym c.in-Code.is)
